use Rattle.std.proofs.Common.{arith}
use Rattle.dnr_spec.proofs.Labels.{ends_in_number-split}
use Rattle.dnr_spec.proofs.host.is_ip_host.Goals as goal

pub returns-else-starts_with : goal.returns-else-starts_with
returns-else-starts_with c =
    let last = ends_in_number-split c.args.host.now c.split_last_label.result.1.now c.split_last_label.result.0 c.split_last_label.ensures.labels in
    grind (arith, last)

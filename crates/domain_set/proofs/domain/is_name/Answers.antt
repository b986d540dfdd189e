use Rattle.std.proofs.Common.{sym}
use Rattle.domain_set.proofs.Labels.{is_rest-name}
use Rattle.domain_set.proofs.domain.is_name.Goals as goal

pub loop-byte-init : goal.loop-byte-init
loop-byte-init c = sym (is_rest-name c.args.text.now)

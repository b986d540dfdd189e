use Rattle.std.proofs.Common.{sym, ◌∙◌}
use Rattle.update_spec.specs.Entries.{install_one}
use Rattle.rule_keep.proofs.Started.{starts}
use Rattle.rule_keep.proofs.listed.started.Goals as goal

pub returns-in-Ok : goal.returns-in-Ok
returns-in-Ok c =
    starts c.args.name.now c.in-Ok.store
    ((λ i. install_one (sym c.empty.ensures i) (sym c.in_ok-extension.ensures i)) ∙ c.in-Ok.ensures.installed)

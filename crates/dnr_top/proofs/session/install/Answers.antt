use Rattle.std.proofs.Common.{subst}
use Rattle.session_load.specs.Stops.{StopsAs}
use Rattle.session_spec.specs.Loading.{Loaded}
use Rattle.dnr_top.specs.Run.{PrintsInstall}
use Rattle.dnr_top.proofs.Tasks.{install_refused}
use Rattle.dnr_top.proofs.session.install.Goals as goal

pub returns-in-Err-Refused-clause-stops : goal.returns-in-Err-Refused-clause-stops
returns-in-Err-Refused-clause-stops c =
    subst (λ (l : Loaded). StopsAs (PrintsInstall l) ⊥ c.refused.result) c.loaded.view_is
    (install_refused (record { suffixes = c.loaded.inside.suffixes; extensions = c.loaded.inside.extensions.items })
    c.in-Err-Refused.field-0 c.in-Err-Refused.name c.in-Err-Refused.refusal c.refused.result
    c.in-Err-Refused.field-0-is c.in-Err-Refused.ensures.refused (rw c.as_str.ensures at c.refused.ensures))

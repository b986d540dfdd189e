use Rattle.std.proofs.Common.{subst}
use Rattle.session_spec.specs.Loading.{Loaded}
use Rattle.engine.specs.Opening.{EndsInstalling}
use Rattle.engine.proofs.Installs.{refused_install}
use Rattle.engine.proofs.installing.install.Goals as goal

pub returns-in-Err-Refused-clause-refused : goal.returns-in-Err-Refused-clause-refused
returns-in-Err-Refused-clause-refused c =
    subst (λ (l : Loaded). EndsInstalling l c.refused.result) c.loaded.view_is
    (refused_install (record { suffixes = c.loaded.inside.suffixes; extensions = c.loaded.inside.extensions.items })
    c.in-Err-Refused.field-0 c.in-Err-Refused.name c.in-Err-Refused.refusal c.refused.result
    c.in-Err-Refused.field-0-is c.in-Err-Refused.ensures.refused (rw c.as_str.ensures at c.refused.ensures))

-- A shelf that says nothing of names may be asked for any.
use Rattle.std.specs.Prelude.{Option, Some, None, IfSome}
use Rattle.keep_run_spec.specs.Words.{Keeping}

pub any_may_be_asked : (P : Keeping → Type 0) (words : Option Keeping) → ((keeping : Keeping) → P keeping) → IfSome words P
any_may_be_asked P None all = tt
any_may_be_asked P (Some keeping) all = all keeping

-- What a pattern was built from.
use Rattle.std.specs.Prelude.{ℕ, List, Bool}

pub record Origin : Type 0 where
  pub pattern : List ℕ
  pub fold : Bool

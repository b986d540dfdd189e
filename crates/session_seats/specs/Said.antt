-- What is answered to a line.
use Rattle.std.specs.Prelude.{ℕ, List, Bool}

-- the line's place in its round, after how many updates, whether the host failed, and the bytes that are printed
pub record Said : Type 0 where
  pub place : ℕ
  pub number : ℕ
  pub failed : Bool
  pub text : List ℕ

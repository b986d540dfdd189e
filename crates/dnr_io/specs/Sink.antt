-- What a sink has taken of some bytes.
use Rattle.std.specs.Prelude.{◌≡◌, ℕ, List, ◌++◌, Option}
use Rattle.std.specs.Io.KnownBytes.{Appends}

-- some first bytes of these were taken
pub record AppendsPart (before now : Option (List ℕ)) (bytes : List ℕ) : Type 0 where
  pub sent : List ℕ
  pub rest : List ℕ
  pub split : bytes ≡ sent ++ rest
  pub taken : Appends before now sent

-- What an engine goes on from.
use Rattle.std.specs.Prelude.{ℕ, List, [], ◌∷◌}
use Rattle.dnr_spec.specs.Suffixes.{SuffixRule}
use Rattle.rule_spec.specs.State.{State}

-- the suffix rules, the state, and how often its pattern hosts failed: the one that reads rules, and the one that finds
-- matches
pub record Held : Type 0 where
  pub suffixes : List SuffixRule
  pub state : State
  pub faults : List ℕ

-- two hosts that have not failed
abbrev pub no_faults : List ℕ
no_faults = 0 ∷ 0 ∷ []

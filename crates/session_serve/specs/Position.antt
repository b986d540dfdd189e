-- What a session goes on from: its suffix list, its state, whether it takes updates, and whether requests are followed.
use Rattle.std.specs.Prelude.{List, Bool}
use Rattle.dnr_spec.specs.Suffixes.{SuffixRule}
use Rattle.rule_spec.specs.State.{State}

pub record Position : Type 0 where
  pub suffixes : List SuffixRule
  pub state : State
  pub updates : Bool
  pub follows : Bool

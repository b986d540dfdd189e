-- What a generation decides by: the suffix rules, and what is installed.
use Rattle.std.specs.Prelude.{List}
use Rattle.dnr_spec.specs.Suffixes.{SuffixRule}
use Rattle.rule_spec.specs.State.{State}

pub record Basis : Type 0 where
  pub suffixes : List SuffixRule
  pub state : State

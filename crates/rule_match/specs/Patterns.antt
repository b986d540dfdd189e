-- When a rule asks for a match of its regexFilter: where all else of its condition holds.
use Rattle.std.specs.Prelude.{List, Bool, None, ◌&&◌, is_some}
use Rattle.dnr_base.specs.Request.{Part}
use Rattle.dnr_spec.specs.Suffixes.{SuffixRule}
use Rattle.rule_spec.specs.Rule.{Condition, Rule}
use Rattle.rule_spec.specs.Holds.{holds_on}

abbrev pub without_pattern : Condition → Condition
without_pattern condition = record condition { regex_filter = None }

abbrev pub asks_for_match : List SuffixRule → Rule → Part → Bool
asks_for_match suffixes rule part =
    is_some rule.condition.regex_filter && holds_on suffixes (without_pattern rule.condition) part

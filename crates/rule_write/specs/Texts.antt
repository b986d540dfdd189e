-- How the text of rules grows.
use Rattle.std.specs.Prelude.{ℕ, List, ◌++◌, length, nat_lt}
use Rattle.serde_json.specs.Written.{comma_if, compact_text}
use Rattle.rule_spec.specs.Rule.{Rule}
use Rattle.json_spec.specs.Written.{rule_written}

-- a text with a rule more: behind a comma, unless it is the opening bracket alone
abbrev pub with_rule : List ℕ → Rule → List ℕ
with_rule text rule = text ++ (comma_if (nat_lt 1 (length text)) ++ compact_text (rule_written rule))

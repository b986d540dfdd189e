-- When one value stands for another as a rule.
use Rattle.std.specs.Prelude.{◌≡◌, ℕ, Bool}
use Rattle.serde_json.specs.Data.{Data}
use Rattle.rule_spec.specs.declared.rule_kind.RuleKind.{RuleKind}
use Rattle.json_spec.specs.ReadRule.{rule_in, id_of, IsRuleAtPattern}

-- one value reads as a rule as the other does
pub record ReadsAs (kept d : Data) : Type 0 where
  pub rule : (kind : RuleKind) (is_taken : ℕ → Bool) → rule_in kind is_taken kept ≡ rule_in kind is_taken d
  pub id : id_of kept ≡ id_of d
  pub pattern : (is_taken : ℕ → Bool) → IsRuleAtPattern is_taken kept → IsRuleAtPattern is_taken d

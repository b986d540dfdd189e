-- Texts that are written one behind another.
use Rattle.std.specs.Prelude.{◌≡◌, ℕ, ◌+◌, ◌≤◌, List, [], ◌∷◌, take, length}
use Rattle.rule_spec.specs.Scan.{Verdict}
use Rattle.verdict_shown.specs.Shown.{outcome_number, text_at, rule_at, if_given}
use Rattle.verdict_shown.specs.declared.shown.ShownText.{ShownText}
use Rattle.verdict_shown.specs.declared.shown.ShownRule.{ShownRule}
use Rattle.verdict_shown.specs.declared.shown.ShownChange.{ShownChange}
use Rattle.verdict_shown.specs.declared.shown.ShownVerdict.{ShownVerdict}

-- the second list begins with the first
unfoldable pub Grows : List ℕ → List ℕ → Type 0
Grows before after = (length before ≤ length after) × (take (length before) after ≡ before)

abbrev pub text_ends : ShownText → ℕ
text_ends text = text.from + text.length

-- the texts stand among so many bytes
abbrev pub IsRuleWithin : ℕ → ShownRule → Type 0
IsRuleWithin count rule = (text_ends rule.extension ≤ count) × (text_ends rule.ruleset ≤ count)

abbrev pub IsChangeWithin : ℕ → ShownChange → Type 0
IsChangeWithin count change = (text_ends change.name ≤ count) × (text_ends change.value ≤ count) × IsRuleWithin count change.rule

unfoldable pub AreWithin : ℕ → List ShownChange → Type 0
AreWithin count [] = Unit {0}
AreWithin count (change ∷ changes) = IsChangeWithin count change × AreWithin count changes

-- the parts of a verdict but its changes, of which there are so many
pub record IsWritten (number : ℕ) (verdict : Verdict) (count : ℕ) (bytes : List ℕ) (shown : ShownVerdict) : Type 0 where
  pub generation : shown.generation ≡ number
  pub outcome : shown.outcome ≡ outcome_number verdict.outcome
  pub rule : if_given shown.has_rule (rule_at bytes shown.rule) ≡ verdict.rule
  pub target : if_given shown.has_target (text_at bytes shown.target) ≡ verdict.target
  pub rule_within : IsRuleWithin (length bytes) shown.rule
  pub target_within : text_ends shown.target ≤ length bytes
  pub long : shown.bytes ≡ length bytes
  pub many : shown.changes ≡ count

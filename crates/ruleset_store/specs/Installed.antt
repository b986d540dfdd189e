-- The parts of an installed extension.
use Rattle.std.specs.Prelude.{ℕ, ℤ, pos, List, map, filter, Bool, not, ◌&&◌, ◌||◌, Option, Some, None}
use Rattle.std.specs.Ordering.{int_cmp}
use Rattle.std.specs.BTreeSet.{BTreeSet, contains_by}
use Rattle.rule_spec.specs.Rule.{Rule}
use Rattle.rule_spec.specs.State.{RuleSet, Extension, has_number}
use Rattle.update_spec.specs.Update.{NewRuleSet, NewExtension, with_first}

-- a ruleset as it was brought, enabled or not, with these ids switched off
abbrev pub set_with : NewRuleSet → Bool → List ℕ → RuleSet
set_with set enabled disabled = record { id = set.id; enabled = enabled; rules = set.rules; origins = set.origins; disabled = disabled }

-- an extension as it was brought, with these rulesets and rules
abbrev pub extension_with : NewExtension → List RuleSet → List Rule → List Rule → Extension
extension_with brought sets dynamic session =
    record { name = brought.name; sets = sets; access = brought.access; dynamic = dynamic; session = session }

-- whether the rule of this id is off once those of two sets are off and on
abbrev pub is_off_by : BTreeSet ℤ → BTreeSet ℤ → List ℕ → ℕ → Bool
is_off_by disable enable disabled id =
    (has_number disabled id || contains_by (int_cmp (pos id)) disable) && not (contains_by (int_cmp (pos id)) enable)

abbrev pub off_in : BTreeSet ℤ → BTreeSet ℤ → List ℕ → List Rule → List ℕ
off_in disable enable disabled rules = filter (is_off_by disable enable disabled) (map (λ rule. rule.id) rules)

-- the list with this in place of the first that is meant
unfoldable pub put_first : {X : Type 0} → (X → Bool) → X → List X → List X
put_first is_meant x xs = with_first is_meant (λ _. x) xs

-- the list with what is left to put in place of its first that is meant, if it was not put before
abbrev pub first_left : {X : Type 0} → (X → Bool) → Option X → List X → List X
first_left is_meant None xs = xs
first_left is_meant (Some left) xs = with_first is_meant (λ _. left) xs

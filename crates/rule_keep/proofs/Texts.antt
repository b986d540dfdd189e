-- The text of an update.
use Rattle.std.proofs.Common.{◌≡◌, ℕ, ◌+◌, ◌<◌, List, [], ◌∷◌, ◌++◌, map, length, Bool, true, false, ◌||◌, get_or, take, refl, sym, ap, ◌∙◌, subst}
use Rattle.std.specs.Prelude.{All}
use Rattle.std.proofs.lemmas.List.{take_more}
use Rattle.std.proofs.lemmas.List.Elements.{All-push}
use Rattle.serde_json.specs.View.{items_of}
use Rattle.serde_json.specs.Written.{has_float, items_have_float}
use Rattle.rule_spec.specs.Rule.{Rule}
use Rattle.rule_spec.specs.IsRule.{IsRule}
use Rattle.json_spec.specs.Written.{rule_written}
use Rattle.rule_write.proofs.Plain.{rule_plain}
use Rattle.keep_spec.specs.Written.{id_written, update_written}

pub each_more : (rules : List Rule) (i : ℕ) (rule : Rule) → i < length rules → get_or rules i rule ≡ rule → IsRule rule → All IsRule (take i rules) → All IsRule (take (i + 1) rules)
each_more rules i rule less is its before =
    subst (λ (l : List Rule). All IsRule l) (sym (take_more rules i rule less ∙ ap (λ r. take i rules ++ r ∷ []) is)) (All-push IsRule (take i rules) rule before its)

neither : (a b : Bool) → a ≡ false → b ≡ false → (a || b) ≡ false
neither false b p q = q
neither true b p q = cc

rules_plain : (rules : List Rule) → items_have_float (items_of (map rule_written rules)) ≡ false
rules_plain [] = refl
rules_plain (rule ∷ rules) = neither (has_float (rule_written rule)) (items_have_float (items_of (map rule_written rules))) (rule_plain rule) (rules_plain rules)

ids_plain : (ids : List ℕ) → items_have_float (items_of (map id_written ids)) ≡ false
ids_plain [] = refl
ids_plain (id ∷ ids) = ids_plain ids

-- what is written of an update has no float
pub update_plain : (name remove : List ℕ) (add : List Rule) → has_float (update_written name remove add) ≡ false
unfolding update_written
update_plain name remove add =
    neither (items_have_float (items_of (map rule_written add))) (items_have_float (items_of (map id_written remove)) || false) (rules_plain add)
    (neither (items_have_float (items_of (map id_written remove))) false (ids_plain remove) refl)

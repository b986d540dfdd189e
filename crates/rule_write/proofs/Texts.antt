-- The text of rules grows to that of their list.
use Rattle.std.proofs.Common.{◌≡◌, ℕ, ◌<◌, ◌+◌, List, [], ◌∷◌, ◌++◌, length, map, fold, true, refl, ap, ◌∙◌, arith, nat_lt}
use Rattle.std.proofs.lemmas.Bool.Decides.{nat_tests}
use Rattle.std.proofs.lemmas.List.{append_assoc, length-append}
use Rattle.serde_json.specs.View.{items_of}
use Rattle.serde_json.specs.Written.{comma_if, compact_text, items_text}
use Rattle.rule_spec.specs.Rule.{Rule}
use Rattle.json_spec.specs.Written.{rule_written, written}
use Rattle.rule_write.specs.Texts.{with_rule}

begins : (rule : Rule) → 0 < length (compact_text (rule_written rule))
unfolding rule_written
begins rule = omega arith

longer : (text : List ℕ) (rule : Rule) → 0 < length text → nat_lt 1 (length (with_rule text rule)) ≡ true
longer text rule some =
    let comma = comma_if (nat_lt 1 (length text)) in
    let rest = compact_text (rule_written rule) in
    let count = length-append text (comma ++ rest) ∙ ap (λ n. length text + n) (length-append comma rest) in
    let inside = begins rule in
    rw count (grind (arith, nat_tests, some, inside))

pub grown : (rules : List Rule) (text : List ℕ) → 0 < length text → fold with_rule text rules ++ 93 ∷ [] ≡ text ++ items_text (nat_lt 1 (length text)) (items_of (map rule_written rules))
grown [] text some = refl
grown (rule ∷ rules) text some =
    let comma = comma_if (nat_lt 1 (length text)) in
    let own = compact_text (rule_written rule) in
    let rest = items_of (map rule_written rules) in
    let more = longer text rule some in
    let inside : 0 < length (with_rule text rule) = grind (arith, nat_tests, more) in
    grown rules (with_rule text rule) inside ∙ ap (λ later. with_rule text rule ++ items_text later rest) more
    ∙ append_assoc text (comma ++ own) (items_text true rest) ∙ ap (λ tail. text ++ tail) (append_assoc comma own (items_text true rest))

pub whole : (rules : List Rule) → fold with_rule (91 ∷ []) rules ++ 93 ∷ [] ≡ written rules
whole rules = grown rules (91 ∷ []) (omega arith)

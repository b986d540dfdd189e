-- Rules that were read have ids that differ.
use Rattle.std.proofs.Common.{◌≡◌, ℕ, List, [], ◌∷◌, ◌++◌, length, Bool, true, false, ◌||◌, ◌==◌, Option, Some, None, Result, Ok, Err, refl, sym, ap, ◌∙◌, subst, arith}
use Rattle.std.specs.Prelude.{unwrap_or, is_none}
use Rattle.std.specs.Option.{option_map_or}
use Rattle.std.specs.List.{list_any}
use Rattle.std.specs.Result.{result_unwrap_or}
use Rattle.std.proofs.lemmas.Bool.Decides.{nat_tests}
use Rattle.serde_json.specs.Data.{Data, Items, no_items, item}
use Rattle.serde_json.specs.Find.{as_array}
use Rattle.rule_spec.specs.declared.placed_refusal.PlacedRefusal.{PlacedRefusal}
use Rattle.rule_spec.specs.declared.rule_kind.RuleKind.{RuleKind}
use Rattle.rule_spec.specs.declared.rule_refusal.RuleRefusal.{RuleRefusal}
use Rattle.rule_spec.specs.declared.rule_refusal.RuleRefusal.TheVariants.{BadId, DuplicateId}
use Rattle.rule_spec.specs.Rule.{Rule}
use Rattle.json_spec.specs.Json.{tree_of}
use Rattle.json_spec.specs.ReadRule.{Numbers, id_of, no_numbers, number_tests, numbers_of, numbers_in, placed, read_from, read_items, read_next, read_rules, rule_in, rule_of, rule_tests}
use Rattle.json_spec.specs.RulesFile.{FileRefusal, rules_in_tree, rules_of, rules_or_refusal}
use Rattle.prune_spec.specs.Pruned.{IdsDiffer, has_id}
use Rattle.rule_laws.proofs.ReadRules.{all_passed, first_none, not_refused, rest_pass, value_there}

-- ---- one rule

taken_by : (is_taken : ℕ → Bool) (id : Option ℕ) (n : ℕ) → is_none id ≡ false → option_map_or is_taken id false ≡ false → unwrap_or id 0 ≡ n → is_taken n ≡ false
taken_by is_taken None n some free is = absurd (cc some)
taken_by is_taken (Some m) n some free is = subst (λ k. is_taken k ≡ false) is free

free_number : (is_taken : ℕ → Bool) (d : Data) (numbers : Numbers) → numbers_in is_taken d ≡ Ok numbers → is_taken numbers.id ≡ false
unfolding numbers_in
free_number is_taken d numbers h =
    let p = all_passed (number_tests is_taken d) (numbers_of d) numbers h in
    let two = rest_pass p.0 in
    let three = rest_pass two in
    taken_by is_taken (id_of d) numbers.id (not_refused (is_none (id_of d)) BadId (first_none two))
    (not_refused (option_map_or is_taken (id_of d) false) DuplicateId (first_none three)) (ap (λ n. n.id) p.1)

-- the id of a rule that was read was not taken
free_id : (kind : RuleKind) (is_taken : ℕ → Bool) (d : Data) (rule : Rule) → rule_in kind is_taken d ≡ Ok rule → is_taken rule.id ≡ false
unfolding rule_in
free_id kind is_taken d rule h =
    let read = all_passed (rule_tests kind is_taken d) (rule_of is_taken d) rule h in
    let numbers = value_there (numbers_in is_taken d) (first_none read.0) in
    let numbers_are = ap (λ r. result_unwrap_or r no_numbers) (sym numbers.1) in
    let free = subst (λ (n : Numbers). is_taken n.id ≡ false) numbers_are (free_number is_taken d numbers.0 numbers.1) in
    subst (λ (r : Rule). is_taken r.id ≡ false) read.1 free

-- ---- a list of rules

either_false : (a b : Bool) → (a || b) ≡ false → (a ≡ false) × (b ≡ false)
either_false true b h = absurd (cc h)
either_false false b h = (refl, h)

neither : (a b : Bool) → a ≡ false → b ≡ false → (a || b) ≡ false
neither a b first second = rw (first, second) refl

other_way : (m n : ℕ) → (m == n) ≡ false → (n == m) ≡ false
other_way m n h = grind (arith, nat_tests, h)

has_id-append : (earlier : List Rule) (rule : Rule) (id : ℕ) → has_id earlier id ≡ false → (rule.id == id) ≡ false → has_id (earlier ++ rule ∷ []) id ≡ false
has_id-append [] rule id free apart = neither (rule.id == id) false apart refl
has_id-append (one ∷ earlier) rule id free apart =
    let parts = either_false (one.id == id) (has_id earlier id) free in
    neither (one.id == id) (has_id (earlier ++ rule ∷ []) id) parts.0 (has_id-append earlier rule id parts.1 apart)

one_more : (earlier : List Rule) (rule : Rule) → IdsDiffer earlier → has_id earlier rule.id ≡ false → IdsDiffer (earlier ++ rule ∷ [])
one_more [] rule differ free = (refl, tt)
one_more (one ∷ earlier) rule differ free =
    let parts = either_false (one.id == rule.id) (has_id earlier rule.id) free in
    (has_id-append earlier rule one.id differ.0 (other_way one.id rule.id parts.0), one_more earlier rule differ.1 parts.1)

next_differ : (go_on : Rule → Result (List Rule) PlacedRefusal) (place : ℕ) (d : Data) (reading : Result Rule RuleRefusal) (rules : List Rule)
    → ((rule : Rule) → reading ≡ Ok rule → go_on rule ≡ Ok rules → IdsDiffer rules) → read_next go_on place d reading ≡ Ok rules → IdsDiffer rules
next_differ go_on place d (Ok rule) rules each h = each rule refl h
next_differ go_on place d (Err cause) rules each h = absurd (cc h)

list_differs : (kind : RuleKind) (earlier : List Rule) (items : Items) (rules : List Rule) → IdsDiffer earlier → read_from kind earlier items ≡ Ok rules → IdsDiffer rules
list_differs kind earlier no_items rules differ h = let same : earlier ≡ rules = cc h in subst IdsDiffer same differ
list_differs kind earlier (item d items) rules differ h =
    next_differ (λ rule. read_from kind (earlier ++ rule ∷ []) items) (length earlier) d (rule_in kind (has_id earlier) d) rules
    (λ rule read later. list_differs kind (earlier ++ rule ∷ []) items rules (one_more earlier rule differ (free_id kind (has_id earlier) d rule read)) later) h

items_differ : (kind : RuleKind) (items : Option Items) (rules : List Rule) → read_items kind items ≡ Ok rules → IdsDiffer rules
items_differ kind None rules h = absurd (cc h)
items_differ kind (Some items) rules h = list_differs kind [] items rules tt h

-- ---- a file

refusal_or : (reading : Result (List Rule) PlacedRefusal) (rules : List Rule) → rules_or_refusal reading ≡ Ok rules → reading ≡ Ok rules
refusal_or (Ok read) rules h = let same : read ≡ rules = cc h in ap Ok same
refusal_or (Err refusal) rules h = absurd (cc h)

tree_differs : (kind : RuleKind) (tree : Option Data) (rules : List Rule) → rules_in_tree kind tree ≡ Ok rules → IdsDiffer rules
unfolding read_rules
tree_differs kind None rules h = absurd (cc h)
tree_differs kind (Some d) rules h = items_differ kind (as_array d) rules (refusal_or (read_rules kind d) rules h)

pub ids_differ : (kind : RuleKind) (bytes : List ℕ) (rules : List Rule) → rules_of kind bytes ≡ Ok rules → IdsDiffer rules
ids_differ kind bytes rules h = tree_differs kind (tree_of bytes) rules h

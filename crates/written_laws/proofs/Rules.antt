-- Written rules are read as the same rules in their normal form.
use Rattle.std.proofs.Common.{Result, ◌≡◌, ℕ, List, [], ◌∷◌, ◌++◌, length, map, Bool, true, false, cond, not, ◌&&◌, ◌||◌, ◌==◌, Some, None, Ok, refl, sym, ap, ◌∙◌, arith, append-nil, append_assoc, IsUtf8}
use Rattle.std.specs.Prelude.{codes, All, is_none, unwrap_or, option_and_then}
use Rattle.std.specs.Option.{option_map_or}
use Rattle.std.specs.Result.{result_unwrap_or}
use Rattle.std.specs.List.{AllByRecursion, list_all}
use Rattle.std.proofs.lemmas.Bool.Decides.{nat_tests}
use Rattle.std.proofs.lemmas.List.Elements.{All-head, All-tail}
use Rattle.serde_json.specs.Data.{number, unsigned, null}
use Rattle.serde_json.specs.Find.{get, as_object}
use Rattle.serde_json.specs.Read.{read}
use Rattle.serde_json.specs.View.{items_of}
use Rattle.dnr_spec.specs.Patterns.{groups_of}
use Rattle.header_actions.specs.Again.{ReadsAgain}
use Rattle.rule_spec.specs.declared.rule_kind.RuleKind.{RuleKind}
use Rattle.rule_spec.specs.declared.rule_kind.RuleKind.TheVariants.{Session}
use Rattle.rule_spec.specs.declared.rule_path.RulePath.TheVariants as path
use Rattle.rule_spec.specs.declared.rule_refusal.RuleRefusal.TheVariants.{NotObject, BadId, DuplicateId, BadPriority, BadField}
use Rattle.rule_spec.specs.Rule.{block, Rule}
use Rattle.rule_spec.specs.IsRule.{is_number, IsRule}
use Rattle.json_spec.specs.RuleFields.{first_refusal, refused_if, refusal_in, unless_refused, fields_in}
use Rattle.json_spec.specs.RuleAction.{action_in}
use Rattle.json_spec.specs.Written.{condition_written, action_written, rule_written, rules_written, written}
use Rattle.json_spec.specs.ReadRule.{filters_in, domain_lists_in, lists_in, condition_of, as_id, id_of, priority_from, priority_of, condition_at, no_fields, no_lists, may_name_tabs, numbers_in, no_numbers, frames_in, header_tests_in, tabs_in, rule_in, has_id, read_next, read_from, read_rules}
use Rattle.json_spec.specs.RulesFile.{rules_or_refusal, rules_in_tree, rules_of}
use Rattle.json_spec.proofs.Trees.{tree_of_read}
use Rattle.written_laws.specs.Normal.{normal, names_tabs}
use Rattle.written_laws.specs.Read.{IdsDiffer, may_be, WrittenTextsAreTrees, WrittenTreesAreRead, TextsTellRulesApart, WrittenRulesAreRead, TablessRulesAreRead}
use Rattle.written_laws.proofs.Objects.{found, text_back}
use Rattle.written_laws.proofs.Sets.{both}
use Rattle.written_laws.proofs.Values.{rule_fields, rules_back}
use Rattle.written_laws.proofs.Fields.{fields_kept, fields_read}
use Rattle.written_laws.proofs.Conditions.{filters_pass, lists_are_read, lists_pass, tests_pass, tabs_pass, condition_made}
use Rattle.written_laws.proofs.Actions.{action_read}
use Rattle.written_laws.proofs.Frames.{frames_pass}

-- ---- one rule

-- a rule of this kind may name the tabs that it names
abbrev MayName : RuleKind → Rule → Type 0
MayName kind rule = (not (may_name_tabs kind) && names_tabs rule) ≡ false

module _ (rule : Rule) where
  at-id : get (codes "id") (rule_written rule) ≡ Some (number (unsigned rule.id))
  unfolding rule_written
  at-id = found (codes "id") (rule_fields rule) (Some (number (unsigned rule.id))) refl

  at-priority : get (codes "priority") (rule_written rule) ≡ Some (number (unsigned rule.priority))
  unfolding rule_written
  at-priority = found (codes "priority") (rule_fields rule) (Some (number (unsigned rule.priority))) refl

  at-condition : get (codes "condition") (rule_written rule) ≡ Some (condition_written rule.condition)
  unfolding rule_written
  at-condition = found (codes "condition") (rule_fields rule) (Some (condition_written rule.condition)) refl

  at-action : get (codes "action") (rule_written rule) ≡ Some (action_written rule.action)
  unfolding rule_written
  at-action = found (codes "action") (rule_fields rule) (Some (action_written rule.action)) refl

  is-object : is_none (as_object (rule_written rule)) ≡ false
  unfolding rule_written
  is-object = refl

  has-condition : is_none (as_object (condition_written rule.condition)) ≡ false
  unfolding condition_written
  has-condition = refl

  id-read : is_number rule.id ≡ true → id_of (rule_written rule) ≡ Some rule.id
  id-read h = ap (option_and_then as_id) at-id ∙ ap (λ b. cond b (Some rule.id) None) h

  priority-read : is_number rule.priority ≡ true → priority_of (rule_written rule) ≡ Some rule.priority
  priority-read h = ap priority_from at-priority ∙ ap (λ b. cond b (Some rule.priority) None) h

  condition-at : condition_at (rule_written rule) ≡ condition_written rule.condition
  condition-at = ap (λ o. unwrap_or o null) at-condition

  numbers_read : (is_taken : ℕ → Bool) → is_number rule.id ≡ true → is_number rule.priority ≡ true → is_taken rule.id ≡ false
      → numbers_in is_taken (rule_written rule) ≡ Ok (record { id = rule.id; priority = rule.priority })
  unfolding numbers_in
  numbers_read is_taken id_is priority_is free =
      let id = id-read id_is in
      let priority = priority-read priority_is in
      (λ i. unless_refused (first_refusal (
      refused_if (is-object i) NotObject
      ∷ refused_if (is_none (id i)) BadId
      ∷ refused_if (option_map_or is_taken (id i) false) DuplicateId
      ∷ refused_if (is_none (priority i)) BadPriority
      ∷ refused_if (is_none (as_object (condition-at i))) (BadField path.Condition)
      ∷ []
      )) (record { id = unwrap_or (id i) 0; priority = unwrap_or (priority i) 0 }))
      ∙ (λ i. unless_refused (first_refusal (
      None ∷ None ∷ refused_if (free i) DuplicateId ∷ None ∷ refused_if (has-condition i) (BadField path.Condition) ∷ []
      )) (record { id = rule.id; priority = rule.priority }))

  -- a written rule is read as its normal form
  pub rule_read : ReadsAgain → (kind : RuleKind) (is_taken : ℕ → Bool) → IsRule rule → MayName kind rule → is_taken rule.id ≡ false → rule_in kind is_taken (rule_written rule) ≡ Ok (normal rule)
  unfolding rule_in
  rule_read again kind is_taken is may free =
      let c = rule.condition in
      let kept = fields_kept c in
      let numbers = numbers_read is_taken is.id is.priority free in
      let fields = ap fields_in condition-at ∙ fields_read c is.condition in
      let action = at-action in
      let filters = filters_pass c is.condition in
      let lists = lists_are_read c is.condition in
      let given = lists_pass c is.condition in
      let frames = frames_pass c rule.action is.action in
      let tests = tests_pass c is.condition in
      let tabs = tabs_pass kind c may in
      let acts = action_read again c rule.action is.action in
      (λ i. unless_refused (first_refusal (
      refusal_in (numbers i)
      ∷ refusal_in (fields i)
      ∷ refusal_in (filters_in (result_unwrap_or (fields i) no_fields))
      ∷ refusal_in (domain_lists_in (result_unwrap_or (fields i) no_fields))
      ∷ refusal_in (lists_in (result_unwrap_or (fields i) no_fields))
      ∷ refusal_in (frames_in (action i) (result_unwrap_or (fields i) no_fields))
      ∷ refusal_in (header_tests_in (result_unwrap_or (fields i) no_fields))
      ∷ refusal_in (tabs_in kind (result_unwrap_or (fields i) no_fields))
      ∷ refusal_in (action_in (option_map_or groups_of (result_unwrap_or (fields i) no_fields).regex_filter None) (action i))
      ∷ []
      )) (record {
        id = (result_unwrap_or (numbers i) no_numbers).id;
        priority = (result_unwrap_or (numbers i) no_numbers).priority;
        condition = condition_of (result_unwrap_or (fields i) no_fields) (result_unwrap_or (domain_lists_in (result_unwrap_or (fields i) no_fields)) no_lists);
        action = result_unwrap_or (action_in (option_map_or groups_of (result_unwrap_or (fields i) no_fields).regex_filter None) (action i)) block;
      }))
      ∙ (λ i. unless_refused (first_refusal (
      None
      ∷ None
      ∷ refusal_in (filters i)
      ∷ refusal_in (lists i)
      ∷ refusal_in (given i)
      ∷ refusal_in (frames i)
      ∷ refusal_in (tests i)
      ∷ refusal_in (tabs i)
      ∷ refusal_in (acts i)
      ∷ []
      )) (record {
        id = rule.id;
        priority = rule.priority;
        condition = condition_of kept (result_unwrap_or (lists i) no_lists);
        action = result_unwrap_or (acts i) block;
      }))
      ∙ (λ i. Ok (record { id = rule.id; priority = rule.priority; condition = condition_made c is.condition i; action = rule.action }))

-- ---- lists of rules

has_id-more : (earlier : List Rule) (rule : Rule) (id : ℕ) → has_id earlier id ≡ false → (rule.id == id) ≡ false → has_id (earlier ++ normal rule ∷ []) id ≡ false
has_id-more [] rule id h apart = ap (λ b. b || false) apart
has_id-more (first ∷ earlier) rule id h apart =
    let p = neither (first.id == id) (has_id earlier id) h in
    (λ i. p.0 i || has_id (earlier ++ normal rule ∷ []) id) ∙ has_id-more earlier rule id p.1 apart
  where
    neither : (a b : Bool) → (a || b) ≡ false → (a ≡ false) × (b ≡ false)
    neither true b e = cc
    neither false b e = (refl, e)

abbrev AreFree : List Rule → List Rule → Type 0
AreFree earlier rules = AllByRecursion (λ rule. has_id earlier rule.id ≡ false) rules

free-more : (earlier : List Rule) (rule : Rule) (rules : List Rule) → AreFree earlier rules → has_id rules rule.id ≡ false → AreFree (earlier ++ normal rule ∷ []) rules
free-more earlier rule [] free apart = tt
free-more earlier rule (next ∷ rules) free apart =
    let p = neither (next.id == rule.id) (has_id rules rule.id) apart in
    (has_id-more earlier rule next.id free.0 (turned next.id rule.id p.0), free-more earlier rule rules free.1 p.1)
  where
    neither : (a b : Bool) → (a || b) ≡ false → (a ≡ false) × (b ≡ false)
    neither true b e = cc
    neither false b e = (refl, e)

    turned : (m n : ℕ) → (m == n) ≡ false → (n == m) ≡ false
    turned m n e = grind (arith, nat_tests)

list_read : ReadsAgain → (kind : RuleKind) (rules earlier : List Rule) → All IsRule rules → AllByRecursion (MayName kind) rules → IdsDiffer rules → AreFree earlier rules
    → read_from kind earlier (items_of (map rule_written rules)) ≡ Ok (earlier ++ map normal rules)
list_read again kind [] earlier are may differ free = ap Ok (sym (append-nil earlier))
list_read again kind (rule ∷ rules) earlier are may differ free =
    let first = rule_read rule again kind (has_id earlier) (All-head IsRule rule rules are) may.0 free.0 in
    ap (read_next (λ next. read_from kind (earlier ++ next ∷ []) (items_of (map rule_written rules))) (length earlier) (rule_written rule)) first
    ∙ list_read again kind rules (earlier ++ normal rule ∷ []) (All-tail IsRule rule rules are) may.1 differ.1 (free-more earlier rule rules free.1 differ.0)
    ∙ ap Ok (append_assoc earlier (normal rule ∷ []) (map normal rules))

all-free : (rules : List Rule) → AreFree [] rules
all-free [] = tt
all-free (rule ∷ rules) = (refl, all-free rules)

each-rule : (rules : List Rule) → All IsRule rules → AllByRecursion IsRule rules
each-rule [] are = tt
each-rule (rule ∷ rules) are = (All-head IsRule rule rules are, each-rule rules (All-tail IsRule rule rules are))

tree-read : ReadsAgain → (kind : RuleKind) (rules : List Rule) → All IsRule rules → AllByRecursion (MayName kind) rules → IdsDiffer rules → read_rules kind (rules_written rules) ≡ Ok (map normal rules)
unfolding read_rules
tree-read again kind rules are may differ = list_read again kind rules [] are may differ (all-free rules)

pub written_texts_are_trees : WrittenTextsAreTrees
written_texts_are_trees rules are = text_back (rules_written rules) (rules_back rules (each-rule rules are))

text-read : ReadsAgain → (kind : RuleKind) (rules : List Rule) → All IsRule rules → AllByRecursion (MayName kind) rules → IdsDiffer rules → IsUtf8 (written rules) → rules_of kind (written rules) ≡ Ok (map normal rules)
text-read again kind rules are may differ utf8 =
    ap (rules_in_tree kind) (sym (tree_of_read (written rules) (rules_written rules) utf8 (written_texts_are_trees rules are))) ∙ ap rules_or_refusal (tree-read again kind rules are may differ)

-- ---- the laws

session_rules : (rules : List Rule) → AllByRecursion (MayName Session) rules
session_rules [] = tt
session_rules (rule ∷ rules) = (refl, session_rules rules)

pub written_rules_are_read : ReadsAgain → WrittenRulesAreRead
written_rules_are_read again rules are differ utf8 = text-read again Session rules are (session_rules rules) differ utf8

without_tabs : (kind : RuleKind) (rules : List Rule) → list_all (λ rule. not (names_tabs rule)) rules ≡ true → AllByRecursion (MayName kind) rules
without_tabs kind [] h = tt
without_tabs kind (rule ∷ rules) h =
    let p = both (not (names_tabs rule)) (list_all (λ other. not (names_tabs other)) rules) h in
    (none (not (may_name_tabs kind)) (names_tabs rule) p.0, without_tabs kind rules p.1)
  where
    none : (a b : Bool) → not b ≡ true → (a && b) ≡ false
    none true true e = cc
    none true false e = refl
    none false b e = refl

pub tabless_rules_are_read : ReadsAgain → TablessRulesAreRead
tabless_rules_are_read again kind rules are differ none utf8 = text-read again kind rules are (without_tabs kind rules none) differ utf8

either_way : (kind : RuleKind) (rules : List Rule) (may : Bool) → may_name_tabs kind ≡ may → may_be kind rules ≡ true → AllByRecursion (MayName kind) rules
either_way kind rules true is h = any_rules rules
  where
    any_rules : (list : List Rule) → AllByRecursion (MayName kind) list
    any_rules [] = tt
    any_rules (rule ∷ list) = (ap (λ b. not b && names_tabs rule) is, any_rules list)
either_way kind rules false is h = without_tabs kind rules (ap (λ b. b || list_all (λ rule. not (names_tabs rule)) rules) (sym is) ∙ h)

pub written_trees_are_read : ReadsAgain → WrittenTreesAreRead
written_trees_are_read again kind rules are differ may = tree-read again kind rules are (either_way kind rules (may_name_tabs kind) refl may) differ

same_some : {X : Type 0} (x y : X) → Some x ≡ Some y → x ≡ y
same_some x y h = cc

same_ok : {X E : Type 0} (one other : Result X E) (x y : X) → one ≡ Ok x → other ≡ Ok y → one ≡ other → x ≡ y
same_ok one other x y is also h = cc

pub texts_tell_rules_apart : ReadsAgain → TextsTellRulesApart
texts_tell_rules_apart again rules others are also differ apart h =
    let tree = same_some (rules_written rules) (rules_written others) (sym (written_texts_are_trees rules are) ∙ ap read h ∙ written_texts_are_trees others also) in
    same_ok (read_rules Session (rules_written rules)) (read_rules Session (rules_written others)) (map normal rules) (map normal others)
    (tree-read again Session rules are (session_rules rules) differ) (tree-read again Session others also (session_rules others) apart) (ap (read_rules Session) tree)

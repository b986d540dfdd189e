-- Steps along the elements of a list of rules.
use Rattle.std.proofs.Common.{◌≡◌, ℕ, ◌-◌, ◌+◌, ◌^◌, ◌<◌, ◌≤◌, List, [], ◌∷◌, ◌++◌, length, Option, Some, None, Result, Ok, Err, refl, sym, ap, ◌∙◌, subst, inl, inr, arith}
use Rattle.std.specs.Prelude.{min}
use Rattle.json.specs.Token.{Token}
use Rattle.json.specs.Json.{parse_map, after_end_array}
use Rattle.serde_json.specs.Data.{Data, Items, item, no_items}
use Rattle.dnr_base.specs.Faults.{Rose}
use Rattle.rule_spec.specs.declared.rule_kind.RuleKind.{RuleKind}
use Rattle.rule_spec.specs.declared.rule_refusal.RuleRefusal.{RuleRefusal}
use Rattle.rule_spec.specs.declared.rule_refusal.RuleRefusal.TheVariants.{HostFault, NoMemory}
use Rattle.rule_spec.specs.declared.placed_refusal.PlacedRefusal.{PlacedRefusal}
use Rattle.rule_spec.specs.Rule.{Rule}
use Rattle.json_spec.specs.ReadRule.{read_from, read_items, read_next, rule_in, has_id, placed, IsRuleAtPattern, StopsAtPattern}
use Rattle.json_spec.specs.MayRefuse.{MayRefuse}
use Rattle.rule_read.specs.Reading.{MayStop, MayStopBy, StopsAt, StopsAtHost, ReadsNext}
use Rattle.json_fields.specs.declared.tree.Fault.{Fault}
use Rattle.json_fields.specs.declared.tree.Fault.TheVariants.{BadJson}
use Rattle.rules_file.specs.Reading.{value_in, items_in, HasValue, HasItems, HasNoItems, StopsBefore}
use Rattle.rules_file.proofs.Elements.{item_read, item_missing, list_over}

-- ---- items that were passed

-- the items of a list are some that were passed, and those that are left
pub record IsPassed (depth : ℕ) (whole rest : List Token) : Type 0 where
  pub front : Items → Items
  pub left : (n : ℕ) → length whole ≤ n → (m : ℕ) × (length rest ≤ m) × (items_in depth n whole ≡ parse_map front (items_in depth m rest))

same_map : (o : Option (Items × List Token)) → o ≡ parse_map (λ ds. ds) o
same_map None = refl
same_map (Some p) = refl

two_maps : (f : Items → Items) (d : Data) (o : Option (Items × List Token)) → parse_map f (parse_map (item d) o) ≡ parse_map (λ ds. f (item d ds)) o
two_maps f d None = refl
two_maps f d (Some p) = refl

pub none_passed : (depth : ℕ) (ts : List Token) → IsPassed depth ts ts
none_passed depth ts = record { front = λ ds. ds; left = λ n enough. (n, enough, same_map (items_in depth n ts)) }

pub one_passed : (depth : ℕ) (whole ts r : List Token) (d : Data) → IsPassed depth whole ts → after_end_array ts ≡ None → HasValue depth ts d r → length r < length ts → IsPassed depth whole r
one_passed depth whole ts r d passed going value less = record {
  front = λ ds. passed.front (item d ds);
  left = λ n enough.
      let more = passed.left n enough in (
        more.0 - 1,
        omega (arith, more.1, less),
        more.2 ∙ ap (parse_map passed.front) (item_read depth more.0 ts r d (omega (arith, more.1, less)) going value) ∙ two_maps passed.front d (items_in depth (more.0 - 1) r),
      );
}

pub all_passed : (depth : ℕ) (whole ts r : List Token) (passed : IsPassed depth whole ts) → after_end_array ts ≡ Some r → HasItems depth whole (passed.front no_items) r
all_passed depth whole ts r passed over = λ n enough.
    let more = passed.left n enough in
    more.2 ∙ ap (parse_map passed.front) (list_over depth more.0 ts r more.1 over)

pub not_passed : (depth : ℕ) (whole ts : List Token) → IsPassed depth whole ts → after_end_array ts ≡ None → value_in depth ts ≡ None → HasNoItems depth whole
not_passed depth whole ts passed going none = λ n enough.
    let more = passed.left n enough in
    more.2 ∙ ap (parse_map passed.front) (item_missing depth more.0 ts going none)

-- ---- rules that were read of them

pub record IsReadSoFar (depth : ℕ) (kind : RuleKind) (whole rest : List Token) (rules : List Rule) : Type 0 where
  pub passed : IsPassed depth whole rest
  pub same : (items : Items) → read_from kind [] (passed.front items) ≡ read_from kind rules items
  pub stops : (items : Items) (refusal : PlacedRefusal) → StopsAtPattern kind rules items refusal → StopsAtPattern kind [] (passed.front items) refusal

pub read_begins : (depth : ℕ) (kind : RuleKind) (ts : List Token) → IsReadSoFar depth kind ts ts []
unfolding none_passed
read_begins depth kind ts = record { passed = none_passed depth ts; same = λ items. refl; stops = λ items refusal h. h }

one_read : (kind : RuleKind) (rules more : List Rule) (rule : Rule) (d : Data) (items : Items) → rule_in kind (has_id rules) d ≡ Ok rule → more ≡ rules ++ rule ∷ [] → read_from kind rules (item d items) ≡ read_from kind more items
one_read kind rules more rule d items read grown =
    ap (read_next (λ r. read_from kind (rules ++ r ∷ []) items) (length rules) d) read ∙ ap (λ rs. read_from kind rs items) (sym grown)

pub read_goes_on : (depth : ℕ) (kind : RuleKind) (whole ts r : List Token) (d : Data) (rules more : List Rule) → IsReadSoFar depth kind whole ts rules → after_end_array ts ≡ None
    → HasValue depth ts d r → length r < length ts → ReadsNext kind d rules more → IsReadSoFar depth kind whole r more
unfolding one_passed
read_goes_on depth kind whole ts r d rules more so_far going value less next = record {
  passed = one_passed depth whole ts r d so_far.passed going value less;
  same = λ items. so_far.same (item d items) ∙ one_read kind rules more next.0 d items next.1 next.2;
  stops = λ items refusal h. so_far.stops (item d items) refusal (inr (next.0, next.1, subst (λ rs. StopsAtPattern kind rs items refusal) next.2 h));
}

pub read_ends : (depth : ℕ) (kind : RuleKind) (whole ts r : List Token) (rules : List Rule) → IsReadSoFar depth kind whole ts rules → after_end_array ts ≡ Some r
    → (items : Items) × HasItems depth whole items r × (read_items kind (Some items) ≡ Ok rules)
read_ends depth kind whole ts r rules so_far over = (so_far.passed.front no_items, all_passed depth whole ts r so_far.passed over, so_far.same no_items)

-- why the whole stops where one rule is refused
stops_by : (part : Result Rule RuleRefusal) (expected : Result (List Rule) PlacedRefusal) (at_rule at_list : Type 0) (refusal : PlacedRefusal) (cause : RuleRefusal)
    → (cause ≡ HostFault → at_rule → at_list) → (part ≡ Err cause → expected ≡ Err refusal) → MayRefuse part at_rule cause → MayStopBy expected at_list refusal cause
stops_by part expected at_rule at_list refusal HostFault host other h = host refl h
stops_by part expected at_rule at_list refusal NoMemory host other h = tt
stops_by part expected at_rule at_list refusal cause host other h = other h

pub read_refuses : (depth : ℕ) (kind : RuleKind) (whole ts r : List Token) (d : Data) (rules : List Rule) (rose later : Type 0) (refusal : PlacedRefusal) → IsReadSoFar depth kind whole ts rules
    → after_end_array ts ≡ None → HasValue depth ts d r → length r < length ts → (rose → later) → StopsAt kind d rules rose refusal → StopsBefore depth kind whole r later refusal
unfolding one_passed
read_refuses depth kind whole ts r d rules rose later refusal so_far going value less rises stop =
    let passed = one_passed depth whole ts r d so_far.passed going value less in
    record {
      front = passed.front;
      left = passed.left;
      stops = λ items.
          stops_by (rule_in kind (has_id rules) d) (read_items kind (Some (passed.front items))) (rose × IsRuleAtPattern (has_id rules) d)
          (later × StopsAtHost kind (Some (passed.front items)) refusal) refusal refusal.cause
          (λ host h. (rises h.0, so_far.stops (item d items) refusal (inl (stop.placed ∙ ap (placed (length rules) d) host, h.1))))
          (λ e. so_far.same (item d items) ∙ ap (read_next (λ r. read_from kind (rules ++ r ∷ []) items) (length rules) d) e ∙ ap Err (sym stop.placed)) stop.cause;
    }

-- ---- the list of a rule that is refused

pub rest_passed : (depth : ℕ) (kind : RuleKind) (whole rest r : List Token) (rose : Type 0) (refusal : PlacedRefusal) (items : Items) → StopsBefore depth kind whole rest rose refusal → HasItems depth rest items r
    → (all : Items) × HasItems depth whole all r × MayStop kind (Some all) rose refusal
rest_passed depth kind whole rest r rose refusal items before rest_is =
    (before.front items, (λ n enough. let more = before.left n enough in more.2 ∙ ap (parse_map before.front) (rest_is more.0 more.1)), before.stops items)

pub rest_broken : (depth : ℕ) (kind : RuleKind) (whole rest : List Token) (rose : Type 0) (refusal : PlacedRefusal) → StopsBefore depth kind whole rest rose refusal → HasNoItems depth rest → HasNoItems depth whole
rest_broken depth kind whole rest rose refusal before none = λ n enough. let more = before.left n enough in more.2 ∙ ap (parse_map before.front) (none more.0 more.1)

-- ---- counts of faults

min_grows : (a b end : ℕ) → a ≤ b → min (a + 1) end ≤ min (b + 1) end
min_grows a b end h = omega arith

pub rose_since : (a b now : ℕ) → a ≤ b → Rose b now → Rose a now
rose_since a b now h rose = omega (arith, min_grows a b (2 ^ 64 - 1) h, rose)

-- a fault is the same, whatever else a call might answer
pub same_fault : (T U : Type 0) (fault : Fault) → ◌≡◌ {A = Result T Fault} (Err fault) (Err BadJson) → ◌≡◌ {A = Result U Fault} (Err fault) (Err BadJson)
same_fault T U fault e = let same : fault ≡ BadJson = cc in ap Err same

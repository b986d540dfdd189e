-- Which rules of a list are found, and how many.
use Rattle.std.proofs.Common.{◌≡◌, ℕ, zero, suc, ◌+◌, ◌<◌, ◌≤◌, List, [], ◌∷◌, ◌++◌, length, filter, Bool, true, false, cond, ◌==◌, Option, Some, None, inl, inr, refl, sym, ap, ◌∙◌, arith}
use Rattle.std.specs.Prelude.{slice_get, is_some}
use Rattle.std.specs.List.{Contains, sum_by, list_any}
use Rattle.std.proofs.lemmas.Bool.{cases_Bool, false≢true, or_cases, or_left, or_right, eqb-true}
use Rattle.std.proofs.lemmas.Bool.Decides.{nat_tests}
use Rattle.std.proofs.lemmas.List.Folds.{list_any-append}
use Rattle.std.proofs.lemmas.List.Sums.{sum_by-cons, sum_by-le-sum_by}
use Rattle.std.proofs.lemmas.Slice.Eq.{bytes_eq-Decides}
use Rattle.dnr_base.specs.Request.{Part}
use Rattle.rule_spec.specs.Rule.{Rule}
use Rattle.index_spec.specs.declared.key.Key.{Key}
use Rattle.index_spec.specs.declared.key.Key.TheVariants.{Host, Token, Initiator, All}
use Rattle.index_spec.specs.Keys.{same_key, has_key, keys_of_rule, keys_of_part}
use Rattle.index_spec.specs.Pairs.{is_for_frames, once_behind, once, pairs_on, rules_for_frames, shared}
use Rattle.index_laws.proofs.Sharing.{rules_share_a_key}
use Rattle.index_laws.specs.Shared.{share_a_key}
use Rattle.key_table.specs.Pairs.{shows}
use Rattle.rule_index.specs.Index.{near, candidates}
use Rattle.rule_index.specs.Lists.{placed, placed_from, for_frames}
use Rattle.rule_index.specs.Needs.{needs_of, shown_by}
use Rattle.rule_index.specs.Found.{SharersAreFound, HoldersAreFound, HoldersAreNear, FewAreFound, FewAreNear}
use Rattle.rule_index.proofs.Weighed.{sum_same, sum_none}
use Rattle.rule_index.proofs.Counted.{candidates_are_counted, near_are_counted}
use Rattle.rule_index.proofs.Shown.{needs_are_shown}

-- ---- how many

pub sum_of_ones : {X : Type 0} (xs : List X) → sum_by (λ x. 1) xs ≡ length xs
sum_of_ones [] = refl
sum_of_ones (x ∷ xs) = let a = sum_by-cons (λ x. 1) x xs in let b = sum_of_ones xs in omega arith

-- the rules count, whatever their places
placed_sum : (g : Rule → ℕ) (first : ℕ) (rules : List Rule) → sum_by (λ one. g one.1) (placed_from first rules) ≡ sum_by g rules
placed_sum g first [] = refl
placed_sum g first (rule ∷ rules) =
    let a = sum_by-cons (λ (one : ℕ × Rule). g one.1) (first, rule) (placed_from (first + 1) rules) in
    let b = sum_by-cons g rule rules in
    let c = placed_sum g (first + 1) rules in
    omega arith

-- those for frames alone
framed_sum : (g : Rule → ℕ) (first : ℕ) (rules : List Rule) → sum_by (λ one. g one.1) (for_frames (placed_from first rules)) ≡ sum_by g (rules_for_frames rules)
framed_sum g first [] = refl
framed_sum g first (rule ∷ rules) = by (framed_sum g (first + 1) rules) (is_for_frames rule.action)
  where
    rest : List (ℕ × Rule)
    rest = for_frames (placed_from (first + 1) rules)

    by : sum_by (λ (one : ℕ × Rule). g one.1) rest ≡ sum_by g (rules_for_frames rules) → (is : Bool) → sum_by (λ (one : ℕ × Rule). g one.1) (cond is ((first, rule) ∷ rest) rest) ≡ sum_by g (cond is (rule ∷ rules_for_frames rules) (rules_for_frames rules))
    by others true =
        let a = sum_by-cons (λ (one : ℕ × Rule). g one.1) (first, rule) rest in
        let b = sum_by-cons g rule (rules_for_frames rules) in
        let c = others in
        omega arith
    by others false = others

-- how many keys a rule shares, one by one
abbrev keys_in : Part → Rule → ℕ
keys_in part rule = sum_by (λ key. 1) (shared rule part)

counted : (rules : List Rule) (part : Part) → sum_by (keys_in part) rules ≡ pairs_on rules part
counted rules part = sum_same (keys_in part) (λ rule. length (shared rule part)) rules (λ rule. sum_of_ones (shared rule part))

pub few_are_found : FewAreFound
few_are_found rules index part is = (
  sym (sum_of_ones (candidates index.whole part)) ∙ candidates_are_counted (λ place. 1) (placed rules) index.whole part is.whole ∙ placed_sum (keys_in part) 0 rules ∙ counted rules part,
  sym (sum_of_ones (candidates index.framing part)) ∙ candidates_are_counted (λ place. 1) (for_frames (placed rules)) index.framing part is.framing ∙ framed_sum (keys_in part) 0 rules
      ∙ counted (rules_for_frames rules) part,
)

-- where some weigh nothing
abbrev shown_keys : Option ℕ → Part → Rule → ℕ
shown_keys shown part rule = sum_by (λ key. cond (shows (needs_of rule.condition) shown) 1 0) (shared rule part)

no_more : (shown : Option ℕ) (part : Part) (rule : Rule) → shown_keys shown part rule ≤ length (shared rule part)
no_more shown part rule = by (shows (needs_of rule.condition) shown)
  where
    by : (is : Bool) → sum_by (λ (key : Key). cond is 1 0) (shared rule part) ≤ length (shared rule part)
    by true = let a = sum_of_ones (shared rule part) in omega arith
    by false = let a = sum_none (λ (key : Key). 0) (shared rule part) (λ key. refl) in omega arith

fewer : (shown : Option ℕ) (part : Part) (rules : List Rule) → sum_by (shown_keys shown part) rules ≤ pairs_on rules part
fewer shown part rules = sum_by-le-sum_by (shown_keys shown part) (λ rule. length (shared rule part)) rules (no_more shown part)

pub few_are_near : FewAreNear
few_are_near shown rules index part is =
    let a = sum_of_ones (near index.whole shown part) in
    let b = near_are_counted (λ place. 1) shown (placed rules) index.whole part is.whole in
    let c = placed_sum (shown_keys shown part) 0 rules in
    let d = fewer shown part rules in
    let e = sum_of_ones (near index.framing shown part) in
    let f = near_are_counted (λ place. 1) shown (for_frames (placed rules)) index.framing part is.framing in
    let g = framed_sum (shown_keys shown part) 0 rules in
    let h = fewer shown part (rules_for_frames rules) in
    (omega arith, omega arith)

-- ---- a place that weighs something is given

abbrev at_place : ℕ → ℕ → ℕ
at_place place other = cond (other == place) 1 0

given : (place : ℕ) (places : List ℕ) → 0 < sum_by (at_place place) places → Contains places place
given place [] some = absurd (omega arith)
given place (other ∷ places) some =
    elim (cases_Bool (other == place)) [
      | inl same ↦ (0, omega arith, eqb-true other place same)
      | inr differs ↦
          let a = sum_by-cons (at_place place) other places in
          let b : at_place place other ≡ 0 = ap (λ same. cond same 1 0) differs in
          let rest = given place places (omega arith) in
          (suc rest.0, (let w = rest.1 in omega arith), rest.2)
    ]

abbrev or_own : Rule → Option Rule → Rule
or_own own None = own
or_own own (Some rule) = rule

same_rule : (own rule : Rule) → Some own ≡ Some rule → own ≡ rule
same_rule own rule is = ap (or_own own) is

-- each rule weighs no more than all
at_least : (g : ℕ × Rule → ℕ) (first at : ℕ) (rules : List Rule) (place : ℕ) (rule : Rule) → at ≡ first + place → slice_get rules place ≡ Some rule → g (at, rule) ≤ sum_by g (placed_from first rules)
at_least g first at [] place rule is there = absurd (false≢true (ap is_some there))
at_least g first at (own ∷ rules) zero rule is there =
    let same : at ≡ first = omega arith in
    let a = sum_by-cons g (first, own) (placed_from (first + 1) rules) in
    let b : g (at, rule) ≡ g (first, own) = ap (λ n. g (n, rule)) same ∙ ap (λ r. g (first, r)) (sym (same_rule own rule there)) in
    omega arith
at_least g first at (own ∷ rules) (suc place) rule is there =
    let a = sum_by-cons g (first, own) (placed_from (first + 1) rules) in
    let b = at_least g (first + 1) at rules place rule (omega arith) there in
    omega arith

at_least_framed : (g : ℕ × Rule → ℕ) (first at : ℕ) (rules : List Rule) (place : ℕ) (rule : Rule) → at ≡ first + place → slice_get rules place ≡ Some rule → is_for_frames rule.action ≡ true
    → g (at, rule) ≤ sum_by g (for_frames (placed_from first rules))
at_least_framed g first at [] place rule is there framing = absurd (false≢true (ap is_some there))
at_least_framed g first at (own ∷ rules) zero rule is there framing =
    let same : at ≡ first = omega arith in
    let one : own ≡ rule = same_rule own rule there in
    let rest = for_frames (placed_from (first + 1) rules) in
    let a = sum_by-cons g (first, own) rest in
    let b : g (at, rule) ≡ g (first, own) = ap (λ n. g (n, rule)) same ∙ ap (λ r. g (first, r)) (sym one) in
    let c : g (at, rule) ≤ sum_by g ((first, own) ∷ rest) = omega arith in
    let frames : is_for_frames own.action ≡ true = ap (λ (r : Rule). is_for_frames r.action) one ∙ framing in
    rw frames c
at_least_framed g first at (own ∷ rules) (suc place) rule is there framing =
    by (is_for_frames own.action) (at_least_framed g (first + 1) at rules place rule (omega arith) there framing)
  where
    rest : List (ℕ × Rule)
    rest = for_frames (placed_from (first + 1) rules)

    by : (is : Bool) → g (at, rule) ≤ sum_by g rest → g (at, rule) ≤ sum_by g (cond is ((first, own) ∷ rest) rest)
    by true later = let a = sum_by-cons g (first, own) rest in omega arith
    by false later = later

-- ---- a rule that shares a key has one among those that it has once

same_is : (key other : Key) → same_key key other ≡ true → key ≡ other
same_is (Host text) (Host other) same = ap Host ((bytes_eq-Decides text other).0 same)
same_is (Token text) (Token other) same = ap Token ((bytes_eq-Decides text other).0 same)
same_is (Initiator text) (Initiator other) same = ap Initiator ((bytes_eq-Decides text other).0 same)
same_is All All same = refl
same_is (Host text) (Token other) same = absurd (false≢true same)
same_is (Host text) (Initiator other) same = absurd (false≢true same)
same_is (Host text) All same = absurd (false≢true same)
same_is (Token text) (Host other) same = absurd (false≢true same)
same_is (Token text) (Initiator other) same = absurd (false≢true same)
same_is (Token text) All same = absurd (false≢true same)
same_is (Initiator text) (Host other) same = absurd (false≢true same)
same_is (Initiator text) (Token other) same = absurd (false≢true same)
same_is (Initiator text) All same = absurd (false≢true same)
same_is All (Host other) same = absurd (false≢true same)
same_is All (Token other) same = absurd (false≢true same)
same_is All (Initiator other) same = absurd (false≢true same)

was_there : (test : Key → Bool) (before : List Key) (key : Key) → has_key before key ≡ true → test key ≡ true → list_any test before ≡ true
was_there test [] key has passes = absurd (false≢true has)
was_there test (other ∷ before) key has passes =
    elim (or_cases (same_key other key) (has_key before key) has) [
      | inl same ↦ or_left (test other) (list_any test before) (ap test (same_is other key same) ∙ passes)
      | inr later ↦ or_right (test other) (list_any test before) (was_there test before key later passes)
    ]

any_behind : (test : Key → Bool) (xs ys : List Key) → list_any test ys ≡ true → list_any test (xs ++ ys) ≡ true
any_behind test xs ys has = list_any-append test xs ys ∙ or_right (list_any test xs) (list_any test ys) has

once_has : (test : Key → Bool) (before keys : List Key) → list_any test before ≡ false → list_any test keys ≡ true → list_any test (once_behind before keys) ≡ true
once_has test before [] none has = absurd (false≢true has)
once_has test before (key ∷ keys) none has =
    elim (cases_Bool (test key)) [
      | inl passes ↦
          let fresh : has_key before key ≡ false =
          elim (cases_Bool (has_key before key)) [
            | inl met ↦ absurd (false≢true (sym none ∙ was_there test before key met passes))
            | inr isnt ↦ isnt
          ] in
          rw fresh (or_left (test key) (list_any test (once_behind (before ++ key ∷ []) keys)) passes)
      | inr fails ↦
          let still : list_any test (before ++ key ∷ []) ≡ false = list_any-append test before (key ∷ []) ∙ rw (none, fails) refl in
          let later : list_any test keys ≡ true = rw fails at has in
          any_behind test (cond (has_key before key) [] (key ∷ [])) (once_behind (before ++ key ∷ []) keys) (once_has test (before ++ key ∷ []) keys still later)
    ]

some_kept : {X : Type 0} (test : X → Bool) (xs : List X) → list_any test xs ≡ true → 0 < length (filter test xs)
some_kept test [] has = absurd (false≢true has)
some_kept test (x ∷ xs) has =
    elim (cases_Bool (test x)) [
      | inl passes ↦ rw passes (omega arith)
      | inr fails ↦ rw fails (some_kept test xs (rw fails at has))
    ]

same_place : (place : ℕ) → (place == place) ≡ true
same_place place = grind (arith, nat_tests)

-- what the rule at a place weighs for that place
abbrev weight_at : Option ℕ → Part → ℕ → ℕ × Rule → ℕ
weight_at shown part place one = sum_by (λ key. cond (shows (needs_of one.1.condition) shown) (at_place place one.0) 0) (shared one.1 part)

weighs_some : (shown : Option ℕ) (rule : Rule) (part : Part) (place : ℕ) → share_a_key rule part ≡ true → shows (needs_of rule.condition) shown ≡ true → 0 < weight_at shown part place (place, rule)
weighs_some shown rule part place has passes =
    let one : cond (shows (needs_of rule.condition) shown) (at_place place place) 0 ≡ 1 =
    ap (λ is. cond is (at_place place place) 0) passes ∙ ap (λ same. cond same 1 0) (same_place place) in
    let ones : weight_at shown part place (place, rule) ≡ length (shared rule part) = ap (λ n. sum_by (λ (key : Key). n) (shared rule part)) one ∙ sum_of_ones (shared rule part) in
    let some : 0 < length (shared rule part) = some_kept (has_key (keys_of_part part)) (once (keys_of_rule rule)) (once_has (has_key (keys_of_part part)) [] (keys_of_rule rule) refl has) in
    omega arith

pub sharers_are_found : SharersAreFound
sharers_are_found shown rules index part place rule is there has passes =
    let some = weighs_some shown rule part place has passes in (
      given place (near index.whole shown part)
          (let all = near_are_counted (at_place place) shown (placed rules) index.whole part is.whole in
          let least = at_least (weight_at shown part place) 0 place rules place rule (omega arith) there in
          omega arith),
      λ framing.
          given place (near index.framing shown part)
          (let all = near_are_counted (at_place place) shown (for_frames (placed rules)) index.framing part is.framing in
          let least = at_least_framed (weight_at shown part place) 0 place rules place rule (omega arith) there framing in
          omega arith),
    )

pub holders_are_found : HoldersAreFound
holders_are_found suffixes rules index part place rule is there is_view has =
    sharers_are_found None rules index part place rule is there (rules_share_a_key suffixes rule part is_view has) refl

pub holders_are_near : HoldersAreNear
holders_are_near suffixes rules index part place rule is there is_view has =
    sharers_are_found (Some (shown_by part)) rules index part place rule is there (rules_share_a_key suffixes rule part is_view has) (needs_are_shown suffixes rule part is_view has)

-- The first change of a header alone says what may follow, behind any changes that took effect.
use Rattle.std.proofs.Common.{◌≡◌, ℕ, ◌+◌, ◌==◌, List, [], ◌∷◌, ◌++◌, bytes_eq, Bool, true, false, cond, not, ◌&&◌, ◌||◌, Option, Some, None, option_map, find, refl, sym, ap, ◌∙◌, zero-add, ⊎_elim}
use Rattle.std.specs.List.{list_any}
use Rattle.std.proofs.lemmas.Bool.{cases_Bool, cond-true, cond-false, true≢false}
use Rattle.std.proofs.lemmas.List.Folds.{list_any-append}
use Rattle.std.proofs.lemmas.List.Sums.{sum_by-append}
use Rattle.std.proofs.lemmas.Slice.Eq.{bytes_eq-Decides}
use Rattle.dnr_base.specs.declared.operation.Operation.{Operation}
use Rattle.dnr_base.specs.declared.operation.Operation.TheVariants.{Append, Set, Remove}
use Rattle.dnr_base.specs.declared.direction.Direction.{Direction}
use Rattle.dnr_base.specs.declared.direction.Direction.TheVariants.{Request, Response}
use Rattle.dnr_base.specs.declared.offered.Offered.{Offered}
use Rattle.dnr_spec.specs.Headers.{is_same_direction, forbids, may_follow, takes_effect}
use Rattle.header_actions.specs.Effects.{First, first_on, count_on, lets, IsSettled, with_first}

-- ---- tests

pub not_not : (b : Bool) → not (not b) ≡ b
not_not true = refl
not_not false = refl

or_false : (b : Bool) → (b || false) ≡ b
or_false true = refl
or_false false = refl

pub both_true : (a b : Bool) → (a && b) ≡ true → (a ≡ true) × (b ≡ true)
both_true true b h = (refl, h)
both_true false b h = cc

pub bytes_same : (a b : List ℕ) → bytes_eq a b ≡ true → a ≡ b
bytes_same a b h = (bytes_eq-Decides a b).0 h

pub bytes_eq_itself : (a : List ℕ) → bytes_eq a a ≡ true
bytes_eq_itself a = (bytes_eq-Decides a a).1 refl

pub bytes_turned : (a b : List ℕ) → bytes_eq a b ≡ false → bytes_eq b a ≡ false
bytes_turned a b h =
    ⊎_elim
    (λ (yes : bytes_eq b a ≡ true). absurd (true≢false (sym (bytes_eq_itself a) ∙ ap (bytes_eq a) (sym (bytes_same b a yes)) ∙ h)))
    (λ no. no)
    (cases_Bool (bytes_eq b a))

pub direction_same : (a b : Direction) → is_same_direction a b ≡ true → a ≡ b
direction_same Request Request h = refl
direction_same Request Response h = cc
direction_same Response Request h = cc
direction_same Response Response h = refl

-- ---- one more at the end

module _ {X : Type 0} where
  or_else : Option X → X → Option X
  or_else None x = Some x
  or_else (Some y) x = Some y

  find_off : (p : X → Bool) (xs : List X) (x : X) → p x ≡ false → find p (xs ++ x ∷ []) ≡ find p xs
  find_off p [] x h = cond-false (p x) (Some x) None h
  find_off p (y ∷ xs) x h = ap (λ r. cond (p y) (Some y) r) (find_off p xs x h)

  find_first : (p : X → Bool) (xs : List X) (x : X) → p x ≡ true → find p xs ≡ None → find p (xs ++ x ∷ []) ≡ Some x
  find_first p [] x h none = cond-true (p x) (Some x) None h
  find_first p (y ∷ xs) x h none =
      ⊎_elim
      (λ (yes : p y ≡ true). let some : Some y ≡ None = sym (cond-true (p y) (Some y) (find p xs) yes) ∙ none in absurd (cc))
      (λ (no : p y ≡ false). cond-false (p y) (Some y) (find p (xs ++ x ∷ [])) no ∙ find_first p xs x h (sym (cond-false (p y) (Some y) (find p xs) no) ∙ none))
      (cases_Bool (p y))

  find_stays : (p : X → Bool) (xs : List X) (x y : X) → find p xs ≡ Some y → find p (xs ++ x ∷ []) ≡ Some y
  find_stays p [] x y h = cc
  find_stays p (z ∷ xs) x y h =
      ⊎_elim
      (λ (yes : p z ≡ true). cond-true (p z) (Some z) (find p (xs ++ x ∷ [])) yes ∙ sym (cond-true (p z) (Some z) (find p xs) yes) ∙ h)
      (λ (no : p z ≡ false). cond-false (p z) (Some z) (find p (xs ++ x ∷ [])) no ∙ find_stays p xs x y (sym (cond-false (p z) (Some z) (find p xs) no) ∙ h))
      (cases_Bool (p z))

abbrev on : Direction → List ℕ → Offered → Bool
on direction name earlier = is_same_direction direction earlier.direction && bytes_eq name earlier.name

-- of another header
pub first_on_other : (direction : Direction) (name : List ℕ) (before : List Offered) (o : Offered) → on direction name o ≡ false → first_on direction name (before ++ o ∷ []) ≡ first_on direction name before
first_on_other direction name before o h = ap (option_map (λ first. (first.operation, first.age))) (find_off (on direction name) before o h)

-- of this header
by_found : (direction : Direction) (name : List ℕ) (before : List Offered) (o : Offered) → on direction name o ≡ true → (found : Option Offered) → find (on direction name) before ≡ found
    → first_on direction name (before ++ o ∷ []) ≡ with_first (first_on direction name before) o
by_found direction name before o h None e =
    ap (option_map (λ first. (first.operation, first.age))) (find_first (on direction name) before o h e)
    ∙ sym (ap (λ f. with_first (option_map (λ first. (first.operation, first.age)) f) o) e)
by_found direction name before o h (Some f) e =
    ap (option_map (λ first. (first.operation, first.age))) (find_stays (on direction name) before o f e)
    ∙ sym (ap (λ g. with_first (option_map (λ first. (first.operation, first.age)) g) o) e)

pub first_on_same : (direction : Direction) (name : List ℕ) (before : List Offered) (o : Offered) → on direction name o ≡ true → first_on direction name (before ++ o ∷ []) ≡ with_first (first_on direction name before) o
first_on_same direction name before o h = by_found direction name before o h (find (on direction name) before) refl

-- ---- the rules of one header

-- what a change that may follow forbids is forbidden already
nothing_new : (first now later : Operation) (a b c : Bool) → may_follow first a now ≡ true → (not (may_follow first b later) || not (may_follow now c later)) ≡ not (may_follow first b later)
nothing_new Append Append Append a b c h = refl
nothing_new Append Append Set a b c h = refl
nothing_new Append Append Remove a b c h = refl
nothing_new Append Set later a b c h = cc
nothing_new Append Remove later a b c h = cc
nothing_new Set Append Append a true c h = refl
nothing_new Set Append Append a false c h = refl
nothing_new Set Append Set a b c h = refl
nothing_new Set Append Remove a b c h = refl
nothing_new Set Set later a b c h = cc
nothing_new Set Remove later a b c h = cc
nothing_new Remove now later a b c h = cc

with_no_first : (o offer : Offered) (first : Option First) → lets first o ≡ true → (not (lets first offer) || not (may_follow o.operation (o.age == offer.age) offer.operation)) ≡ not (lets (with_first first o) offer)
with_no_first o offer None h = refl
with_no_first o offer (Some first) h = nothing_new first.0 o.operation offer.operation _ _ _ h

true_of_not : (b : Bool) → not b ≡ true → b ≡ false
true_of_not true h = cc
true_of_not false h = refl

-- an offer that takes effect is let by the first change on its header
pub lets_effective : (before : List Offered) (o : Offered) → IsSettled before → takes_effect before o ≡ true → lets (first_on o.direction o.name before) o ≡ true
lets_effective before o settled takes =
    let free = true_of_not _ (both_true _ _ takes).1 in
    sym (not_not (lets (first_on o.direction o.name before) o)) ∙ ap not (sym (settled o) ∙ free)

pub settled_nothing : IsSettled []
settled_nothing offer = refl

pub settled_more : (before : List Offered) (o : Offered) → IsSettled before → takes_effect before o ≡ true → IsSettled (before ++ o ∷ [])
settled_more before o settled takes offer =
    let any = λ (xs : List Offered). list_any (λ earlier. forbids earlier offer) xs in
    let apart = list_any-append (λ earlier. forbids earlier offer) before (o ∷ []) in
    let last = or_false (forbids o offer) in
    let first = first_on offer.direction offer.name before in
    let joined : any (before ++ o ∷ []) ≡ (not (lets first offer) || forbids o offer) =
    apart ∙ ap (λ b. any before || b) last ∙ ap (λ b. b || forbids o offer) (settled offer) in
    ⊎_elim
    (λ (same : on offer.direction offer.name o ≡ true).
    let parts = both_true _ _ same in
    let direction = direction_same offer.direction o.direction parts.0 in
    let name = bytes_same offer.name o.name parts.1 in
    let let_in : lets first o ≡ true = ap (λ d. lets (first_on d offer.name before) o) direction ∙ ap (λ n. lets (first_on o.direction n before) o) name ∙ lets_effective before o settled takes in
    joined
    ∙ ap (λ b. not (lets first offer) || (b && not (may_follow o.operation (o.age == offer.age) offer.operation))) same
    ∙ with_no_first o offer first let_in
    ∙ ap (λ f. not (lets f offer)) (sym (first_on_same offer.direction offer.name before o same)))
    (λ (other : on offer.direction offer.name o ≡ false).
    joined
    ∙ ap (λ b. not (lets first offer) || (b && not (may_follow o.operation (o.age == offer.age) offer.operation))) other
    ∙ or_false (not (lets first offer))
    ∙ ap (λ f. not (lets f offer)) (sym (first_on_other offer.direction offer.name before o other)))
    (cases_Bool (on offer.direction offer.name o))

pub count_more : (direction : Direction) (before : List Offered) (o : Offered) → count_on direction (before ++ o ∷ []) ≡ count_on direction before + cond (is_same_direction direction o.direction) 1 0
count_more direction before o = sum_by-append (λ (earlier : Offered). cond (is_same_direction direction earlier.direction) 1 0) before (o ∷ []) ∙ ap (λ n. count_on direction before + n) (zero-add (cond (is_same_direction direction o.direction) 1 0))

-- Which ids are taken.
use Rattle.std.proofs.Common.{◌≡◌, ◌≤◌, ◌<◌, ◌+◌, ℕ, suc, List, [], ◌∷◌, ◌++◌, Bool, true, false, cond, ◌||◌, ◌==◌, length, refl, sym, ap, ◌∙◌, ⊎_elim, arith, nat_lt, Less, Equal, Greater, get_or, Result, Ok, Err, eq-eqb}
use Rattle.std.specs.Prelude.{is_ok}
use Rattle.std.specs.Ordering.{nat_cmp, is_eq}
use Rattle.std.specs.BTreeSet.{BTreeSet, contains}
use Rattle.std.specs.BTreeMap.{is_at}
use Rattle.std.specs.List.{list_any}
use Rattle.std.specs.List.Sorted.{IsBinarySearchResult}
use Rattle.std.proofs.lemmas.List.Sorted.{searched}
use Rattle.std.proofs.lemmas.Bool.{cases_Bool}
use Rattle.std.proofs.lemmas.Bool.Decides.{nat_tests}
use Rattle.std.proofs.lemmas.List.{get_or_push, get_or_append_left, length-append}
use Rattle.std.proofs.lemmas.List.Folds.{list_any-append, list_any_at}
use Rattle.rule_read.specs.Reading.{is_taken}
use Rattle.rule_read.specs.Ids.{IsRising, AreUpTo}

none_of : (p : ℕ → Bool) (ids : List ℕ) → ((i : ℕ) → i < length ids → p (get_or ids i 0) ≡ false) → list_any p ids ≡ false
none_of p [] h = refl
none_of p (id ∷ ids) h = rw (h 0 (omega arith)) (none_of p ids (λ i inside. h (suc i) (omega (arith, inside))))

apart : (a b : ℕ) → (a < b) → (a == b) ≡ false
apart a b less = grind (arith, nat_tests, less)

apart_above : (a b : ℕ) → (b < a) → (a == b) ≡ false
apart_above a b less = grind (arith, nat_tests, less)

pub found : (ids : List ℕ) (id i : ℕ) → i < length ids → get_or ids i 0 ≡ id → is_taken ids id ≡ true
found ids id i inside is = list_any_at (λ other. other == id) ids i 0 inside (eq-eqb (get_or ids i 0) id is)

pub found_nowhere : (ids : List ℕ) (id i : ℕ) → ((k : ℕ) → k < i → get_or ids k 0 < id) → ((k : ℕ) → i ≤ k → k < length ids → id < get_or ids k 0) → is_taken ids id ≡ false
found_nowhere ids id i below above =
    none_of (λ other. other == id) ids (λ k inside.
    ⊎_elim
    (λ (less : nat_lt k i ≡ true). apart (get_or ids k 0) id (below k (let l : k < i = grind (arith, nat_tests, less) in l)))
    (λ (other : nat_lt k i ≡ false). apart_above (get_or ids k 0) id (above k (let l : i ≤ k = grind (arith, nat_tests, other) in l) inside))
    (cases_Bool (nat_lt k i)))

pub above_all : (ids : List ℕ) (greatest id : ℕ) → AreUpTo greatest ids → greatest < id → is_taken ids id ≡ false
above_all ids greatest id up less =
    none_of (λ other. other == id) ids (λ k inside. let at = up k inside in apart (get_or ids k 0) id (omega (arith, at, less)))

-- ---- the two parts

or_false : (b : Bool) → (b || false) ≡ b
or_false true = refl
or_false false = refl

equal_or_greater : (t : Bool) → is_eq (cond t Equal Greater) ≡ t
equal_or_greater true = refl
equal_or_greater false = refl

same_test : (a b : ℕ) → is_at (nat_cmp a) b ≡ (a == b)
same_test a b =
    ⊎_elim
    (λ less. let apart : (a == b) ≡ false = grind (arith, nat_tests) in ap (λ t. is_eq (cond t Less (cond (a == b) Equal Greater))) less ∙ sym apart)
    (λ not_less. ap (λ t. is_eq (cond t Less (cond (a == b) Equal Greater))) not_less ∙ equal_or_greater (a == b))
    (cases_Bool (nat_lt a b))

turned : (a b : ℕ) → (a == b) ≡ (b == a)
turned a b =
    ⊎_elim
    (λ (same : (a == b) ≡ true). let back : (b == a) ≡ true = grind (arith, nat_tests, same) in same ∙ sym back)
    (λ (other : (a == b) ≡ false). let back : (b == a) ≡ false = grind (arith, nat_tests, other) in other ∙ sym back)
    (cases_Bool (a == b))

pub contains_is : (set : BTreeSet ℕ) (id : ℕ) → contains nat_cmp set id ≡ is_taken set.keys id
contains_is set id = λ i. list_any (λ other. (same_test id other ∙ turned id other) i) set.keys

pub in_both : (rising others : List ℕ) (id : ℕ) → is_taken (rising ++ others) id ≡ (is_taken rising id || is_taken others id)
in_both rising others id = list_any-append (λ other. other == id) rising others

or_middle : (a b c : Bool) → ((a || b) || c) ≡ ((a || c) || b)
or_middle true b c = refl
or_middle false true true = refl
or_middle false true false = refl
or_middle false false true = refl
or_middle false false false = refl

-- an id more that rises
pub one_rises : (rising others : List ℕ) (id other : ℕ) → is_taken ((rising ++ id ∷ []) ++ others) other ≡ (is_taken (rising ++ others) other || id == other)
one_rises rising others id other =
    in_both (rising ++ id ∷ []) others other
    ∙ ap (λ b. b || is_taken others other) (in_both rising (id ∷ []) other ∙ ap (λ b. is_taken rising other || b) (or_false (id == other)))
    ∙ or_middle (is_taken rising other) (id == other) (is_taken others other)
    ∙ ap (λ b. b || id == other) (sym (in_both rising others other))

or_true : (b : Bool) → (b || true) ≡ true
or_true true = refl
or_true false = refl

or_chosen : (a b c : Bool) → (a || cond c true b) ≡ ((a || b) || c)
or_chosen true b c = refl
or_chosen false b true = sym (or_true b)
or_chosen false b false = sym (or_false b)

-- an id more among the others
pub one_more : (rising : List ℕ) (old new : BTreeSet ℕ) (id other : ℕ) (fresh : Bool) → contains nat_cmp new other ≡ cond (is_at (nat_cmp id) other) fresh (contains nat_cmp old other) → fresh ≡ true
    → is_taken (rising ++ new.keys) other ≡ (is_taken (rising ++ old.keys) other || id == other)
one_more rising old new id other fresh updates is =
    in_both rising new.keys other
    ∙ ap (λ b. is_taken rising other || b)
    (sym (contains_is new other) ∙ updates ∙ ap (λ t. cond t fresh (contains nat_cmp old other)) (same_test id other)
    ∙ ap (λ f. cond (id == other) f (contains nat_cmp old other)) is ∙ ap (λ b. cond (id == other) true b) (contains_is old other))
    ∙ or_chosen (is_taken rising other) (is_taken old.keys other) (id == other)
    ∙ ap (λ b. b || id == other) (sym (in_both rising old.keys other))

-- ---- what rises

pub up_more : (rising : List ℕ) (greatest id : ℕ) → AreUpTo greatest rising → greatest < id → AreUpTo id (rising ++ id ∷ [])
up_more rising greatest id up less k inside =
    let count : length (rising ++ id ∷ []) ≡ length rising + 1 = length-append rising (id ∷ []) in
    ⊎_elim
    (λ (early : nat_lt k (length rising) ≡ true).
    let l : k < length rising = grind (arith, nat_tests, early) in
    let at = up k l in
    let same = get_or_append_left rising (id ∷ []) 0 k l in
    omega (arith, at, same, less))
    (λ (late : nat_lt k (length rising) ≡ false).
    let last : length rising ≡ k = grind (arith, nat_tests, late, inside, count) in
    let same = get_or_push rising id 0 k last in
    omega (arith, same))
    (cases_Bool (nat_lt k (length rising)))

pub rising_more : (rising : List ℕ) (greatest id : ℕ) → IsRising rising → AreUpTo greatest rising → greatest < id → IsRising (rising ++ id ∷ [])
rising_more rising greatest id rises up less i j order inside =
    let count : length (rising ++ id ∷ []) ≡ length rising + 1 = length-append rising (id ∷ []) in
    ⊎_elim
    (λ (early : nat_lt j (length rising) ≡ true).
    let l : j < length rising = grind (arith, nat_tests, early) in
    let k : i < length rising = omega (arith, l, order) in
    let at = rises i j order l in
    let one = get_or_append_left rising (id ∷ []) 0 i k in
    let other = get_or_append_left rising (id ∷ []) 0 j l in
    omega (arith, at, one, other))
    (λ (late : nat_lt j (length rising) ≡ false).
    let last : length rising ≡ j = grind (arith, nat_tests, late, inside, count) in
    let top = get_or_push rising id 0 j last in
    let at = up_more rising greatest id up less i (omega (arith, order, inside)) in
    omega (arith, top, at))
    (cases_Bool (nat_lt j (length rising)))

-- ---- by halves

pub found_by_halves : (ids : List ℕ) (id : ℕ) (found_at : Result ℕ ℕ) → IsBinarySearchResult (λ other. nat_cmp other id) ids found_at → IsRising ids → is_ok found_at ≡ is_taken ids id
found_by_halves ids id (Ok i) h rises = let at = searched ids id (Ok i) h rises in sym (found ids id i at.0 at.1)
found_by_halves ids id (Err i) h rises = let at = searched ids id (Err i) h rises in sym (found_nowhere ids id i at.1 at.2)

-- above all, or sought by halves
pub risen_is : (ids : List ℕ) (greatest id : ℕ) → AreUpTo greatest ids → greatest < id → false ≡ is_taken ids id
risen_is ids greatest id up less = sym (above_all ids greatest id up less)

pub in_either : (rising : List ℕ) (others : BTreeSet ℕ) (id : ℕ) (risen other : Bool) → risen ≡ is_taken rising id → other ≡ contains nat_cmp others id → (risen || other) ≡ is_taken (rising ++ others.keys) id
in_either rising others id risen other r o =
    ap (λ b. b || other) r ∙ ap (λ b. is_taken rising id || b) (o ∙ contains_is others id) ∙ sym (in_both rising others.keys id)

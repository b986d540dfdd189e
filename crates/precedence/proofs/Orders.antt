-- The orders of precedence: they are orders, and of two candidates one beats the other unless they have one rank and
-- one id.
use Rattle.std.proofs.Common.{◌≡◌, ◌⊎◌, ℕ, ◌<◌, List, [], ◌∷◌, Bool, true, false, cond, ◌==◌, nat_lt, map, refl, sym, ap, ◌∙◌, ⊎_elim, inl, inr, arith}
use Rattle.std.proofs.lemmas.Bool.{cases_Bool, cond-true, cond-false, true≢false}
use Rattle.std.proofs.lemmas.Bool.Decides.{nat_tests}
use Rattle.dnr_base.specs.declared.candidate.Candidate.{Candidate}
use Rattle.dnr_base.specs.declared.winner.Winner.{Winner}
use Rattle.dnr_base.specs.declared.rank.Rank.{Rank}
use Rattle.dnr_base.specs.declared.rank.Rank.TheVariants.{Session, Dynamic, Static}
use Rattle.dnr_spec.specs.Order.{is_before, place_of, rank_of, class_of, beats, prevails}
use Rattle.precedence.specs.Laws.{IsOrder, OneBeats, OnePrevails}

-- ---- the comparison as a fact

abbrev Before : List (ℕ × ℕ) → Type 0
Before [] = ⊥
Before (pair ∷ pairs) = (pair.0 < pair.1) ⊎ ((pair.0 ≡ pair.1) × Before pairs)

pub before_true : (pairs : List (ℕ × ℕ)) → is_before pairs ≡ true → Before pairs
before_true [] h = true≢false (sym h)
before_true (pair ∷ pairs) h =
    ⊎_elim
    (λ same. let e : pair.0 ≡ pair.1 = grind (arith, nat_tests) in inr (e, before_true pairs (sym (cond-true (pair.0 == pair.1) (is_before pairs) (nat_lt pair.0 pair.1) same) ∙ h)))
    (λ apart. let less : nat_lt pair.0 pair.1 ≡ true = sym (cond-false (pair.0 == pair.1) (is_before pairs) (nat_lt pair.0 pair.1) apart) ∙ h in let fact : pair.0 < pair.1 = grind (arith, nat_tests) in inl fact)
    (cases_Bool (pair.0 == pair.1))

true_before : (pairs : List (ℕ × ℕ)) → Before pairs → is_before pairs ≡ true
true_before [] h = absurd h
true_before (pair ∷ pairs) (inl less) =
    let apart : (pair.0 == pair.1) ≡ false = grind (arith, nat_tests) in
    let fact : nat_lt pair.0 pair.1 ≡ true = grind (arith, nat_tests) in
    cond-false (pair.0 == pair.1) (is_before pairs) (nat_lt pair.0 pair.1) apart ∙ fact
true_before (pair ∷ pairs) (inr rest) =
    let e = rest.0 in
    let same : (pair.0 == pair.1) ≡ true = grind (arith, nat_tests) in
    cond-true (pair.0 == pair.1) (is_before pairs) (nat_lt pair.0 pair.1) same ∙ true_before pairs rest.1

-- where x is below y, z is above x or below y
below_either : (x y z : ℕ) → x < y → (x < z) ⊎ (z < y)
below_either x y z less =
    ⊎_elim
    (λ test. let fact : x < z = grind (arith, nat_tests) in inl fact)
    (λ test. let fact : z < y = grind (arith, nat_tests) in inr fact)
    (cases_Bool (nat_lt x z))

one_of_three : (x z : ℕ) → (x < z) ⊎ ((x ≡ z) ⊎ (z < x))
one_of_three x z =
    ⊎_elim
    (λ test. let fact : x < z = grind (arith, nat_tests) in inl fact)
    (λ test. ⊎_elim
    (λ same. let fact : x ≡ z = grind (arith, nat_tests) in inr (inl fact))
    (λ apart. let fact : z < x = grind (arith, nat_tests) in inr (inr fact))
    (cases_Bool (x == z)))
    (cases_Bool (nat_lt x z))

-- ---- three keys side by side

-- the numbers of three keys at one place; a pair of them is compared as it stands, or turned
pub data Place : Type 0 where
  plain : ℕ → ℕ → ℕ → Place
  turned : ℕ → ℕ → ℕ → Place

abbrev first_second : Place → ℕ × ℕ
first_second (plain x y z) = (x, y)
first_second (turned x y z) = (y, x)

abbrev second_first : Place → ℕ × ℕ
second_first (plain x y z) = (y, x)
second_first (turned x y z) = (x, y)

abbrev first_third : Place → ℕ × ℕ
first_third (plain x y z) = (x, z)
first_third (turned x y z) = (z, x)

abbrev third_second : Place → ℕ × ℕ
third_second (plain x y z) = (z, y)
third_second (turned x y z) = (y, z)

-- the first is before the second: then it is before the third, or the third is before the second
between : (places : List Place) → Before (map first_second places) → Before (map first_third places) ⊎ Before (map third_second places)
between [] h = absurd h
between (plain x y z ∷ places) (inl less) = ⊎_elim (λ l. inl (inl l)) (λ l. inr (inl l)) (below_either x y z less)
between (turned x y z ∷ places) (inl less) = ⊎_elim (λ l. inr (inl l)) (λ l. inl (inl l)) (below_either y x z less)
between (plain x y z ∷ places) (inr rest) =
    let e = rest.0 in
    ⊎_elim (λ (l : x < z). inl (inl l))
    (λ o. ⊎_elim
    (λ (same : x ≡ z). let other : z ≡ y = omega arith in ⊎_elim (λ b. inl (inr (same, b))) (λ b. inr (inr (other, b))) (between places rest.1))
    (λ (l : z < x). let fact : z < y = omega arith in inr (inl fact)) o)
    (one_of_three x z)
between (turned x y z ∷ places) (inr rest) =
    let e = rest.0 in
    ⊎_elim (λ (l : x < z). let fact : y < z = omega arith in inr (inl fact))
    (λ o. ⊎_elim
    (λ (same : x ≡ z). let one : z ≡ x = omega arith in let other : y ≡ z = omega arith in ⊎_elim (λ b. inl (inr (one, b))) (λ b. inr (inr (other, b))) (between places rest.1))
    (λ (l : z < x). inl (inl l)) o)
    (one_of_three x z)

not_both : (places : List Place) → Before (map first_second places) → Before (map second_first places) → ⊥
not_both [] h g = h
not_both (plain x y z ∷ places) (inl less) (inl more) = omega arith
not_both (plain x y z ∷ places) (inl less) (inr rest) = let e = rest.0 in omega arith
not_both (plain x y z ∷ places) (inr rest) (inl more) = let e = rest.0 in omega arith
not_both (plain x y z ∷ places) (inr rest) (inr other) = not_both places rest.1 other.1
not_both (turned x y z ∷ places) (inl less) (inl more) = omega arith
not_both (turned x y z ∷ places) (inl less) (inr rest) = let e = rest.0 in omega arith
not_both (turned x y z ∷ places) (inr rest) (inl more) = let e = rest.0 in omega arith
not_both (turned x y z ∷ places) (inr rest) (inr other) = not_both places rest.1 other.1

-- neither of two keys is before the other only where they are the same
abbrev IsSame : List Place → Type 0
IsSame [] = Unit {0}
IsSame (plain x y z ∷ places) = (x ≡ y) × IsSame places
IsSame (turned x y z ∷ places) = (x ≡ y) × IsSame places

same_numbers : (x y : ℕ) (left right : Bool) → cond (x == y) left (nat_lt x y) ≡ false → cond (y == x) right (nat_lt y x) ≡ false → (x ≡ y) × (left ≡ false) × (right ≡ false)
same_numbers x y left right h g =
    ⊎_elim
    (λ same.
    let e : x ≡ y = grind (arith, nat_tests) in
    let back : (y == x) ≡ true = grind (arith, nat_tests) in
    (e, sym (cond-true (x == y) left (nat_lt x y) same) ∙ h, sym (cond-true (y == x) right (nat_lt y x) back) ∙ g))
    (λ apart.
    let back : (y == x) ≡ false = grind (arith, nat_tests) in
    let not_less = sym (cond-false (x == y) left (nat_lt x y) apart) ∙ h in
    let not_more = sym (cond-false (y == x) right (nat_lt y x) back) ∙ g in
    let fact : ⊥ = grind (arith, nat_tests) in absurd fact)
    (cases_Bool (x == y))

neither_before : (places : List Place) → is_before (map first_second places) ≡ false → is_before (map second_first places) ≡ false → IsSame places
neither_before [] h g = tt
neither_before (plain x y z ∷ places) h g = let s = same_numbers x y _ _ h g in (s.0, neither_before places s.1 s.2)
neither_before (turned x y z ∷ places) h g = let s = same_numbers x y _ _ g h in (s.0, neither_before places s.2 s.1)

-- ---- both orders

-- the keys of three things, place by place
false_unless : (pairs : List (ℕ × ℕ)) → (Before pairs → ⊥) → is_before pairs ≡ false
false_unless pairs not_before = ⊎_elim (λ yes. absurd (not_before (before_true pairs yes))) (λ no. no) (cases_Bool (is_before pairs))

one_way_of : (places : List Place) → is_before (map first_second places) ≡ true → is_before (map second_first places) ≡ false
one_way_of places h = false_unless (map second_first places) (λ g. not_both places (before_true (map first_second places) h) g)

between_of : (places : List Place) → is_before (map first_second places) ≡ true → is_before (map third_second places) ≡ false → is_before (map first_third places) ≡ true
between_of places h g =
    ⊎_elim
    (λ before. true_before (map first_third places) before)
    (λ before. absurd (true≢false (sym (true_before (map third_second places) before) ∙ g)))
    (between places (before_true (map first_second places) h))

-- ---- candidates

abbrev places_of : Candidate → Candidate → Candidate → List Place
places_of a b c =
    turned a.priority b.priority c.priority
    ∷ plain (place_of a.action) (place_of b.action) (place_of c.action)
    ∷ plain (rank_of a.rank) (rank_of b.rank) (rank_of c.rank)
    ∷ plain a.id b.id c.id ∷ []

pub beats_is_order : IsOrder beats
beats_is_order = record {
  one_way = λ a b h. one_way_of (places_of a b a) h;
  between = λ a b c h g. between_of (places_of a b c) h g;
}

same_rank : (a b : Rank) → rank_of a ≡ rank_of b → a ≡ b
same_rank Session Session h = refl
same_rank Session Dynamic h = absurd (omega arith)
same_rank Session (Static n) h = absurd (omega arith)
same_rank Dynamic Session h = absurd (omega arith)
same_rank Dynamic Dynamic h = refl
same_rank Dynamic (Static n) h = absurd (omega arith)
same_rank (Static m) Session h = absurd (omega arith)
same_rank (Static m) Dynamic h = absurd (omega arith)
same_rank (Static m) (Static n) h = let e : m ≡ n = omega arith in ap Static e

pub beats_one_of_two : OneBeats
beats_one_of_two a b h g = let same = neither_before (places_of a b a) h g in (same_rank a.rank b.rank same.1.1.0, same.1.1.1.0)

-- ---- winners

abbrev winner_places : Winner → Winner → Winner → List Place
winner_places a b c =
    plain (class_of a.action) (class_of b.action) (class_of c.action)
    ∷ turned a.age b.age c.age ∷ []

pub prevails_is_order : IsOrder prevails
prevails_is_order = record {
  one_way = λ a b h. one_way_of (winner_places a b a) h;
  between = λ a b c h g. between_of (winner_places a b c) h g;
}

pub prevails_one_of_two : OnePrevails
prevails_one_of_two a b h g = let same = neither_before (winner_places a b a) h g in (same.0, same.1.0)

-- One more element of a list, in the loops that count, filter and write.
use Rattle.std.proofs.Common.{◌≡◌, ℕ, suc, ◌+◌, ◌<◌, ◌≤◌, Bool, true, false, cond, List, [], ◌∷◌, ◌++◌, length, get_or, take, drop, filter, count_by, not, ◌==◌, ◌||◌, zero-add, refl, sym, ap, ◌∙◌, ⊎_elim, arith, add-one, drop-cons}
use Rattle.std.specs.List.{list_any}
use Rattle.std.proofs.lemmas.Bool.{cases_Bool}
use Rattle.std.proofs.lemmas.Bool.Decides.{nat_tests}
use Rattle.std.proofs.lemmas.List.{take_more, take_all, length-take}
use Rattle.std.proofs.lemmas.List.Sums.{count_by_more_yes, count_by_more_no, count_by-le-length, length-filter, sum_by-cons}

pub take_next : {X : Type 0} (xs : List X) (i : ℕ) (x : X) → i < length xs → x ≡ get_or xs i x → take (i + 1) xs ≡ take i xs ++ x ∷ []
take_next xs i x within is = take_more xs i x within ∙ ap (λ y. take i xs ++ y ∷ []) (sym is)

pub drop_next : {X : Type 0} (xs : List X) (i : ℕ) (x : X) → i < length xs → x ≡ get_or xs i x → drop i xs ≡ x ∷ drop (i + 1) xs
drop_next xs i x within is =
    drop-cons xs i x within ∙ ap (λ y. y ∷ drop (suc i) xs) (sym is) ∙ ap (λ n. x ∷ drop n xs) (sym (add-one i))

pub count_next : {X : Type 0} (p : X → Bool) (xs : List X) (i : ℕ) (x : X) → i < length xs → x ≡ get_or xs i x → count_by p (take (i + 1) xs) ≡ count_by p (take i xs) + cond (p x) 1 0
count_next p xs i x within is =
    ⊎_elim
    (λ yes. let there : p (get_or xs i x) ≡ true = ap p (sym is) ∙ yes in count_by_more_yes p xs i x within there ∙ ap (λ b. count_by p (take i xs) + cond b 1 0) (sym yes))
    (λ no. let there : p (get_or xs i x) ≡ false = ap p (sym is) ∙ no in count_by_more_no p xs i x within there ∙ rw no (omega arith))
    (cases_Bool (p x))

pub few : {X : Type 0} (p : X → Bool) (xs : List X) (i : ℕ) → count_by p (take i xs) ≤ i
few p xs i = omega (arith, count_by-le-length p (take i xs), length-take i xs)

pub filter_count : {X : Type 0} (p : X → Bool) (xs : List X) (i : ℕ) → length xs ≤ i → count_by p (take i xs) ≡ length (filter p xs)
filter_count p xs i all = ap (count_by p) (take_all i xs all) ∙ sym (length-filter p xs)

-- no element passes the test where none is counted
none_cons : {X : Type 0} (p : X → Bool) (x : X) (xs : List X) (b : Bool) → p x ≡ b → not (list_any p xs) ≡ (count_by p xs == 0) → not (b || list_any p xs) ≡ (cond b 1 0 + count_by p xs == 0)
none_cons p x xs true is rest = grind (arith, nat_tests)
none_cons p x xs false is rest = rest ∙ ap (λ n. n == 0) (sym (zero-add (count_by p xs)))

pub none_of : {X : Type 0} (p : X → Bool) (xs : List X) → not (list_any p xs) ≡ (count_by p xs == 0)
none_of p [] = refl
none_of p (x ∷ xs) =
    none_cons p x xs (p x) refl (none_of p xs) ∙ ap (λ n. n == 0) (sym (sum_by-cons (λ y. cond (p y) 1 0) x xs))

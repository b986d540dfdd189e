-- The part of a list that passes a test, where what passes stands together.
use Rattle.std.proofs.Common.{◌≡◌, ℕ, suc, ◌+◌, ◌<◌, ◌≤◌, List, [], ◌∷◌, ◌++◌, Bool, true, false, cond, not, ◌||◌, ◌-◌, refl, sym, ap, ◌∙◌, length, take, drop, get_or, arith, append-nil, length-take, length-drop}
use Rattle.std.specs.Prelude.{◌==◌, slice_range, filter}
use Rattle.std.specs.List.{list_any}
use Rattle.std.proofs.lemmas.Bool.Decides.{nat_tests}
use Rattle.std.proofs.lemmas.List.{take-append-drop, get_or-take, get_or-drop}
use Rattle.std.proofs.lemmas.List.Edits.{get_or-between}
use Rattle.std.proofs.lemmas.List.Elements.{filter-append}
use Rattle.std.proofs.lemmas.List.Folds.{drop_split}

none_pass : {X : Type 0} (p : X → Bool) (xs : List X) → ((k : ℕ) (d : X) → k < length xs → p (get_or xs k d) ≡ false) → filter p xs ≡ []
none_pass p [] fails = refl
none_pass p (x ∷ xs) fails =
    rw (fails 0 x (omega arith)) (none_pass p xs (λ k d lt. fails (suc k) d (omega arith)))

all_pass : {X : Type 0} (p : X → Bool) (xs : List X) → ((k : ℕ) (d : X) → k < length xs → p (get_or xs k d) ≡ true) → filter p xs ≡ xs
all_pass p [] passes = refl
all_pass p (x ∷ xs) passes =
    rw (passes 0 x (omega arith)) (ap (λ rest. x ∷ rest) (all_pass p xs (λ k d lt. passes (suc k) d (omega arith))))

-- what passes stands between two places
pub passes_between : {X : Type 0} (p : X → Bool) (xs : List X) (i j : ℕ) → i ≤ j → j ≤ length xs
    → ((k : ℕ) (d : X) → k < i → p (get_or xs k d) ≡ false)
    → ((k : ℕ) (d : X) → i ≤ k → k < j → p (get_or xs k d) ≡ true)
    → ((k : ℕ) (d : X) → j ≤ k → k < length xs → p (get_or xs k d) ≡ false)
    → slice_range xs i j ≡ filter p xs
passes_between {X} p xs i j ordered within before here behind =
    let mid : List X = slice_range xs i j in
    let front : filter p (take i xs) ≡ [] = none_pass p (take i xs) (λ k d lt.
    let below : k < i = omega (arith, length-take i xs) in
    ap p (get_or-take i xs k d below) ∙ before k d below) in
    let back : filter p (drop j xs) ≡ [] = none_pass p (drop j xs) (λ k d lt.
    ap p (get_or-drop j xs k d) ∙ behind (j + k) d (omega arith) (omega (arith, length-drop j xs))) in
    let split : drop i xs ≡ mid ++ drop j xs = drop_split xs i j ordered in
    let middle : filter p mid ≡ mid = all_pass p mid (λ k d lt.
    let inside : i + k < j = omega (arith, lt, length-take (j - i) (drop i xs)) in
    ap p (get_or-between xs i j k d inside) ∙ here (i + k) d (omega arith) inside) in
    let whole : filter p xs ≡ filter p (take i xs) ++ filter p (drop i xs) = ap (filter p) (sym (take-append-drop i xs)) ∙ filter-append p (take i xs) (drop i xs) in
    let rest : filter p (drop i xs) ≡ filter p mid ++ filter p (drop j xs) = ap (filter p) split ∙ filter-append p mid (drop j xs) in
    sym (whole ∙ (rw (front, rest, back, middle) (append-nil mid)))

nonzero : (n : ℕ) → (suc n == 0) ≡ false
nonzero n = grind (arith, nat_tests)

some_step : {X : Type 0} (b : Bool) (x : X) (kept : List X) (any : Bool) → not (length kept == 0) ≡ any → not (length (cond b (x ∷ kept) kept) == 0) ≡ (b || any)
some_step true x kept any is = ap not (nonzero (length kept))
some_step false x kept any is = is

-- something passes where the part that passes is not empty
pub some_pass : {X : Type 0} (p : X → Bool) (xs : List X) → not (length (filter p xs) == 0) ≡ list_any p xs
some_pass p [] = refl
some_pass p (x ∷ xs) = some_step (p x) x (filter p xs) (list_any p xs) (some_pass p xs)

-- A stable sort has one answer.
use Rattle.std.proofs.Common.{◌≡◌, ℕ, suc, ◌<◌, ◌≤◌, List, [], ◌∷◌, ◌++◌, length, get_or, reverse, Bool, true, false, not, ◌&&◌, cond, filter, refl, sym, ap, ◌∙◌, ⊎_elim, arith, append-nil}
use Rattle.std.specs.List.{AllByRecursion}
use Rattle.std.specs.List.Sorted.{IsSortedBy, ties}
use Rattle.std.specs.Cmp.{IsStrictWeakOrder}
use Rattle.std.proofs.lemmas.Bool.{cases_Bool, cond-true, cond-false, true≢false}
use Rattle.std.proofs.lemmas.List.{reverse-append}
use Rattle.std.proofs.lemmas.List.Elements.{filter-append}
use Rattle.std.proofs.lemmas.List.Sorted.{sorted_far}

both_true : (a b : Bool) → (a && b) ≡ true → (a ≡ true) × (b ≡ true)
both_true true true h = (refl, refl)
both_true true false h = cc
both_true false b h = cc

not_true : (a : Bool) → not a ≡ true → a ≡ false
not_true true h = cc
not_true false h = refl

module _ {X : Type 0} (lt : X → X → Bool) where
  -- no element is less than an earlier one
  abbrev pub Ascends : List X → Type 0
  Ascends [] = Unit {0}
  Ascends (x ∷ xs) = AllByRecursion (λ y. lt y x ≡ false) xs × Ascends xs

  -- the elements that tie with any one are the same, in the same order
  abbrev pub SameTies : List X → List X → Type 0
  SameTies xs ys = (z : X) → filter (ties lt z) xs ≡ filter (ties lt z) ys

  -- sorting by insertion, each behind those that tie with it
  abbrev pub into_behind : X → List X → List X
  into_behind x [] = x ∷ []
  into_behind x (y ∷ ys) = cond (lt x y) (x ∷ y ∷ ys) (y ∷ into_behind x ys)

  abbrev pub each_behind : List X → List X
  each_behind [] = []
  each_behind (x ∷ xs) = into_behind x (each_behind xs)

  -- and each before those that tie with it
  abbrev pub into_before : X → List X → List X
  into_before x [] = x ∷ []
  into_before x (y ∷ ys) = cond (lt y x) (y ∷ into_before x ys) (x ∷ y ∷ ys)

  abbrev pub each_before : List X → List X
  each_before [] = []
  each_before (x ∷ xs) = into_before x (each_before xs)

module _ {X : Type 0} (lt : X → X → Bool) (order : IsStrictWeakOrder lt) where
  pub tied_left : (x y : X) → ties lt x y ≡ true → lt x y ≡ false
  tied_left x y h = not_true (lt x y) (both_true (not (lt x y)) (not (lt y x)) h).0

  pub tied_right : (x y : X) → ties lt x y ≡ true → lt y x ≡ false
  tied_right x y h = not_true (lt y x) (both_true (not (lt x y)) (not (lt y x)) h).1

  pub tied_by : (x y : X) → lt x y ≡ false → lt y x ≡ false → ties lt x y ≡ true
  tied_by x y h g = ap (λ b. not b && not (lt y x)) h ∙ ap (λ b. not false && not b) g

  pub never_below_itself : (x : X) → lt x x ≡ false
  never_below_itself x = ⊎_elim (λ yes. absurd (true≢false (sym yes ∙ order.one_way x x yes))) (λ no. no) (cases_Bool (lt x x))

  pub tied_itself : (x : X) → ties lt x x ≡ true
  tied_itself x = tied_by x x (never_below_itself x) (never_below_itself x)

  none_tie : (z : X) (xs : List X) → AllByRecursion (λ x. ties lt z x ≡ false) xs → filter (ties lt z) xs ≡ []
  none_tie z [] h = refl
  none_tie z (x ∷ xs) h = cond-false (ties lt z x) (x ∷ filter (ties lt z) xs) (filter (ties lt z) xs) h.0 ∙ none_tie z xs h.1

  pub all_weaker : (P Q : X → Type 0) → ((x : X) → P x → Q x) → (xs : List X) → AllByRecursion P xs → AllByRecursion Q xs
  all_weaker P Q f [] h = tt
  all_weaker P Q f (x ∷ xs) h = (f x h.0, all_weaker P Q f xs h.1)

  -- what is less than x ties with nothing that is not less than x
  below_ties_not : (z x y : X) → lt z x ≡ true → lt y x ≡ false → ties lt z y ≡ false
  below_ties_not z x y less not_less =
      ⊎_elim
      (λ (yes : ties lt z y ≡ true). absurd (true≢false (sym less ∙ order.chain z y x (tied_left z y yes) not_less)))
      (λ (no : ties lt z y ≡ false). no)
      (cases_Bool (ties lt z y))

  pub below_all : (z x : X) (xs : List X) → lt z x ≡ true → Ascends lt (x ∷ xs) → filter (ties lt z) (x ∷ xs) ≡ []
  below_all z x xs less h =
      none_tie z (x ∷ xs) (below_ties_not z x x less (never_below_itself x), all_weaker (λ y. lt y x ≡ false) (λ y. ties lt z y ≡ false) (λ y. below_ties_not z x y less) xs h.0)

  first_tie : (z x : X) (xs : List X) → ties lt z x ≡ true → filter (ties lt z) (x ∷ xs) ≡ x ∷ filter (ties lt z) xs
  first_tie z x xs h = cond-true (ties lt z x) (x ∷ filter (ties lt z) xs) (filter (ties lt z) xs) h

  never_empty : (x : X) (xs : List X) → x ∷ xs ≡ [] → ⊥
  never_empty x xs h = cc

  heads_tie : (x : X) (xs : List X) (y : X) (ys : List X) → Ascends lt (y ∷ ys) → SameTies lt (x ∷ xs) (y ∷ ys) → lt x y ≡ false
  heads_tie x xs y ys h same =
      ⊎_elim
      (λ (less : lt x y ≡ true). absurd (never_empty x (filter (ties lt x) xs) (sym (first_tie x x xs (tied_itself x)) ∙ same x ∙ below_all x y ys less h)))
      (λ (no : lt x y ≡ false). no)
      (cases_Bool (lt x y))

  rest_ties : (b : Bool) (x y : X) (xs ys : List X) → x ≡ y → cond b (x ∷ xs) xs ≡ cond b (y ∷ ys) ys → xs ≡ ys
  rest_ties true x y xs ys is h = cc
  rest_ties false x y xs ys is h = h

  same_head : (x y : X) (xs ys : List X) → x ∷ xs ≡ y ∷ ys → x ≡ y
  same_head x y xs ys h = cc

  both_cons : (x y : X) (xs ys : List X) → x ≡ y → xs ≡ ys → x ∷ xs ≡ y ∷ ys
  both_cons x y xs ys h g = cc

  pub one_answer : (xs ys : List X) → Ascends lt xs → Ascends lt ys → SameTies lt xs ys → xs ≡ ys
  one_answer [] [] up down same = refl
  one_answer [] (y ∷ ys) up down same = absurd (never_empty y (filter (ties lt y) ys) (sym (first_tie y y ys (tied_itself y)) ∙ sym (same y)))
  one_answer (x ∷ xs) [] up down same = absurd (never_empty x (filter (ties lt x) xs) (sym (first_tie x x xs (tied_itself x)) ∙ same x))
  one_answer (x ∷ xs) (y ∷ ys) up down same =
      let tied = tied_by x y (heads_tie x xs y ys down same) (heads_tie y ys x xs up (λ z. sym (same z))) in
      let is : x ≡ y = same_head x y (filter (ties lt x) xs) (filter (ties lt x) ys) (sym (first_tie x x xs (tied_itself x)) ∙ same x ∙ first_tie x y ys tied) in
      both_cons x y xs ys is
      (one_answer xs ys up.1 down.1
      (λ z. rest_ties (ties lt z x) x y (filter (ties lt z) xs) (filter (ties lt z) ys) is
      (same z ∙ ap (λ (w : X). cond (ties lt z w) (y ∷ filter (ties lt z) ys) (filter (ties lt z) ys)) (sym is))))

  -- ---- what std's sort answers

  all_from : (x : X) (xs : List X) → ((j : ℕ) (d : X) → j < length xs → lt (get_or xs j d) x ≡ false) → AllByRecursion (λ y. lt y x ≡ false) xs
  all_from x [] h = tt
  all_from x (y ∷ ys) h = (h 0 y (omega arith), all_from x ys (λ j d less. h (suc j) d (omega arith)))

  far_ascends : (xs : List X) → ((i j : ℕ) (d : X) → i ≤ j → j < length xs → lt (get_or xs j d) (get_or xs i d) ≡ false) → Ascends lt xs
  far_ascends [] h = tt
  far_ascends (x ∷ xs) h =
      (all_from x xs (λ j d less. h 0 (suc j) d (omega arith) (omega arith)), far_ascends xs (λ i j d le less. h (suc i) (suc j) d (omega arith) (omega arith)))

  pub sorted_ascends : (xs : List X) → IsSortedBy lt xs → Ascends lt xs
  sorted_ascends xs h = far_ascends xs (sorted_far lt order xs h)

  -- ---- sorting by insertion, each behind those that tie with it

  either_all : (P : X → Type 0) (b : Bool) (xs ys : List X) → AllByRecursion P xs → AllByRecursion P ys → AllByRecursion P (cond b xs ys)
  either_all P true xs ys h g = h
  either_all P false xs ys h g = g

  behind_all : (P : X → Type 0) (x : X) (xs : List X) → P x → AllByRecursion P xs → AllByRecursion P (into_behind lt x xs)
  behind_all P x [] h all = (h, tt)
  behind_all P x (y ∷ ys) h all =
      either_all P (lt x y) (x ∷ y ∷ ys) (y ∷ into_behind lt x ys) (h, all) (all.0, behind_all P x ys h all.1)

  -- what is not less than y, which x is below, is not less than x
  not_below : (x y z : X) → lt x y ≡ true → lt z y ≡ false → lt z x ≡ false
  not_below x y z less h = order.chain z y x h (order.one_way x y less)

  behind_case : (b : Bool) (x y : X) (ys : List X) → lt x y ≡ b → Ascends lt (y ∷ ys) → Ascends lt (into_behind lt x ys) → Ascends lt (cond b (x ∷ y ∷ ys) (y ∷ into_behind lt x ys))
  behind_case true x y ys less h rest =
      ((order.one_way x y less, all_weaker (λ z. lt z y ≡ false) (λ z. lt z x ≡ false) (λ z. not_below x y z less) ys h.0), h)
  behind_case false x y ys less h rest = (behind_all (λ z. lt z y ≡ false) x ys less h.0, rest)

  behind_ascends : (x : X) (xs : List X) → Ascends lt xs → Ascends lt (into_behind lt x xs)
  behind_ascends x [] h = (tt, tt)
  behind_ascends x (y ∷ ys) h = behind_case (lt x y) x y ys refl h (behind_ascends x ys h.1)

  pub each_ascends : (xs : List X) → Ascends lt (each_behind lt xs)
  each_ascends [] = tt
  each_ascends (x ∷ xs) = behind_ascends x (each_behind lt xs) (each_ascends xs)

  -- what ties with x is below y too
  tied_below : (z x y : X) → ties lt z x ≡ true → lt x y ≡ true → lt z y ≡ true
  tied_below z x y tied less =
      ⊎_elim
      (λ (yes : lt z y ≡ true). yes)
      (λ (no : lt z y ≡ false). absurd (true≢false (sym less ∙ order.chain x z y (tied_right z x tied) no)))
      (cases_Bool (lt z y))

  first_case : (b : Bool) (z x y : X) (ys : List X) → ties lt z x ≡ b → lt x y ≡ true → Ascends lt (y ∷ ys)
      → cond b (x ∷ filter (ties lt z) (y ∷ ys)) (filter (ties lt z) (y ∷ ys)) ≡ filter (ties lt z) (y ∷ ys) ++ cond b (x ∷ []) []
  first_case true z x y ys tied less h =
      let none = below_all z y ys (tied_below z x y tied less) h in
      ap (λ l. x ∷ l) none ∙ ap (λ l. l ++ x ∷ []) (sym none)
  first_case false z x y ys tied less h = sym (append-nil (filter (ties lt z) (y ∷ ys)))

  later_case : (b : Bool) (y : X) (xs ys zs : List X) → xs ≡ ys ++ zs → cond b (y ∷ xs) xs ≡ cond b (y ∷ ys) ys ++ zs
  later_case true y xs ys zs h = ap (λ l. y ∷ l) h
  later_case false y xs ys zs h = h

  behind_ties_case : (b : Bool) (z x y : X) (ys : List X) → lt x y ≡ b → Ascends lt (y ∷ ys) → filter (ties lt z) (into_behind lt x ys) ≡ filter (ties lt z) ys ++ filter (ties lt z) (x ∷ [])
      → filter (ties lt z) (cond b (x ∷ y ∷ ys) (y ∷ into_behind lt x ys)) ≡ filter (ties lt z) (y ∷ ys) ++ filter (ties lt z) (x ∷ [])
  behind_ties_case true z x y ys less h rest = first_case (ties lt z x) z x y ys refl less h
  behind_ties_case false z x y ys less h rest =
      later_case (ties lt z y) y (filter (ties lt z) (into_behind lt x ys)) (filter (ties lt z) ys) (filter (ties lt z) (x ∷ [])) rest

  behind_ties : (z x : X) (xs : List X) → Ascends lt xs → filter (ties lt z) (into_behind lt x xs) ≡ filter (ties lt z) xs ++ filter (ties lt z) (x ∷ [])
  behind_ties z x [] h = refl
  behind_ties z x (y ∷ ys) h = behind_ties_case (lt x y) z x y ys refl h (behind_ties z x ys h.1)

  -- those that tie stand in the opposite order
  pub each_ties : (xs : List X) → SameTies lt (each_behind lt xs) (reverse xs)
  each_ties [] z = refl
  each_ties (x ∷ xs) z =
      behind_ties z x (each_behind lt xs) (each_ascends xs)
      ∙ ap (λ l. l ++ filter (ties lt z) (x ∷ [])) (each_ties xs z)
      ∙ sym (filter-append (ties lt z) (reverse xs) (x ∷ []))
      ∙ ap (filter (ties lt z)) (sym (reverse-append (x ∷ []) xs))

  -- so a stable sort of the list turned round gives the same
  pub sorted_behind : (xs sorted : List X) → IsSortedBy lt sorted → SameTies lt sorted (reverse xs) → sorted ≡ each_behind lt xs
  sorted_behind xs sorted up same = one_answer sorted (each_behind lt xs) (sorted_ascends sorted up) (each_ascends xs) (λ z. same z ∙ sym (each_ties xs z))

  -- ---- sorting by insertion, each before those that tie with it

  before_all : (P : X → Type 0) (x : X) (xs : List X) → P x → AllByRecursion P xs → AllByRecursion P (into_before lt x xs)
  before_all P x [] h all = (h, tt)
  before_all P x (y ∷ ys) h all =
      either_all P (lt y x) (y ∷ into_before lt x ys) (x ∷ y ∷ ys) (all.0, before_all P x ys h all.1) (h, all)

  before_case : (b : Bool) (x y : X) (ys : List X) → lt y x ≡ b → Ascends lt (y ∷ ys) → Ascends lt (into_before lt x ys) → Ascends lt (cond b (y ∷ into_before lt x ys) (x ∷ y ∷ ys))
  before_case true x y ys less h rest = (before_all (λ z. lt z y ≡ false) x ys (order.one_way y x less) h.0, rest)
  before_case false x y ys less h rest =
      ((less, all_weaker (λ z. lt z y ≡ false) (λ z. lt z x ≡ false) (λ z g. order.chain z y x g less) ys h.0), h)

  before_ascends : (x : X) (xs : List X) → Ascends lt xs → Ascends lt (into_before lt x xs)
  before_ascends x [] h = (tt, tt)
  before_ascends x (y ∷ ys) h = before_case (lt y x) x y ys refl h (before_ascends x ys h.1)

  each_before_ascends : (xs : List X) → Ascends lt (each_before lt xs)
  each_before_ascends [] = tt
  each_before_ascends (x ∷ xs) = before_ascends x (each_before lt xs) (each_before_ascends xs)

  -- what is below x does not tie with what x ties with
  not_both : (z x y : X) → ties lt z y ≡ true → lt y x ≡ true → ties lt z x ≡ false
  not_both z x y tied less =
      ⊎_elim
      (λ (yes : ties lt z x ≡ true). absurd (true≢false (sym less ∙ order.chain y z x (tied_right z y tied) (tied_left z x yes))))
      (λ (no : ties lt z x ≡ false). no)
      (cases_Bool (ties lt z x))

  passed_case : (b : Bool) (z x y : X) (xs ys : List X) → ties lt z y ≡ b → lt y x ≡ true → xs ≡ cond (ties lt z x) (x ∷ ys) ys
      → cond b (y ∷ xs) xs ≡ cond (ties lt z x) (x ∷ cond b (y ∷ ys) ys) (cond b (y ∷ ys) ys)
  passed_case true z x y xs ys tied less h =
      let no = not_both z x y tied less in
      ap (λ l. y ∷ l) (h ∙ cond-false (ties lt z x) (x ∷ ys) ys no) ∙ sym (cond-false (ties lt z x) (x ∷ y ∷ ys) (y ∷ ys) no)
  passed_case false z x y xs ys tied less h = h

  before_ties_case : (b : Bool) (z x y : X) (ys : List X) → lt y x ≡ b → filter (ties lt z) (into_before lt x ys) ≡ filter (ties lt z) (x ∷ ys)
      → filter (ties lt z) (cond b (y ∷ into_before lt x ys) (x ∷ y ∷ ys)) ≡ filter (ties lt z) (x ∷ y ∷ ys)
  before_ties_case true z x y ys less rest = passed_case (ties lt z y) z x y (filter (ties lt z) (into_before lt x ys)) (filter (ties lt z) ys) refl less rest
  before_ties_case false z x y ys less rest = refl

  before_ties : (z x : X) (xs : List X) → filter (ties lt z) (into_before lt x xs) ≡ filter (ties lt z) (x ∷ xs)
  before_ties z x [] = refl
  before_ties z x (y ∷ ys) = before_ties_case (lt y x) z x y ys refl (before_ties z x ys)

  each_before_ties : (xs : List X) → SameTies lt (each_before lt xs) xs
  each_before_ties [] z = refl
  each_before_ties (x ∷ xs) z = before_ties z x (each_before lt xs) ∙ ap (λ l. cond (ties lt z x) (x ∷ l) l) (each_before_ties xs z)

  -- so a stable sort of the list gives the same
  pub sorted_before : (xs sorted : List X) → IsSortedBy lt sorted → SameTies lt sorted xs → sorted ≡ each_before lt xs
  sorted_before xs sorted up same = one_answer sorted (each_before lt xs) (sorted_ascends sorted up) (each_before_ascends xs) (λ z. same z ∙ sym (each_before_ties xs z))

-- Members of a list, and tests of them.
use Rattle.std.proofs.Common.{◌≡◌, List, [], ◌∷◌, ◌++◌, map, Bool, true, false, cond, ◌⊎◌, inl, inr, refl, sym, ap, ◌∙◌, ⊎_elim}
use Rattle.std.specs.Prelude.{filter}
use Rattle.std.specs.List.{list_any, list_all}
use Rattle.hide_rules.specs.Members.{In}
use Rattle.std.proofs.lemmas.Bool.{and_parts, and_from, or_cases, or_left, or_right}

pub same_answer : (a b : Bool) → (a ≡ true → b ≡ true) → (b ≡ true → a ≡ true) → a ≡ b
same_answer true b to from = sym (to refl)
same_answer false true to from = from refl
same_answer false false to from = refl

in_kept : {X : Type 0} (b : Bool) (x y : X) (ys : List X) → (b ≡ true → (y ≡ x)) ⊎ In x ys → b ≡ true → In x (cond b (y ∷ ys) ys)
in_kept true x y ys (inl e) t = inl (e refl)
in_kept true x y ys (inr i) t = inr i
in_kept false x y ys h t = cc

later_kept : {X : Type 0} (b : Bool) (x y : X) (ys : List X) → In x ys → In x (cond b (y ∷ ys) ys)
later_kept true x y ys i = inr i
later_kept false x y ys i = i

kept_in : {X : Type 0} (b : Bool) (x y : X) (ys : List X) → In x (cond b (y ∷ ys) ys) → ((b ≡ true) × (y ≡ x)) ⊎ In x ys
kept_in true x y ys (inl e) = inl (refl, e)
kept_in true x y ys (inr i) = inr i
kept_in false x y ys i = inr i

module _ {X : Type 0} where
  pub any_out : (test : X → Bool) (xs : List X) → list_any test xs ≡ true → (x : X) × In x xs × (test x ≡ true)
  any_out test [] h = cc
  any_out test (x ∷ xs) h =
      ⊎_elim (λ e. (x, inl refl, e)) (λ e. let r = any_out test xs e in (r.0, inr r.1, r.2)) (or_cases (test x) (list_any test xs) h)

  pub any_in : (test : X → Bool) (x : X) (xs : List X) → In x xs → test x ≡ true → list_any test xs ≡ true
  any_in test x [] i h = absurd i
  any_in test x (y ∷ ys) (inl e) h = or_left (test y) (list_any test ys) (ap test e ∙ h)
  any_in test x (y ∷ ys) (inr i) h = or_right (test y) (list_any test ys) (any_in test x ys i h)

  pub all_in : (test : X → Bool) (x : X) (xs : List X) → In x xs → list_all test xs ≡ true → test x ≡ true
  all_in test x [] i h = absurd i
  all_in test x (y ∷ ys) (inl e) h = ap test (sym e) ∙ (and_parts (test y) (list_all test ys) h).0
  all_in test x (y ∷ ys) (inr i) h = all_in test x ys i (and_parts (test y) (list_all test ys) h).1

  pub all_from : (test : X → Bool) (xs : List X) → ((x : X) → In x xs → test x ≡ true) → list_all test xs ≡ true
  all_from test [] f = refl
  all_from test (x ∷ xs) f = and_from (test x) (list_all test xs) (f x (inl refl)) (all_from test xs (λ y i. f y (inr i)))

  pub in_filtered : (test : X → Bool) (x : X) (xs : List X) → In x xs → test x ≡ true → In x (filter test xs)
  in_filtered test x [] i h = absurd i
  in_filtered test x (y ∷ ys) (inl e) h = in_kept (test y) x y (filter test ys) (inl (λ t. e)) (ap test e ∙ h)
  in_filtered test x (y ∷ ys) (inr i) h = later_kept (test y) x y (filter test ys) (in_filtered test x ys i h)

  pub in_unfiltered : (test : X → Bool) (x : X) (xs : List X) → In x (filter test xs) → In x xs × (test x ≡ true)
  in_unfiltered test x [] i = absurd i
  in_unfiltered test x (y ∷ ys) i =
      ⊎_elim
      (λ h. (inl h.1, ap test (sym h.1) ∙ h.0))
      (λ later. let r = in_unfiltered test x ys later in (inr r.0, r.1))
      (kept_in (test y) x y (filter test ys) i)

  pub filter_same : (p q : X → Bool) (xs : List X) → ((x : X) → In x xs → p x ≡ q x) → filter p xs ≡ filter q xs
  filter_same p q [] same = refl
  filter_same p q (x ∷ xs) same = λ i. cond (same x (inl refl) i) (x ∷ filter_same p q xs (λ y j. same y (inr j)) i) (filter_same p q xs (λ y j. same y (inr j)) i)

module _ {X Y : Type 0} where
  pub in_mapped : (f : X → Y) (x : X) (xs : List X) → In x xs → In (f x) (map f xs)
  in_mapped f x [] i = absurd i
  in_mapped f x (y ∷ ys) (inl e) = inl (ap f e)
  in_mapped f x (y ∷ ys) (inr i) = inr (in_mapped f x ys i)

  pub in_unmapped : (f : X → Y) (y : Y) (xs : List X) → In y (map f xs) → (x : X) × In x xs × (f x ≡ y)
  in_unmapped f y [] i = absurd i
  in_unmapped f y (x ∷ xs) (inl e) = (x, inl refl, e)
  in_unmapped f y (x ∷ xs) (inr i) = let r = in_unmapped f y xs i in (r.0, inr r.1, r.2)

module _ {X : Type 0} where
  pub in_before : (x : X) (xs ys : List X) → In x xs → In x (xs ++ ys)
  in_before x [] ys i = absurd i
  in_before x (y ∷ xs) ys (inl e) = inl e
  in_before x (y ∷ xs) ys (inr i) = inr (in_before x xs ys i)

  pub in_behind : (x : X) (xs ys : List X) → In x ys → In x (xs ++ ys)
  in_behind x [] ys i = i
  in_behind x (y ∷ xs) ys i = inr (in_behind x xs ys i)

  pub in_either : (x : X) (xs ys : List X) → In x (xs ++ ys) → In x xs ⊎ In x ys
  in_either x [] ys i = inr i
  in_either x (y ∷ xs) ys (inl e) = inl (inl e)
  in_either x (y ∷ xs) ys (inr i) = ⊎_elim (λ before. inl (inr before)) (λ behind. inr behind) (in_either x xs ys i)

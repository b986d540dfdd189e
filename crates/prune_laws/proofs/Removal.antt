-- A list with one element less: which of it no other beats.
use Rattle.std.proofs.Common.{◌≡◌, List, [], ◌∷◌, ◌++◌, Bool, true, false, cond, not, ◌||◌, Option, Some, None, ◌⊎◌, inl, inr, refl, sym, ap, ◌∙◌, ⊎_elim}
use Rattle.std.specs.List.{list_any, find}
use Rattle.std.proofs.lemmas.Bool.{cond-true, cond-false, true≢false, or_from, or_parts, not_from_false, not_from_true, not-true, cases_Bool, false_from_ne_true}
use Rattle.precedence.specs.Laws.{IsOrder}
use Rattle.rule_spec.specs.Scan.{unbeaten_of}
use Rattle.compile_laws.proofs.Lists.{In, any_in, any_out, none_in, none_out, has_left}

or_turned : (a b c : Bool) → (a || (b || c)) ≡ (b || (a || c))
or_turned true true c = refl
or_turned true false c = refl
or_turned false b c = refl

none_or_some : {X : Type 0} (o : Option X) → (o ≡ None) ⊎ ((w : X) × (o ≡ Some w))
none_or_some None = inl refl
none_or_some (Some x) = inr (x, refl)

module _ {X : Type 0} where
  pub any_with : (test : X → Bool) (front : List X) (p : X) (back : List X) → list_any test (front ++ p ∷ back) ≡ (test p || list_any test (front ++ back))
  any_with test [] p back = refl
  any_with test (x ∷ front) p back = ap (λ b. test x || b) (any_with test front p back) ∙ or_turned (test x) (test p) (list_any test (front ++ back))

  find_alike : (f g : X → Bool) → ((x : X) → f x ≡ g x) → (xs : List X) → find f xs ≡ find g xs
  find_alike f g same [] = refl
  find_alike f g same (x ∷ xs) = let rest = find_alike f g same xs in λ i. cond (same x i) (Some x) (rest i)

  find_without : (f : X → Bool) (front : List X) (p : X) (back : List X) → f p ≡ false → find f (front ++ p ∷ back) ≡ find f (front ++ back)
  find_without f [] p back h = cond-false (f p) (Some p) (find f back) h
  find_without f (x ∷ front) p back h = ap (λ r. cond (f x) (Some x) r) (find_without f front p back h)

  found_before : (b : Bool) (x w : X) (o r : Option X) → (o ≡ Some w → r ≡ Some w) → cond b (Some x) o ≡ Some w → cond b (Some x) r ≡ Some w
  found_before true x w o r g h = h
  found_before false x w o r g h = g h

  find_front : (f : X → Bool) (front rest : List X) (w : X) → find f front ≡ Some w → find f (front ++ rest) ≡ Some w
  find_front f [] rest w h = cc
  find_front f (x ∷ front) rest w h = found_before (f x) x w (find f front) (find f (front ++ rest)) (find_front f front rest w) h

  not_before : (b : Bool) (x : X) (o r s : Option X) → (o ≡ None → r ≡ s) → cond b (Some x) o ≡ None → cond b (Some x) r ≡ s
  not_before true x o r s g h = cc
  not_before false x o r s g h = g h

  find_behind : (f : X → Bool) (front rest : List X) → find f front ≡ None → find f (front ++ rest) ≡ find f rest
  find_behind f [] rest h = refl
  find_behind f (x ∷ front) rest h = not_before (f x) x (find f front) (find f (front ++ rest)) (find f rest) (find_behind f front rest) h

  pub find_there : (f : X → Bool) (xs : List X) (w : X) → find f xs ≡ Some w → In w xs × (f w ≡ true)
  find_there f [] w h = cc
  find_there f (x ∷ xs) w h = by (f x) refl (find_there f xs w) h
    where
      by : (b : Bool) → f x ≡ b → (find f xs ≡ Some w → In w xs × (f w ≡ true)) → cond b (Some x) (find f xs) ≡ Some w → In w (x ∷ xs) × (f w ≡ true)
      by true e later g = let same : x ≡ w = cc in (inl same, sym (ap f same) ∙ e)
      by false e later g = let r = later g in (inr r.0, r.1)

  pub find_some : (f : X → Bool) (xs : List X) (w : X) → In w xs → f w ≡ true → (v : X) × (find f xs ≡ Some v)
  find_some f [] w i h = absurd i
  find_some f (x ∷ xs) w (inl e) h = (x, cond-true (f x) (Some x) (find f xs) (ap f e ∙ h))
  find_some f (x ∷ xs) w (inr i) h =
      ⊎_elim
      (λ here. (x, cond-true (f x) (Some x) (find f xs) here))
      (λ apart. let r = find_some f xs w i h in (r.0, cond-false (f x) (Some x) (find f xs) apart ∙ r.1))
      (cases_Bool (f x))

module _ {X : Type 0} (strong : X → X → Bool) (order : IsOrder strong) where
  never_itself : (a : X) → strong a a ≡ false
  never_itself a = false_from_ne_true (strong a a) (λ yes. true≢false (sym yes ∙ order.one_way a a yes))

  beats_through : (a b c : X) → strong a b ≡ true → strong b c ≡ true → strong a c ≡ true
  beats_through a b c h g = order.between a b c h (order.one_way b c g)

  abbrev stands_in : List X → X → Bool
  stands_in list one = not (list_any (λ other. strong other one) list)

  -- some element of a list that is not empty is beaten by none of it
  least : (x : X) (xs : List X) → (w : X) × In w (x ∷ xs) × (list_any (λ other. strong other w) (x ∷ xs) ≡ false)
  least x [] = (x, inl refl, or_from (strong x x) false (never_itself x) refl)
  least x (y ∷ ys) =
      let r = least y ys in
      ⊎_elim
      (λ wins. (
        x,
        inl refl,
        or_from (strong x x) _ (never_itself x)
            (none_out (λ other. strong other x) (y ∷ ys) (λ other i. false_from_ne_true (strong other x) (λ more.
            true≢false (sym (beats_through other x r.0 more wins) ∙ none_in (λ o. strong o r.0) other (y ∷ ys) r.2 i)))),
      ))
      (λ loses. (r.0, inr r.1, or_from (strong x r.0) _ loses r.2))
      (cases_Bool (strong x r.0))

  -- so a list with an element has one that is found
  pub found_in : (list : List X) (k : X) → In k list → (w : X) × (unbeaten_of strong list ≡ Some w) × In w list × (list_any (λ other. strong other w) list ≡ false)
  found_in [] k i = absurd i
  found_in (x ∷ xs) k i =
      let r = least x xs in
      let f = find_some (stands_in (x ∷ xs)) (x ∷ xs) r.0 r.1 (not_from_false _ r.2) in
      let t = find_there (stands_in (x ∷ xs)) (x ∷ xs) f.0 f.1 in
      (f.0, f.1, t.0, not-true _ t.1)

  module _ (front : List X) (p : X) (back : List X) where
    -- one that beats all that p beats makes p needless
    same_tests : (u : X) → In u (front ++ back) → ((x : X) → strong p x ≡ true → strong u x ≡ true) → (x : X) → stands_in (front ++ p ∷ back) x ≡ stands_in (front ++ back) x
    same_tests u i more x =
        ap not (any_with (λ other. strong other x) front p back
        ∙ ⊎_elim
        (λ beaten. ap (λ b. b || list_any (λ other. strong other x) (front ++ back)) beaten ∙ sym (any_in (λ other. strong other x) u (front ++ back) i (more x beaten)))
        (λ stays. ap (λ b. b || list_any (λ other. strong other x) (front ++ back)) stays)
        (cases_Bool (strong p x)))

    beaten_one : list_any (λ other. strong other p) (front ++ back) ≡ true → unbeaten_of strong (front ++ p ∷ back) ≡ unbeaten_of strong (front ++ back)
    beaten_one h =
        let r = any_out (λ other. strong other p) (front ++ back) h in
        let falls : stands_in (front ++ p ∷ back) p ≡ false = not_from_true _ (any_with (λ other. strong other p) front p back ∙ ap (λ b. strong p p || b) h ∙ or_true (strong p p)) in
        find_without (stands_in (front ++ p ∷ back)) front p back falls
        ∙ find_alike (stands_in (front ++ p ∷ back)) (stands_in (front ++ back)) (same_tests r.0 r.1 (λ x wins. beats_through r.0 p x r.2 wins)) (front ++ back)
      where
        or_true : (b : Bool) → (b || true) ≡ true
        or_true true = refl
        or_true false = refl

    -- without p the same one is found, or p was found and nothing else beats it
    pub without : (unbeaten_of strong (front ++ p ∷ back) ≡ unbeaten_of strong (front ++ back))
        ⊎ ((unbeaten_of strong (front ++ p ∷ back) ≡ Some p) × (list_any (λ other. strong other p) (front ++ back) ≡ false))
    without =
        ⊎_elim (λ beaten. inl (beaten_one beaten)) (λ stands. by_front stands (none_or_some (find (stands_in (front ++ p ∷ back)) front)))
        (cases_Bool (list_any (λ other. strong other p) (front ++ back)))
      where
        earlier : (w : X) → find (stands_in (front ++ p ∷ back)) front ≡ Some w → unbeaten_of strong (front ++ p ∷ back) ≡ unbeaten_of strong (front ++ back)
        earlier w found =
            let t = find_there (stands_in (front ++ p ∷ back)) front w found in
            let free = or_parts (strong p w) _ (sym (any_with (λ other. strong other w) front p back) ∙ not-true _ t.1) in
            let more = λ (x : X) (wins : strong p x ≡ true). ⊎_elim (λ (yes : strong w x ≡ true). yes) (λ (no : strong w x ≡ false). absurd (true≢false (sym (order.between p x w wins no) ∙ free.0))) (cases_Bool (strong w x)) in
            find_front (stands_in (front ++ p ∷ back)) front (p ∷ back) w found
            ∙ sym (sym (find_alike (stands_in (front ++ p ∷ back)) (stands_in (front ++ back)) (same_tests w (in_front w t.0) more) (front ++ back))
            ∙ find_front (stands_in (front ++ p ∷ back)) front back w found)
          where
            in_front : (w : X) → In w front → In w (front ++ back)
            in_front w i = has_left (λ y. y ≡ w) front back i

        by_front : list_any (λ other. strong other p) (front ++ back) ≡ false → (find (stands_in (front ++ p ∷ back)) front ≡ None) ⊎ ((w : X) × (find (stands_in (front ++ p ∷ back)) front ≡ Some w))
            → (unbeaten_of strong (front ++ p ∷ back) ≡ unbeaten_of strong (front ++ back)) ⊎ ((unbeaten_of strong (front ++ p ∷ back) ≡ Some p) × (list_any (λ other. strong other p) (front ++ back) ≡ false))
        by_front free (inl none) =
            let stays : stands_in (front ++ p ∷ back) p ≡ true = not_from_false _ (any_with (λ other. strong other p) front p back ∙ or_from (strong p p) _ (never_itself p) free) in
            inr (find_behind (stands_in (front ++ p ∷ back)) front (p ∷ back) none ∙ cond-true _ (Some p) (find (stands_in (front ++ p ∷ back)) back) stays, free)
        by_front free (inr found) = inl (earlier found.0 found.1)

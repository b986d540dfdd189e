-- The best so far, kept while a list is walked, is the one that no other beats.
use Rattle.std.proofs.Common.{◌≡◌, ℕ, ◌+◌, ◌<◌, ◌≤◌, List, [], ◌∷◌, ◌++◌, length, take, get_or, Bool, true, false, not, ◌||◌, nat_lt, Option, Some, None, option_map, IsNone, ◌↔◌, position, refl, sym, ap, ◌∙◌, subst, ⊎_elim, append_assoc, append-nil, length-append, length-take, arith}
use Rattle.std.specs.List.{list_any, prefix_len, AllByRecursion}
use Rattle.std.proofs.lemmas.Bool.{cases_Bool, cond-true, cond-false, true≢false}
use Rattle.std.proofs.lemmas.Bool.Decides.{nat_tests}
use Rattle.std.proofs.lemmas.List.{take_more, take_all}
use Rattle.dnr_spec.specs.Order.{unbeaten}
use Rattle.precedence.specs.Laws.{IsOrder, with_one_more, IsKept}
use Rattle.precedence.specs.Best.{IsBest, Keeps, better}

-- ---- lists

or_right : (a b : Bool) → b ≡ true → (a || b) ≡ true
or_right true b h = refl
or_right false b h = h

module _ {X : Type 0} where
  any_at : (test : X → Bool) (before : List X) (x : X) (behind : List X) → test x ≡ true → list_any test (before ++ x ∷ behind) ≡ true
  any_at test [] x behind h = ap (λ b. b || list_any test behind) h
  any_at test (y ∷ before) x behind h = or_right (test y) _ (any_at test before x behind h)

  none_of : (test : X → Bool) (xs : List X) → AllByRecursion (λ y. test y ≡ false) xs → list_any test xs ≡ false
  none_of test [] h = refl
  none_of test (x ∷ xs) h = ap (λ b. b || list_any test xs) h.0 ∙ none_of test xs h.1

  none_at : (test : X → Bool) (before : List X) (x : X) (behind : List X) → AllByRecursion (λ y. test y ≡ false) before → test x ≡ false → AllByRecursion (λ y. test y ≡ false) behind → list_any test (before ++ x ∷ behind) ≡ false
  none_at test [] x behind b h e = none_of test (x ∷ behind) (h, e)
  none_at test (y ∷ before) x behind b h e = ap (λ v. v || list_any test (before ++ x ∷ behind)) b.0 ∙ none_at test before x behind b.1 h e

  all_weaker : (P Q : X → Type 0) → ((x : X) → P x → Q x) → (xs : List X) → AllByRecursion P xs → AllByRecursion Q xs
  all_weaker P Q f [] h = tt
  all_weaker P Q f (x ∷ xs) h = (f x h.0, all_weaker P Q f xs h.1)

  all_append : (P : X → Type 0) (xs ys : List X) → AllByRecursion P xs → AllByRecursion P ys → AllByRecursion P (xs ++ ys)
  all_append P [] ys h g = g
  all_append P (x ∷ xs) ys h g = (h.0, all_append P xs ys h.1 g)

  prefix_at : (test : X → Bool) (before : List X) (x : X) (behind : List X) → AllByRecursion (λ y. test y ≡ true) before → test x ≡ false → prefix_len test (before ++ x ∷ behind) ≡ length before
  prefix_at test [] x behind all fails = cond-false (test x) (1 + prefix_len test behind) 0 fails
  prefix_at test (y ∷ before) x behind all fails =
      let rest = prefix_at test before x behind all.1 fails in
      cond-true (test y) (1 + prefix_len test (before ++ x ∷ behind)) 0 all.0 ∙ omega arith

  position_at : (test : X → Bool) (before : List X) (x : X) (behind : List X) → AllByRecursion (λ y. not (test y) ≡ true) before → not (test x) ≡ false → position test (before ++ x ∷ behind) ≡ Some (length before)
  position_at test before x behind all passes =
      let e = prefix_at (λ y. not (test y)) before x behind all passes in
      let n = length-append before (x ∷ behind) in
      let less : nat_lt (prefix_len (λ y. not (test y)) (before ++ x ∷ behind)) (length (before ++ x ∷ behind)) ≡ true = grind (arith, nat_tests) in
      cond-true _ (Some (prefix_len (λ y. not (test y)) (before ++ x ∷ behind))) None less ∙ ap Some e

  get_at : (before : List X) (x : X) (behind : List X) (d : X) → get_or (before ++ x ∷ behind) (length before) d ≡ x
  get_at [] x behind d = refl
  get_at (y ∷ before) x behind d = get_at before x behind d

-- ---- the best

module _ {X : Type 0} (goes_before : X → X → Bool) (order : IsOrder goes_before) where
  never_itself : (a : X) → goes_before a a ≡ false
  never_itself a = ⊎_elim (λ yes. absurd (true≢false (sym yes ∙ order.one_way a a yes))) (λ no. no) (cases_Bool (goes_before a a))

  best_at : (before : List X) (best : X) (behind : List X) → AllByRecursion (λ x. goes_before best x ≡ true) before → AllByRecursion (λ x. goes_before x best ≡ false) behind → unbeaten goes_before (before ++ best ∷ behind) ≡ Some (length before)
  best_at before best behind beaten stays =
      let list = before ++ best ∷ behind in
      position_at (λ x. not (list_any (λ other. goes_before other x) list)) before best behind
      (all_weaker _ _ (λ x h. ap (λ b. not (not b)) (any_at (λ other. goes_before other x) before best behind h)) before beaten)
      (ap (λ b. not (not b)) (none_at (λ other. goes_before other best) before best behind (all_weaker _ _ (λ x h. order.one_way best x h) before beaten) (never_itself best) stays))

  -- the best of a list is the one that no other beats
  pub best_is : (list : List X) (place : ℕ) (best : X) → IsBest goes_before list place best → unbeaten goes_before list ≡ Some place
  best_is list place best is = ap (unbeaten goes_before) is.cut ∙ best_at is.before best is.behind is.beaten is.unbeaten ∙ ap Some (sym is.stands)

  pub best_first : (x : X) → IsBest goes_before (x ∷ []) 0 x
  best_first x = record { before = []; behind = []; cut = refl; stands = refl; beaten = tt; unbeaten = tt }

  pub best_stays : (list : List X) (place : ℕ) (best : X) → IsBest goes_before list place best → (next : X) → goes_before next best ≡ false → IsBest goes_before (list ++ next ∷ []) place best
  best_stays list place best is next loses = record {
    before = is.before;
    behind = is.behind ++ next ∷ [];
    cut = ap (λ l. l ++ next ∷ []) is.cut ∙ append_assoc is.before (best ∷ is.behind) (next ∷ []);
    stands = is.stands;
    beaten = is.beaten;
    unbeaten = all_append _ is.behind (next ∷ []) is.unbeaten (loses, tt);
  }

  pub best_changes : (list : List X) (place : ℕ) (best : X) → IsBest goes_before list place best → (next : X) → goes_before next best ≡ true → IsBest goes_before (list ++ next ∷ []) (length list) next
  best_changes list place best is next wins = record {
    before = list;
    behind = [];
    cut = refl;
    stands = refl;
    beaten = subst (AllByRecursion (λ x. goes_before next x ≡ true)) (sym is.cut)
        (all_append _ is.before (best ∷ is.behind)
        (all_weaker _ _ (λ x h. order.between next best x wins (order.one_way best x h)) is.before is.beaten)
        (wins, all_weaker _ _ (λ x h. order.between next best x wins h) is.behind is.unbeaten));
    unbeaten = tt;
  }

  -- ---- a walk over a list

  pub keeps_all : (list : List X) (kept : Option (ℕ × X)) → Keeps goes_before list kept → unbeaten goes_before list ≡ option_map (λ k. k.0) kept
  keeps_all list None h = ap (unbeaten goes_before) h
  keeps_all list (Some kept) h = best_is list kept.0 kept.1 h

  not_empty : (before : List X) (x : X) (behind : List X) → before ++ x ∷ behind ≡ [] → ⊥
  not_empty [] x behind h = cc
  not_empty (y ∷ before) x behind h = cc

  -- nothing is kept of the empty list alone
  pub keeps_none : (list : List X) (kept : Option (ℕ × X)) → Keeps goes_before list kept → IsNone kept ↔ (list ≡ [])
  keeps_none list None h = (λ _. h, λ _. refl)
  keeps_none list (Some kept) h = (λ (none : true ≡ false). absurd (true≢false none), λ empty. absurd (not_empty h.before kept.1 h.behind (sym h.cut ∙ empty)))

  pub keeps_more : (list : List X) (kept : Option (ℕ × X)) → Keeps goes_before list kept → (next : X) → Keeps goes_before (list ++ next ∷ []) (better goes_before kept (length list) next)
  keeps_more list None h next = subst (λ (l : List X). IsBest goes_before (l ++ next ∷ []) (length l) next) (sym h) (best_first next)
  keeps_more list (Some kept) h next =
      ⊎_elim
      (λ wins. subst (Keeps goes_before (list ++ next ∷ [])) (sym (cond-true _ (Some (length list, next)) (Some kept) wins)) (best_changes list kept.0 kept.1 h next wins))
      (λ loses. subst (Keeps goes_before (list ++ next ∷ [])) (sym (cond-false _ (Some (length list, next)) (Some kept) loses)) (best_stays list kept.0 kept.1 h next loses))
      (cases_Bool (goes_before next kept.1))

  kept_of : (done : List X) (kept : Option (ℕ × X)) → Keeps goes_before done kept → (rest : List X) → (k : Option (ℕ × X)) × Keeps goes_before (done ++ rest) k
  kept_of done kept h [] = (kept, subst (λ (l : List X). Keeps goes_before l kept) (sym (append-nil done)) h)
  kept_of done kept h (x ∷ rest) =
      let more = kept_of (done ++ x ∷ []) (better goes_before kept (length done) x) (keeps_more done kept h x) rest in
      (more.0, subst (λ (l : List X). Keeps goes_before l more.0) (append_assoc done (x ∷ []) rest) more.1)

  one_more : (list : List X) (next : X) (kept : Option (ℕ × X)) → Keeps goes_before list kept → unbeaten goes_before (list ++ next ∷ []) ≡ with_one_more goes_before list next (unbeaten goes_before list)
  one_more list next None h = subst (λ (l : List X). unbeaten goes_before (l ++ next ∷ []) ≡ with_one_more goes_before l next (unbeaten goes_before l)) (sym h) (best_is (next ∷ []) 0 next (best_first next))
  one_more list next (Some kept) h =
      let there : get_or list kept.0 next ≡ kept.1 = ap (λ l. get_or l kept.0 next) h.cut ∙ ap (λ n. get_or (h.before ++ kept.1 ∷ h.behind) n next) h.stands ∙ get_at h.before kept.1 h.behind next in
      let old = best_is list kept.0 kept.1 h in
      ⊎_elim
      (λ (wins : goes_before next kept.1 ≡ true). best_is _ _ _ (best_changes list kept.0 kept.1 h next wins)
      ∙ sym (ap (with_one_more goes_before list next) old ∙ cond-true _ (Some (length list)) (Some kept.0) (ap (goes_before next) there ∙ wins)))
      (λ (loses : goes_before next kept.1 ≡ false). best_is _ _ _ (best_stays list kept.0 kept.1 h next loses)
      ∙ sym (ap (with_one_more goes_before list next) old ∙ cond-false _ (Some (length list)) (Some kept.0) (ap (goes_before next) there ∙ loses)))
      (cases_Bool (goes_before next kept.1))

  -- one more at the end of a list takes the place of the unbeaten one where it beats it
  pub is_kept : IsKept goes_before
  is_kept list next = let k = kept_of [] None refl list in one_more list next k.0 k.1

  -- one step of a walk by index
  pub keeps_step : (list : List X) (place : ℕ) (next : X) (kept : Option (ℕ × X)) → place < length list → next ≡ get_or list place next → Keeps goes_before (take place list) kept → Keeps goes_before (take (place + 1) list) (better goes_before kept place next)
  keeps_step list place next kept inside is h =
      let cut : take (place + 1) list ≡ take place list ++ next ∷ [] = take_more list place next inside ∙ ap (λ x. take place list ++ x ∷ []) (sym is) in
      let long : length (take place list) ≡ place = grind (arith, length-take) in
      subst (λ (l : List X). Keeps goes_before l (better goes_before kept place next)) (sym cut)
      (subst (λ (n : ℕ). Keeps goes_before (take place list ++ next ∷ []) (better goes_before kept n next)) long (keeps_more (take place list) kept h next))

  -- where the walk ends
  pub keeps_end : (list : List X) (place : ℕ) (kept : Option (ℕ × X)) → length list ≤ place → Keeps goes_before (take place list) kept
      → (unbeaten goes_before list ≡ option_map (λ k. k.0) kept) × (IsNone kept ↔ (list ≡ []))
  keeps_end list place kept end h =
      let whole = subst (λ (l : List X). Keeps goes_before l kept) (take_all place list end) h in
      (keeps_all list kept whole, keeps_none list kept whole)

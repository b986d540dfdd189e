-- The best so far is the one that no other beats.
use Rattle.std.proofs.Common.{◌≡◌, ℕ, List, [], ◌∷◌, ◌++◌, length, Bool, true, false, not, ◌||◌, fold, Option, Some, None, refl, sym, ap, ◌∙◌, subst, ⊎_elim, append_assoc, append-nil}
use Rattle.std.specs.Prelude.{if◌then◌else◌}
use Rattle.std.specs.List.{list_any, find, AllByRecursion}
use Rattle.std.proofs.lemmas.Bool.{cases_Bool, cond-true, cond-false, true≢false}
use Rattle.dnr_base.specs.declared.candidate.Candidate.{Candidate}
use Rattle.dnr_base.specs.declared.winner.Winner.{Winner}
use Rattle.dnr_spec.specs.Order.{across, beats, prevails}
use Rattle.precedence.specs.Best.{IsBest}
use Rattle.precedence.specs.Laws.{IsOrder, with_one_more}
use Rattle.precedence.proofs.Orders.{beats_is_order, prevails_is_order}
use Rattle.precedence.proofs.Unbeaten.{best_first, best_stays, best_changes, best_is, is_kept}
use Rattle.rule_spec.specs.Scan.{unbeaten_of, winner_seen}
use Rattle.generation.specs.Choice.{goes_before}
use Rattle.generation.specs.Kept.{better_of}

or_right : (a b : Bool) → b ≡ true → (a || b) ≡ true
or_right true b h = refl
or_right false b h = h

module _ {X : Type 0} where
  any_at : (test : X → Bool) (before : List X) (x : X) (behind : List X) → test x ≡ true → list_any test (before ++ x ∷ behind) ≡ true
  any_at test [] x behind h = ap (λ b. b || list_any test behind) h
  any_at test (y ∷ before) x behind h = or_right (test y) _ (any_at test before x behind h)

  none_of : (test : X → Bool) (xs : List X) → AllByRecursion (λ y. test y ≡ false) xs → list_any test xs ≡ false
  none_of test [] h = refl
  none_of test (x ∷ xs) h = ap (λ b. b || list_any test xs) h.0 ∙ none_of test xs h.1

  none_at : (test : X → Bool) (before : List X) (x : X) (behind : List X) → AllByRecursion (λ y. test y ≡ false) before → test x ≡ false → AllByRecursion (λ y. test y ≡ false) behind → list_any test (before ++ x ∷ behind) ≡ false
  none_at test [] x behind b h e = none_of test (x ∷ behind) (h, e)
  none_at test (y ∷ before) x behind b h e = ap (λ v. v || list_any test (before ++ x ∷ behind)) b.0 ∙ none_at test before x behind b.1 h e

  all_weaker : (P Q : X → Type 0) → ((x : X) → P x → Q x) → (xs : List X) → AllByRecursion P xs → AllByRecursion Q xs
  all_weaker P Q f [] h = tt
  all_weaker P Q f (x ∷ xs) h = (f x h.0, all_weaker P Q f xs h.1)

  find_in : (test : X → Bool) (before : List X) (x : X) (behind : List X) → AllByRecursion (λ y. test y ≡ false) before → test x ≡ true → find test (before ++ x ∷ behind) ≡ Some x
  find_in test [] x behind none passes = cond-true (test x) (Some x) (find test behind) passes
  find_in test (y ∷ before) x behind none passes = cond-false (test y) (Some y) (find test (before ++ x ∷ behind)) none.0 ∙ find_in test before x behind none.1 passes

module _ {X : Type 0} (order_of : X → X → Bool) (order : IsOrder order_of) where
  pub never_itself : (a : X) → order_of a a ≡ false
  never_itself a = ⊎_elim (λ yes. absurd (true≢false (sym yes ∙ order.one_way a a yes))) (λ no. no) (cases_Bool (order_of a a))

  best_found : (before : List X) (best : X) (behind : List X) → AllByRecursion (λ x. order_of best x ≡ true) before → AllByRecursion (λ x. order_of x best ≡ false) behind → unbeaten_of order_of (before ++ best ∷ behind) ≡ Some best
  best_found before best behind beaten stays =
      let list = before ++ best ∷ behind in
      find_in (λ one. not (list_any (λ other. order_of other one) list)) before best behind
      (all_weaker _ _ (λ x h. ap not (any_at (λ other. order_of other x) before best behind h)) before beaten)
      (ap not (none_at (λ other. order_of other best) before best behind (all_weaker _ _ (λ x h. order.one_way best x h) before beaten) (never_itself best) stays))

  -- what is kept of a list
  KeepsOf : List X → Option X → Type 0
  KeepsOf list None = list ≡ []
  KeepsOf list (Some best) = (place : ℕ) × IsBest order_of list place best

  one_more : (list : List X) (kept : Option X) → KeepsOf list kept → (next : X) → KeepsOf (list ++ next ∷ []) (better_of order_of kept next)
  unfolding KeepsOf
  one_more list None h next = (0, subst (λ (l : List X). IsBest order_of (l ++ next ∷ []) 0 next) (sym h) (best_first order_of order next))
  one_more list (Some best) h next =
      ⊎_elim
      (λ (wins : order_of next best ≡ true). subst (KeepsOf (list ++ next ∷ [])) (sym (cond-true _ (Some next) (Some best) wins)) (length list, best_changes order_of order list h.0 best h.1 next wins))
      (λ (loses : order_of next best ≡ false). subst (KeepsOf (list ++ next ∷ [])) (sym (cond-false _ (Some next) (Some best) loses)) (h.0, best_stays order_of order list h.0 best h.1 next loses))
      (cases_Bool (order_of next best))

  all_kept : (done : List X) (kept : Option X) → KeepsOf done kept → (rest : List X) → KeepsOf (done ++ rest) (fold (better_of order_of) kept rest)
  all_kept done kept h [] = subst (λ (l : List X). KeepsOf l kept) (sym (append-nil done)) h
  all_kept done kept h (x ∷ rest) =
      subst (λ (l : List X). KeepsOf l (fold (better_of order_of) (better_of order_of kept x) rest)) (append_assoc done (x ∷ []) rest)
      (all_kept (done ++ x ∷ []) (better_of order_of kept x) (one_more done kept h x) rest)

  kept_found : (list : List X) (kept : Option X) → KeepsOf list kept → unbeaten_of order_of list ≡ kept
  unfolding KeepsOf
  kept_found list None h = ap (unbeaten_of order_of) h
  kept_found list (Some best) h = ap (unbeaten_of order_of) h.1.cut ∙ best_found h.1.before best h.1.behind h.1.beaten h.1.unbeaten

  pub unbeaten_is : (list : List X) → unbeaten_of order_of list ≡ fold (better_of order_of) None list
  unfolding KeepsOf
  unbeaten_is list = kept_found list _ (all_kept [] None refl list)

pub candidates_are_ordered : {X : Type 0} → IsOrder (λ (a b : X × Candidate). beats a.1 b.1)
candidates_are_ordered = record {
  one_way = λ a b. beats_is_order.one_way a.1 b.1;
  between = λ a b c. beats_is_order.between a.1 b.1 c.1;
}

pub goes_before_is_order : IsOrder goes_before
goes_before_is_order = record {
  one_way = λ a b. prevails_is_order.one_way (winner_seen a) (winner_seen b);
  between = λ a b c. prevails_is_order.between (winner_seen a) (winner_seen b) (winner_seen c);
}

pub across_two : (earlier later : Winner) → across (earlier ∷ later ∷ []) ≡ (if prevails later earlier then Some 1 else Some 0)
across_two earlier later =
    is_kept prevails prevails_is_order (earlier ∷ []) later
    ∙ ap (with_one_more prevails (earlier ∷ []) later) (best_is prevails prevails_is_order (earlier ∷ []) 0 earlier (best_first prevails prevails_is_order earlier))

-- A walk over a list that adds a piece for each element.
use Rattle.std.proofs.Common.{◌≡◌, ℕ, ◌+◌, ◌-◌, ◌<◌, ◌≤◌, List, [], ◌∷◌, ◌++◌, length, drop, get_or, Bool, true, false, cond, fold, filter, map, Option, Some, None, refl, sym, ap, ◌∙◌, append_assoc, append-nil, arith}
use Rattle.std.specs.Prelude.{nat_le, slice_get}
use Rattle.std.specs.List.{filter_map, cons_option}
use Rattle.std.proofs.lemmas.List.{drop_more, drop_all, map-append}
use Rattle.std.proofs.lemmas.List.Elements.{filter-append, filter_map-append}
use Rattle.dnr_base.specs.declared.direction.Direction.{Direction}
use Rattle.rule_spec.specs.State.{Live}
use Rattle.rule_spec.specs.Scan.{Decision, Offer, is_on, named_op}
use Rattle.generation.specs.Choice.{decision_in, goes_before, offers_by_all, offers_by_kept, ops_at, unless_outdone, with_decision}
use Rattle.generation.specs.Kept.{Kept, better_of}

pub next_of : {X : Type 0} (xs : List X) (i : ℕ) (x : X) → i < length xs → x ≡ get_or xs i x → drop i xs ≡ x ∷ drop (i + 1) xs
next_of xs i x h is = drop_more xs i x h ∙ ap (λ y. y ∷ drop (i + 1) xs) (sym is)

module _ {X Y : Type 0} (whole_of : List X → List Y) (piece_of : X → List Y) (each : (x : X) (xs : List X) → whole_of (x ∷ xs) ≡ piece_of x ++ whole_of xs) where
  pub rest_step : (xs : List X) (i : ℕ) (x : X) (whole added new : List Y) → i < length xs → x ≡ get_or xs i x
      → whole ≡ added ++ whole_of (drop i xs) → new ≡ added ++ piece_of x → whole ≡ new ++ whole_of (drop (i + 1) xs)
  rest_step xs i x whole added new h is before more =
      before ∙ ap (λ l. added ++ whole_of l) (next_of xs i x h is) ∙ ap (λ l. added ++ l) (each x (drop (i + 1) xs))
      ∙ sym (append_assoc added (piece_of x) (whole_of (drop (i + 1) xs))) ∙ ap (λ l. l ++ whole_of (drop (i + 1) xs)) (sym more)

pub rest_end : {X Y : Type 0} (whole_of : List X → List Y) → whole_of [] ≡ [] → (xs : List X) (i : ℕ) (whole added : List Y) → length xs ≤ i
    → whole ≡ added ++ whole_of (drop i xs) → added ≡ whole
rest_end whole_of none xs i whole added h before =
    sym (before ∙ ap (λ l. added ++ l) (ap whole_of (drop_all i xs h) ∙ none) ∙ append-nil added)

-- ---- decisions

decision_case : (best : Option Decision) (o : Option Decision) (rest : List Decision)
    → fold (better_of goes_before) best (cons_option o rest) ≡ fold (better_of goes_before) (with_decision best o) rest
decision_case best None rest = refl
decision_case best (Some next) rest = refl

pub deciding_step : (kepts : List Kept) (i : ℕ) (kept : Kept) (whole best new : Option Decision) → i < length kepts → kept ≡ get_or kepts i kept
    → whole ≡ fold (better_of goes_before) best (filter_map decision_in (drop i kepts)) → new ≡ with_decision best (decision_in kept)
    → whole ≡ fold (better_of goes_before) new (filter_map decision_in (drop (i + 1) kepts))
deciding_step kepts i kept whole best new h is before more =
    before ∙ ap (λ l. fold (better_of goes_before) best (filter_map decision_in l)) (next_of kepts i kept h is)
    ∙ decision_case best (decision_in kept) (filter_map decision_in (drop (i + 1) kepts))
    ∙ ap (λ b. fold (better_of goes_before) b (filter_map decision_in (drop (i + 1) kepts))) (sym more)

pub deciding_end : (kepts : List Kept) (i : ℕ) (whole best : Option Decision) → length kepts ≤ i
    → whole ≡ fold (better_of goes_before) best (filter_map decision_in (drop i kepts)) → best ≡ whole
deciding_end kepts i whole best h before = sym (before ∙ ap (λ l. fold (better_of goes_before) best (filter_map decision_in l)) (drop_all i kepts h))

-- ---- rules that no `allow` outdoes

outdone_case : (b : Bool) (live : Live) (lives : List Live) → cond b (live ∷ lives) lives ≡ cond b (live ∷ []) [] ++ lives
outdone_case true live lives = refl
outdone_case false live lives = refl

pub outdone_each : (allowed : ℕ) (live : Live) (lives : List Live)
    → filter (λ l. nat_le allowed l.rule.priority) (live ∷ lives) ≡ unless_outdone allowed live ++ filter (λ l. nat_le allowed l.rule.priority) lives
outdone_each allowed live lives = outdone_case (nat_le allowed live.rule.priority) live (filter (λ l. nat_le allowed l.rule.priority) lives)

-- ---- from the end

-- one more extension in front of those whose offers are there
pub offers_step : (kepts : List Kept) (n back place : ℕ) (kept : Kept) (offers new : List Offer) → n ≡ length kepts → back < n → place ≡ n - 1 - back → kept ≡ get_or kepts place kept
    → offers ≡ offers_by_all (drop (n - back) kepts) → new ≡ offers ++ offers_by_kept kept → new ≡ offers_by_all (drop (n - (back + 1)) kepts)
offers_step kepts n back place kept offers new long h at is before more =
    let here : n - (back + 1) ≡ place = omega (arith, at, h) in
    let behind : n - back ≡ place + 1 = omega (arith, at, h) in
    let inside : place < length kepts = omega (arith, at, h, long) in
    more
    ∙ ap (λ l. l ++ offers_by_kept kept) (before ∙ ap (λ k. offers_by_all (drop k kepts)) behind)
    ∙ ap offers_by_all (sym (next_of kepts place kept inside is))
    ∙ ap (λ k. offers_by_all (drop k kepts)) (sym here)

pub offers_start : (kepts : List Kept) (n : ℕ) → n ≡ length kepts → [] ≡ offers_by_all (drop (n - 0) kepts)
offers_start kepts n long = ap offers_by_all (sym (drop_all (n - 0) kepts (omega (arith, long))))

pub offers_end : (kepts : List Kept) (n back : ℕ) (offers : List Offer) → n ≤ back → offers ≡ offers_by_all (drop (n - back) kepts) → offers ≡ offers_by_all kepts
offers_end kepts n back offers h before =
    let none : n - back ≡ 0 = omega (arith, h) in
    before ∙ ap (λ k. offers_by_all (drop k kepts)) none

-- ---- operations

ops_both : (direction : Direction) (offers : List Offer) (xs ys : List ℕ) → ops_at direction offers (xs ++ ys) ≡ ops_at direction offers xs ++ ops_at direction offers ys
ops_both direction offers xs ys =
    ap (λ l. filter (is_on direction) (map named_op l)) (filter_map-append (λ place. slice_get offers place) xs ys)
    ∙ ap (filter (is_on direction)) (map-append named_op (filter_map (λ place. slice_get offers place) xs) (filter_map (λ place. slice_get offers place) ys))
    ∙ filter-append (is_on direction) (map named_op (filter_map (λ place. slice_get offers place) xs)) (map named_op (filter_map (λ place. slice_get offers place) ys))

pub ops_each : (direction : Direction) (offers : List Offer) (place : ℕ) (places : List ℕ) → ops_at direction offers (place ∷ places) ≡ ops_at direction offers (place ∷ []) ++ ops_at direction offers places
ops_each direction offers place places = ops_both direction offers (place ∷ []) places

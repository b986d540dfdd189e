-- The updates of a batch, of which all are kept or none.
use Rattle.std.proofs.Common.{◌≡◌, ℕ, suc, ◌+◌, ◌<◌, ◌≤◌, List, [], ◌∷◌, ◌++◌, length, true, false, Option, Some, None, Result, Ok, Err, codes, bytes_eq, refl, sym, ap, ap₂, ◌∙◌, subst, inl, inr, arith}
use Rattle.std.specs.Prelude.{nat_le, option_and_then, IfOk, Vec}
use Rattle.std.specs.declared.alloc.Global.{Global}
use Rattle.json.specs.Token.{Token}
use Rattle.std.proofs.lemmas.Bool.Decides.{nat_tests}
use Rattle.std.proofs.lemmas.Bool.{true≢false}
use Rattle.std.proofs.lemmas.Slice.Eq.{bytes_eq-Decides}
use Rattle.serde_json.specs.Data.{Data, object, Items, no_items, Members, put}
use Rattle.serde_json.specs.Find.{get_member, as_array}
use Rattle.serde_json.specs.View.{view, items_view}
use Rattle.serde_json.specs.declared.value.Value.{Value}
use Rattle.serde_json.proofs.Views.{get_member-put, get_member-put_other}
use Rattle.rule_spec.specs.declared.placed_refusal.PlacedRefusal.{PlacedRefusal}
use Rattle.json_fields.specs.declared.tree.Fault.{Fault}
use Rattle.json_fields.specs.Last.{value_at}
use Rattle.json_fields.proofs.Shaped.{data_before}
use Rattle.line_spec.specs.Reading.{and_then}
use Rattle.line_spec.specs.RequestLine.{count_of}
use Rattle.line_spec.specs.Batch.{max_batch, elements_from}
use Rattle.line_spec.specs.Stops.{StopsInElements}
use Rattle.update_parts.specs.declared.part.UpdatePart.TheVariants as part
use Rattle.update_parts.specs.Parts.{KeptAs}
use Rattle.update_parts.specs.Batch.{HoldsList, HoldsBatch, HoldsMore, items_kept}
use Rattle.update_parts.proofs.ElementKept.{element_same, object_stops}

-- ---- the updates of a list

module _ (n : ℕ) where
  -- each is kept
  abbrev pub AllKept : List Data → List Value → Type 0
  AllKept [] [] = Unit {0}
  AllKept [] (v ∷ vs) = ⊥
  AllKept (d ∷ ds) [] = ⊥
  AllKept (d ∷ ds) (v ∷ vs) = KeptAs n part.Element d (view v) × AllKept ds vs

  pub all_more : (ds : List Data) (vs : List Value) (d : Data) (v : Value) → AllKept ds vs → KeptAs n part.Element d (view v) → AllKept (ds ++ d ∷ []) (vs ++ v ∷ [])
  all_more [] [] d v h k = (k, tt)
  all_more [] (w ∷ vs) d v h k = absurd h
  all_more (x ∷ ds) [] d v h k = absurd h
  all_more (x ∷ ds) (w ∷ vs) d v h k = (h.0, all_more ds vs d v h.1 k)

  pub as_many : (ds : List Data) (vs : List Value) → AllKept ds vs → length ds ≡ length vs
  as_many [] [] h = refl
  as_many [] (v ∷ vs) h = absurd h
  as_many (d ∷ ds) [] h = absurd h
  as_many (d ∷ ds) (v ∷ vs) h = ap suc (as_many ds vs h.1)

  elements_same : (ds : List Data) (vs : List Value) → AllKept ds vs → (first : ℕ) → elements_from first (items_view vs) ≡ elements_from first (data_before ds no_items)
  elements_same [] [] h first = refl
  elements_same [] (v ∷ vs) h first = absurd h
  elements_same (d ∷ ds) [] h first = absurd h
  elements_same (d ∷ ds) (v ∷ vs) h first =
      ap₂ (λ r rest. and_then r (λ one. and_then rest (λ others. Ok (one ∷ others)))) (element_same n d (view v) h.0 first) (elements_same ds vs h.1 (first + 1))

  elements_stop : (ds : List Data) (vs : List Value) → AllKept ds vs → (first place : ℕ) (refusal : PlacedRefusal) → StopsInElements first (items_view vs) place refusal
      → StopsInElements first (data_before ds no_items) place refusal
  elements_stop [] [] h first place refusal s = s
  elements_stop [] (v ∷ vs) h first place refusal s = absurd h
  elements_stop (d ∷ ds) [] h first place refusal s = absurd h
  elements_stop (d ∷ ds) (v ∷ vs) h first place refusal (inl s) = inl (s.0, object_stops n d (view v) h.0 refusal s.1)
  elements_stop (d ∷ ds) (v ∷ vs) h first place refusal (inr s) = inr (s.0, sym (element_same n d (view v) h.0 first) ∙ s.1, elements_stop ds vs h.1 (first + 1) place refusal s.2)

  counts_same : (ds : List Data) (vs : List Value) → AllKept ds vs → count_of (items_view vs) ≡ count_of (data_before ds no_items)
  counts_same [] [] h = refl
  counts_same [] (v ∷ vs) h = absurd h
  counts_same (d ∷ ds) [] h = absurd h
  counts_same (d ∷ ds) (v ∷ vs) h = ap (λ m. m + 1) (counts_same ds vs h.1)

pub count_before : (ds : List Data) (rest : Items) → count_of (data_before ds rest) ≡ length ds + count_of rest
count_before [] rest = omega arith
count_before (d ∷ ds) rest = let same = count_before ds rest in omega (arith, same)

pub all_hold : (n : ℕ) (ds : List Data) (vs : List Value) → AllKept n ds vs → length vs ≤ max_batch → HoldsList (Some (items_view vs)) (Some (data_before ds no_items))
all_hold n ds vs h few =
    let count = count_before ds no_items in
    let many = as_many n ds vs h in (
      record { count = counts_same n ds vs h; elements = elements_same n ds vs h; stops = elements_stop n ds vs h },
      omega (arith, count, many, few),
    )

-- a list that is longer is refused
pub too_long : (ds : Items) → max_batch < count_of ds → HoldsList None (Some ds)
too_long ds long =
    let most : nat_le (count_of ds) max_batch ≡ false = grind (arith, nat_tests) in
    let least : nat_le 1 (count_of ds) ≡ true = grind (arith, nat_tests) in
    rw (least, most) refl

-- ---- the member of their name

pub holds_here : (k : List ℕ) (d : Data) (ms : Members) (kept : Option Items) → bytes_eq k (codes "updates") ≡ true → HoldsList kept (as_array d) → HoldsBatch kept (object (put k d ms))
holds_here k d ms kept named h =
    let same : k ≡ codes "updates" = (bytes_eq-Decides k (codes "updates")).0 named in
    let found : get_member (codes "updates") (put k d ms) ≡ Some d = ap (λ t. get_member t (put k d ms)) (sym same) ∙ get_member-put k d ms in
    subst (HoldsList kept) (sym (ap (option_and_then as_array) found)) h

pub holds_still : (k : List ℕ) (d : Data) (ms : Members) (kept : Option Items) → bytes_eq k (codes "updates") ≡ false → HoldsBatch kept (object ms) → HoldsBatch kept (object (put k d ms))
holds_still k d ms kept named h =
    let other : codes "updates" ≡ k → ⊥ = λ e. true≢false (sym ((bytes_eq-Decides k (codes "updates")).1 (sym e)) ∙ named) in
    let found = get_member-put_other (codes "updates") k d ms other in
    subst (HoldsList kept) (sym (ap (option_and_then as_array) found)) h

pub list_held : (depth : ℕ) (ts rest : List Token) (k : List ℕ) (before : Option Items) (result : Result (Option (Vec Value Global)) Fault) → bytes_eq k (codes "updates") ≡ true
    → IfOk result (λ kept. (d : Data) × (value_at depth ts ≡ Some (d, rest)) × HoldsList (items_kept kept) (as_array d)) → IfOk result (λ kept. (d : Data) × (value_at depth ts ≡ Some (d, rest)) × HoldsMore k d before (items_kept kept))
list_held depth ts rest k before (Ok kept) named h = (h.0, h.1, λ ms old. holds_here k h.0 ms (items_kept kept) named h.2)
list_held depth ts rest k before (Err fault) named h = tt

-- Where the groups of a match stand: as `regex` tells it, and in the text.
use Rattle.std.proofs.Common.{◌≡◌, ℕ, zero, suc, ◌+◌, ◌*◌, ◌<◌, ◌≤◌, All, Bool, true, false, cond, List, [], ◌∷◌, length, map, Option, Some, None, is_some, option_map, refl, sym, ap, ap₂, ◌∙◌, subst, ⊎_elim, arith, nat_le, ne_eqb}
use Rattle.std.specs.Prelude.{IfSome}
use Rattle.std.specs.Option.{option_or}
use Rattle.std.proofs.lemmas.Bool.{cases_lt, cond-false}
use Rattle.std.proofs.lemmas.Bool.Decides.{nat_tests}
use Rattle.std.proofs.lemmas.List.{get_or_past}
use Rattle.std.proofs.lemmas.Option.{same_Some}
use Rattle.std.proofs.lemmas.List.Elements.{All-nil, All-cons}
use mathlib.Core.Path.{fun_ext}
use Rattle.dnr_base.specs.declared.span.Span.{Span}
use Rattle.dnr_spec.specs.Patterns.{first_places, places, ends_of, group_place, group_numbers, span_of, IsSpanIn, ArePlacesIn}
use Rattle.regex.specs.Patterns.{Re, Match, find_str, slot_of}
use Rattle.regex.specs.Locations.{AreLocationsOf, location, location_count}
use Rattle.regex.specs.Search.{Answers}
use Rattle.regex.specs.Writes.{IsTidy}
use Rattle.regex.specs.declared.locations.CaptureLocations.{CaptureLocations}
use Rattle.regex.proofs.SearchLemmas.{leftmost_attempt, leftmost_within}
use Rattle.regex.proofs.WritesLemmas.{writes_are_tidy, last_write_has}
use Rattle.regex_hir.specs.Find.{last_write}
use Rattle.regex_hir.proofs.OptionLemmas.{option_or-None}

-- ---- as the locations tell it

below_count : (m : Match) (l : CaptureLocations) (count k : ℕ) → AreLocationsOf m l → location_count l ≡ count + 1 → suc k ≤ count
    → group_place (ends_of m) (suc k) ≡ option_map span_of (location l (suc k))
below_count m l count k h e le = ap (option_map span_of) (sym (h.1 (suc k) (omega arith) (omega (arith, e, le))))

above_count : (l : CaptureLocations) (n : ℕ) → location_count l ≤ n → None ≡ option_map span_of (location l n)
above_count l n le = let stored = l.spans.ok.0 in rw (get_or_past l.spans.items n None (omega (arith, stored, le))) refl

place_told : (m : Match) (l : CaptureLocations) (count n : ℕ) → AreLocationsOf m l → location_count l ≡ count + 1
    → cond (nat_le n count) (group_place (ends_of m) n) None ≡ option_map span_of (location l n)
place_told m l count zero h e =
    let low : nat_le 0 count ≡ true = grind (arith, nat_tests) in
    rw (low, h.0 (omega (arith, e))) refl
place_told m l count (suc k) h e = ⊎_elim
    (λ (past : count < suc k). let no : nat_le (suc k) count ≡ false = grind (arith, nat_tests, past) in
    rw no (above_count l (suc k) (omega (arith, e, past))))
    (λ (within : suc k ≤ count). let yes : nat_le (suc k) count ≡ true = grind (arith, nat_tests, within) in
    rw yes (below_count m l count k h e within))
    (cases_lt count (suc k))

-- no match, or the places that the locations tell
pub none_found : {X : Type 0} (P : Match → X → Type 0) (r : Option X) (re : Re) (count : ℕ) (text : List ℕ)
    → Answers r (find_str re text 0) P → is_some r ≡ false → first_places re count text ≡ None
none_found P None re count text h none = rw h refl
none_found P (Some x) re count text h none = cc

pub some_found : {X : Type 0} (P : Match → X → Type 0) (r : Option X) (re : Re) (count : ℕ) (text : List ℕ) (l : CaptureLocations)
    → Answers r (find_str re text 0) (λ m x. P m x × AreLocationsOf m l) → is_some r ≡ true → location_count l ≡ count + 1
    → first_places re count text ≡ Some (map (λ n. option_map span_of (location l n)) group_numbers)
some_found P None re count text l h some e = cc
some_found P (Some x) re count text l h some e =
    rw h.1 (ap (λ (f : ℕ → Option Span). Some (map f group_numbers)) (fun_ext (λ n. place_told h.0 l count n h.2.1 e)))

-- ---- in the text

slot_of_group : (m : Match) (slot : ℕ) → 2 ≤ slot → slot_of m slot ≡ last_write m.trace.writes slot
unfolding slot_of
slot_of_group m slot high =
    ap₂ option_or
    (ap (option_or (last_write m.trace.writes slot)) (cond-false _ (Some m.trace.end) None (ne_eqb 1 slot (omega arith)))
    ∙ option_or-None _)
    (cond-false _ (Some m.start) None (ne_eqb 0 slot (omega arith)))
    ∙ option_or-None _

group_within : (text : List ℕ) (m : Match) (k : ℕ) → IsTidy (λ _. Unit {0}) m.start m.trace.end m.trace.writes → m.trace.end ≤ length text
    → IfSome (group_place (ends_of m) (suc k)) (IsSpanIn text)
group_within text m k tidy end =
    let first = slot_of_group m (2 * suc k) (omega arith) in
    let last = slot_of_group m (2 * suc k + 1) (omega arith) in
    ⊎_elim
    (λ unset. rw (first, last, unset.0) tt)
    (λ set. let low : m.start ≤ m.start = omega arith in
    let high = last_write_has (λ (i : ℕ). (m.start ≤ i) × (i ≤ m.trace.end) × Unit {0}) m.trace.writes (2 * suc k + 1) set.1 tidy.placed set.3 in
    rw (first, last, set.2, set.3) (set.4, omega (arith, high.1, end)))
    (tidy.paired (suc k))

place_within : (text : List ℕ) (re : Re) (m : Match) (n : ℕ) → find_str re text 0 ≡ Some m → IfSome (group_place (ends_of m) n) (IsSpanIn text)
place_within text re m zero e = let w = leftmost_within re text true 0 m e in (w.1, w.2)
place_within text re m (suc k) e =
    group_within text m k (writes_are_tidy text re m.start m.trace (leftmost_attempt re text true 0 m e).2) (leftmost_within re text true 0 m e).2

chosen : (P : Span → Type 0) (b : Bool) (o : Option Span) → IfSome o P → IfSome (cond b o None) P
chosen P true o h = h
chosen P false o h = tt

All-each : (P : Option Span → Type 0) (f : ℕ → Option Span) → ((n : ℕ) → P (f n)) → (ns : List ℕ) → All P (map f ns)
All-each P f h [] = All-nil P
All-each P f h (n ∷ ns) = All-cons P (f n) (map f ns) (h n) (All-each P f h ns)

-- the places of a match lie in the text
pub places_within : (text : List ℕ) (re : Re) (count : ℕ) (m : Match) → find_str re text 0 ≡ Some m → ArePlacesIn text (places count (ends_of m))
places_within text re count m e =
    let low : nat_le 0 count ≡ true = grind (arith, nat_tests) in
    record {
      count = refl;
      whole = rw low refl;
      inside = All-each (λ span. IfSome span (IsSpanIn text)) (λ n. cond (nat_le n count) (group_place (ends_of m) n) None)
          (λ n. chosen (IsSpanIn text) (nat_le n count) _ (place_within text re m n e)) group_numbers;
    }

found_within : (text : List ℕ) (re : Re) (count : ℕ) (o : Option Match) (spans : List (Option Span)) → find_str re text 0 ≡ o
    → option_map (λ m. places count (ends_of m)) o ≡ Some spans → ArePlacesIn text spans
found_within text re count None spans e h = cc
found_within text re count (Some m) spans e h = subst (ArePlacesIn text) (same_Some _ _ h) (places_within text re count m e)

pub first_within : (text : List ℕ) (re : Re) (count : ℕ) (spans : List (Option Span)) → first_places re count text ≡ Some spans → ArePlacesIn text spans
first_within text re count spans h = found_within text re count (find_str re text 0) spans refl h

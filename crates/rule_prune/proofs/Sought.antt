-- What the search finds is what the definition names.
use Rattle.std.proofs.Common.{◌≡◌, ℕ, ◌≤◌, List, [], map, Bool, true, false, not, ◌&&◌, Option, Some, None, refl, sym, ap, ◌∙◌}
use Rattle.std.specs.Prelude.{IfSome, IsSomeAnd, is_some, option_and_then, option_map, unwrap_or}
use Rattle.std.specs.List.{slice_get, find}
use Rattle.std.specs.Option.{option_map_or}
use Rattle.std.proofs.lemmas.Option.{slice_get-map}
use Rattle.rule_spec.specs.Rule.{Rule}
use Rattle.prune_spec.specs.Pruned.{outdoes, is_needless, kept}
use Rattle.rule_prune.specs.declared.filters.Filters.{Filters}
use Rattle.rule_prune.specs.Filters.{AreListed, candidates, one_outdoes, keeps, nearest}
use Rattle.rule_prune.proofs.Nearest.{IsLeast, passes_at, found_first, some_passes, any_passes, nearest_passes, nearest_least}
use Rattle.rule_prune.proofs.Places.{complete}
use Rattle.rule_prune.proofs.Walked.{found_among}

same_truth : (a b : Bool) → (a ≡ true → b ≡ true) → (b ≡ true → a ≡ true) → a ≡ b
same_truth true b f g = sym (f refl)
same_truth false true f g = g refl
same_truth false false f g = refl

some_true : (o : Option ℕ) (P : ℕ → Type 0) → IsSomeAnd o P → is_some o ≡ true
some_true None P h = absurd h
some_true (Some m) P h = refl

module _ (rules : List Rule) (filters : Filters) (listed : AreListed filters rules) (place : ℕ) (s : Rule) (at : slice_get rules place ≡ Some s) where
  abbrev pub first : List Bool → Option ℕ
  first gone = nearest (keeps rules gone place) None (candidates filters s.condition)

  is_least : (gone : List Bool) → IsLeast (keeps rules gone place) (first gone)
  is_least gone = record {
    passes = nearest_passes (keeps rules gone place) (candidates filters s.condition) None tt;
    least = λ other t. nearest_least (keeps rules gone place) (candidates filters s.condition) None other (complete rules filters listed gone place s at other t) t;
  }

  -- ---- whether some rule outdoes it

  outdone_at : (other : ℕ) → keeps rules [] place other ≡ passes_at (λ k. outdoes rules k s) rules other
  outdone_at other = ap (one_outdoes rules (slice_get rules other)) at ∙ by (slice_get rules other)
    where
      by : (o : Option Rule) → one_outdoes rules o (Some s) ≡ option_map_or (λ k. outdoes rules k s) o false
      by None = refl
      by (Some k) = refl

  pub needless_found : is_some (first []) ≡ is_needless rules s
  needless_found =
      same_truth (is_some (first [])) (is_needless rules s) (there (first []) (is_least []).passes)
      (λ h.
      let r = some_passes (λ k. outdoes rules k s) rules h in
      some_true (first []) (λ m. m ≤ r.0) ((is_least []).least r.0 (outdone_at r.0 ∙ r.1)))
    where
      there : (o : Option ℕ) → IfSome o (λ m. keeps rules [] place m ≡ true) → is_some o ≡ true → is_needless rules s ≡ true
      there None p h = cc
      there (Some m) p h = any_passes (λ k. outdoes rules k s) rules m (sym (outdone_at m) ∙ p)

  -- ---- the first rule that is kept and outdoes it

  abbrev is_keeper : Rule → Bool
  is_keeper k = not (is_needless rules k) && outdoes rules k s

  kept_at : (other : ℕ) → keeps rules (map (is_needless rules) rules) place other ≡ passes_at is_keeper rules other
  kept_at other =
      (λ i. not (unwrap_or (slice_get-map (is_needless rules) rules other i) false) && one_outdoes rules (slice_get rules other) (at i)) ∙ by (slice_get rules other)
    where
      by : (o : Option Rule) → (not (unwrap_or (option_map (is_needless rules) o) false) && one_outdoes rules o (Some s)) ≡ option_map_or is_keeper o false
      by None = refl
      by (Some k) = refl

  pub keeper_found : option_and_then (slice_get rules) (first (map (is_needless rules) rules)) ≡ find (λ k. outdoes rules k s) (kept rules)
  keeper_found =
      sym (found_first is_keeper rules (keeps rules (map (is_needless rules) rules) place) kept_at (first (map (is_needless rules) rules)) (is_least (map (is_needless rules) rules)))
      ∙ sym (found_among rules s)

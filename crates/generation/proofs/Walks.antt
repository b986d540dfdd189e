-- A walk over places and parts that were found gives what a walk over all places gives.
use Rattle.std.proofs.Common.{Ordering, Less, Equal, Greater, ◌≡◌, ℕ, zero, suc, ◌+◌, ◌<◌, ◌≤◌, List, [], ◌∷◌, ◌++◌, map, fold, Bool, true, false, ◌⊎◌, inl, inr, refl, sym, ap, ◌∙◌, subst, arith}
use Rattle.std.specs.List.{AllByRecursion, Contains}
use Rattle.std.specs.List.Sorted.{IsStrictlySortedBy}
use Rattle.std.specs.Ordering.{nat_cmp, ordering_then}
use Rattle.std.proofs.lemmas.Bool.{cases_Bool, cases_lt}
use Rattle.std.proofs.lemmas.Cmp.{ranked}
use Rattle.generation.specs.Hits.{hit_cmp}

-- ---- lists

fold_over : {A B : Type 0} (f : B → A → B) (b : B) (xs ys : List A) → fold f b (xs ++ ys) ≡ fold f (fold f b xs) ys
fold_over f b [] ys = refl
fold_over f b (x ∷ xs) ys = fold_over f (f b x) xs ys

-- the numbers from the first on, so many
abbrev pub counted : ℕ → ℕ → List ℕ
counted first zero = []
counted first (suc n) = first ∷ counted (first + 1) n

-- one of the parts is this one
abbrev HasPart : List ℕ → ℕ → Type 0
HasPart [] part = ⊥
HasPart (own ∷ parts) part = (own ≡ part) ⊎ HasPart parts part

-- one of the hits is of this place and this part
abbrev pub HasHit : List (ℕ × ℕ) → ℕ → ℕ → Type 0
HasHit [] place part = ⊥
HasHit (hit ∷ hits) place part = ((hit.0 ≡ place) × (hit.1 ≡ part)) ⊎ HasHit hits place part

-- each part is above the one before, and none below the first
abbrev PartsRise : ℕ → List ℕ → Type 0
PartsRise first [] = Unit {0}
PartsRise first (part ∷ parts) = (first ≤ part) × PartsRise (part + 1) parts

-- the same of hits, first by their place
abbrev pub HitsRise : ℕ → ℕ → List (ℕ × ℕ) → Type 0
HitsRise place part [] = Unit {0}
HitsRise place part (hit ∷ hits) = ((place < hit.0) ⊎ ((place ≡ hit.0) × (part ≤ hit.1))) × HitsRise hit.0 (hit.1 + 1) hits

part_below : (first : ℕ) (parts : List ℕ) (part : ℕ) → PartsRise first parts → HasPart parts part → first ≤ part
part_below first [] part rise has = absurd has
part_below first (own ∷ parts) part rise (inl is) = let a = rise.0 in omega (arith, is)
part_below first (own ∷ parts) part rise (inr has) = let a = rise.0 in let b = part_below (own + 1) parts part rise.1 has in omega arith

place_below : (place part : ℕ) (hits : List (ℕ × ℕ)) (p q : ℕ) → HitsRise place part hits → HasHit hits p q → place ≤ p
place_below place part [] p q rise has = absurd has
place_below place part (hit ∷ hits) p q (inl less, rest) (inl is) = let a = is.0 in omega arith
place_below place part (hit ∷ hits) p q (inr same, rest) (inl is) = let a = is.0 in let b = same.0 in omega arith
place_below place part (hit ∷ hits) p q (inl less, rest) (inr has) = let b = place_below hit.0 (hit.1 + 1) hits p q rest has in omega arith
place_below place part (hit ∷ hits) p q (inr same, rest) (inr has) = let a = same.0 in let b = place_below hit.0 (hit.1 + 1) hits p q rest has in omega arith

-- ---- the hits of the first place

abbrev of_place : ℕ → List ℕ → List (ℕ × ℕ)
of_place place parts = map (λ part. (place, part)) parts

record Split (place part : ℕ) (hits : List (ℕ × ℕ)) : Type 0 where
  parts : List ℕ
  later : List (ℕ × ℕ)
  cut : hits ≡ of_place place parts ++ later
  rise : PartsRise part parts
  on : HitsRise (place + 1) 0 later

none_here : (place part a b : ℕ) (hits : List (ℕ × ℕ)) → place < a → HitsRise a (b + 1) hits → Split place part ((a, b) ∷ hits)
none_here place part a b hits less rest = record { parts = []; later = (a, b) ∷ hits; cut = refl; rise = tt; on = (by (cases_lt (place + 1) a), rest) }
  where
    by : (place + 1 < a) ⊎ (a ≤ place + 1) → (place + 1 < a) ⊎ ((place + 1 ≡ a) × (0 ≤ b))
    by (inl below) = inl below
    by (inr over) = inr (omega arith, omega arith)

one_here : (place part b : ℕ) (hits : List (ℕ × ℕ)) → part ≤ b → Split place (b + 1) hits → Split place part ((place, b) ∷ hits)
one_here place part b hits more split = record {
  parts = b ∷ split.parts;
  later = split.later;
  cut = ap (λ l. (place, b) ∷ l) split.cut;
  rise = (more, split.rise);
  on = split.on;
}

split_first : (hits : List (ℕ × ℕ)) (place part : ℕ) → HitsRise place part hits → Split place part hits
split_first [] place part rise = record { parts = []; later = []; cut = refl; rise = tt; on = tt }
split_first ((a, b) ∷ hits) place part (inl less, rest) = none_here place part a b hits less rest
split_first ((a, b) ∷ hits) place part (inr same, rest) =
    subst (λ (p : ℕ). Split p part ((a, b) ∷ hits)) (sym same.0) (one_here a part b hits same.1 (split_first hits a (b + 1) rest))

part_in : (place : ℕ) (parts : List ℕ) (later : List (ℕ × ℕ)) (p q : ℕ) → HasHit (of_place place parts ++ later) p q → ((place ≡ p) × HasPart parts q) ⊎ HasHit later p q
part_in place [] later p q has = inr has
part_in place (own ∷ parts) later p q (inl is) = inl (is.0, inl is.1)
part_in place (own ∷ parts) later p q (inr has) = by (part_in place parts later p q has)
  where
    by : ((place ≡ p) × HasPart parts q) ⊎ HasHit later p q → ((place ≡ p) × HasPart (own ∷ parts) q) ⊎ HasHit later p q
    by (inl is) = inl (is.0, inr is.1)
    by (inr there) = inr there

-- ---- the walk

module _ {K : Type 0} (reaches : ℕ → ℕ → Bool) (with_hit : K → ℕ × ℕ → K) (with_place : K → ℕ → K) (passes : (kept : K) (place part : ℕ) → reaches place part ≡ false → with_hit kept (place, part) ≡ kept) (leaves : (kept : K) (place : ℕ) → ((part : ℕ) → reaches place part ≡ false) → with_place kept place ≡ kept) (takes : (kept : K) (place part : ℕ) → reaches place part ≡ true → ((before : ℕ) → before < part → reaches place before ≡ false) → with_hit kept (place, part) ≡ with_place kept place) (stays : (kept : K) (place first part : ℕ) → reaches place first ≡ true → first < part → with_hit (with_place kept place) (place, part) ≡ with_place kept place) where
  settled : (kept : K) (place first part : ℕ) (parts : List ℕ) → reaches place first ≡ true → first < part → PartsRise part parts → fold with_hit (with_place kept place) (of_place place parts) ≡ with_place kept place
  settled kept place first part [] reached less rise = refl
  settled kept place first part (own ∷ parts) reached less rise =
      let a = rise.0 in
      ap (λ k. fold with_hit k (of_place place parts)) (stays kept place first own reached (omega arith))
      ∙ settled kept place first (own + 1) parts reached (omega arith) rise.1

  none_missed : (place part : ℕ) (parts : List ℕ) → ((q : ℕ) → q < part → reaches place q ≡ false) → ((q : ℕ) → part ≤ q → reaches place q ≡ true → HasPart parts q) → (q : ℕ) → (HasPart parts q → part ≤ q → ⊥) → reaches place q ≡ false
  none_missed place part parts before all q missing =
      elim (cases_Bool (reaches place q)) [
        | inl reached ↦
            elim (cases_lt q part) [
              | inl less ↦ before q less
              | inr more ↦ absurd (missing (all q more reached) more)
            ]
        | inr fails ↦ fails
      ]

  of_one : (kept : K) (place part : ℕ) (parts : List ℕ) → PartsRise part parts → ((q : ℕ) → q < part → reaches place q ≡ false) → ((q : ℕ) → part ≤ q → reaches place q ≡ true → HasPart parts q) → fold with_hit kept (of_place place parts) ≡ with_place kept place
  of_one kept place part [] rise before all = sym (leaves kept place (λ q. none_missed place part [] before all q (λ has less. has)))
  of_one kept place part (own ∷ parts) rise before all =
      let a = rise.0 in
      let below : (q : ℕ) → q < own → reaches place q ≡ false =
      λ q less. none_missed place part (own ∷ parts) before all q (λ has more. let b = part_below own (own ∷ parts) q (omega arith, rise.1) has in omega arith) in
      elim (cases_Bool (reaches place own)) [
        | inl reached ↦
            ap (λ k. fold with_hit k (of_place place parts)) (takes kept place own reached below)
            ∙ settled kept place own (own + 1) parts reached (omega arith) rise.1
        | inr fails ↦
            ap (λ k. fold with_hit k (of_place place parts)) (passes kept place own fails)
            ∙ of_one kept place (own + 1) parts rise.1 (before_next place own fails below) (λ q more reached. others q more (all q (omega arith) reached))
      ]
    where
      before_next : (place own : ℕ) → reaches place own ≡ false → ((q : ℕ) → q < own → reaches place q ≡ false) → (q : ℕ) → q < own + 1 → reaches place q ≡ false
      before_next place own fails below q less =
          elim (cases_lt q own) [
            | inl lower ↦ below q lower
            | inr upper ↦ subst (λ (n : ℕ). reaches place n ≡ false) (own_is upper less) fails
          ]
        where
          own_is : own ≤ q → q < own + 1 → own ≡ q
          own_is upper less = omega arith

      others : (q : ℕ) → own + 1 ≤ q → HasPart (own ∷ parts) q → HasPart parts q
      others q more (inl is) = absurd (omega (arith, is))
      others q more (inr has) = has

  none_left : (kept : K) (place part : ℕ) (hits : List (ℕ × ℕ)) → HitsRise place part hits → ((p q : ℕ) → place ≤ p → reaches p q ≡ false) → fold with_hit kept hits ≡ kept
  none_left kept place part [] rise none = refl
  none_left kept place part ((a, b) ∷ hits) rise none =
      let least = place_below place part ((a, b) ∷ hits) a b rise (inl (refl, refl)) in
      ap (λ k. fold with_hit k hits) (passes kept a b (none a b least))
      ∙ none_left kept a (b + 1) hits rise.1 (λ p q more. none p q (omega arith))

  pub hits_serve : (kept : K) (n place : ℕ) (hits : List (ℕ × ℕ)) → HitsRise place 0 hits → ((p q : ℕ) → place ≤ p → reaches p q ≡ true → HasHit hits p q) → ((p q : ℕ) → place + n ≤ p → reaches p q ≡ false) → fold with_hit kept hits ≡ fold with_place kept (counted place n)
  hits_serve kept zero place hits rise all beyond = none_left kept place 0 hits rise (λ p q more. beyond p q (omega arith))
  hits_serve kept (suc n) place hits rise all beyond =
      let s = split_first hits place 0 rise in
      ap (fold with_hit kept) s.cut ∙ fold_over with_hit kept (of_place place s.parts) s.later
      ∙ ap (λ k. fold with_hit k s.later) (of_one kept place 0 s.parts s.rise (λ q less. absurd (omega arith)) (λ q more reached. own s q (subst (λ (l : List (ℕ × ℕ)). HasHit l place q) s.cut (all place q (omega arith) reached))))
      ∙ hits_serve (with_place kept place) n (place + 1) s.later s.on (λ p q more reached. others s p q more (subst (λ (l : List (ℕ × ℕ)). HasHit l p q) s.cut (all p q (omega arith) reached))) (λ p q more. beyond p q (omega arith))
    where
      own : (s : Split place 0 hits) (q : ℕ) → HasHit (of_place place s.parts ++ s.later) place q → HasPart s.parts q
      own s q has = by (part_in place s.parts s.later place q has)
        where
          by : ((place ≡ place) × HasPart s.parts q) ⊎ HasHit s.later place q → HasPart s.parts q
          by (inl is) = is.1
          by (inr there) = absurd (let b = place_below (place + 1) 0 s.later place q s.on there in omega arith)

      others : (s : Split place 0 hits) (p q : ℕ) → place + 1 ≤ p → HasHit (of_place place s.parts ++ s.later) p q → HasHit s.later p q
      others s p q more has = by (part_in place s.parts s.later p q has)
        where
          by : ((place ≡ p) × HasPart s.parts q) ⊎ HasHit s.later p q → HasHit s.later p q
          by (inl is) = absurd (let b = is.0 in omega arith)
          by (inr there) = there

-- ---- what a sort leaves

lesser : (a b c d : ℕ) (r : Ordering) → r ≡ nat_cmp a c → ordering_then r (nat_cmp b d) ≡ Less → (a < c) ⊎ ((a ≡ c) × (b + 1 ≤ d))
lesser a b c d Less is h = inl (ranked a c Less is)
lesser a b c d Equal is h = inr (ranked a c Equal is, let less : b < d = ranked b d Less (sym h) in omega arith)
lesser a b c d Greater is h = cc

rise_behind : (place part : ℕ) (hits : List (ℕ × ℕ)) → AllByRecursion (λ y. hit_cmp (place, part) y ≡ Less) hits → IsStrictlySortedBy hit_cmp hits → HitsRise place (part + 1) hits
unfolding IsStrictlySortedBy
rise_behind place part [] less sorted = tt
rise_behind place part ((a, b) ∷ hits) less sorted = (lesser place part a b (nat_cmp place a) refl less.0, rise_behind a b hits sorted.0 sorted.1)

pub sorted_rise : (hits : List (ℕ × ℕ)) → IsStrictlySortedBy hit_cmp hits → HitsRise 0 0 hits
unfolding IsStrictlySortedBy
sorted_rise [] sorted = tt
sorted_rise ((a, b) ∷ hits) sorted = (first (cases_lt 0 a), rise_behind a b hits sorted.0 sorted.1)
  where
    first : (0 < a) ⊎ (a ≤ 0) → (0 < a) ⊎ ((0 ≡ a) × (0 ≤ b))
    first (inl some) = inl some
    first (inr none) = inr (omega arith, omega arith)

pub hit_there : (hits : List (ℕ × ℕ)) (place part : ℕ) → Contains hits (place, part) → HasHit hits place part
hit_there [] place part has = absurd (let w = has.1 in omega arith)
hit_there (hit ∷ hits) place part (zero, within, is) = inl (ap (λ (h : ℕ × ℕ). h.0) is, ap (λ (h : ℕ × ℕ). h.1) is)
hit_there (hit ∷ hits) place part (suc k, within, is) = inr (hit_there hits place part (k, omega arith, is))

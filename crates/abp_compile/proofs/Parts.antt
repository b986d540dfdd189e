-- The listed domains of a filter, parted into those under an excluded one, and others.
use Rattle.std.proofs.Common.{◌≡◌, ℕ, List, [], ◌∷◌, ◌++◌, filter, Bool, true, false, cond, not, refl, sym, ap, ◌∙◌, append_assoc}
use Rattle.list_spec.specs.declared.domain_entry.DomainEntry.{DomainEntry}
use Rattle.compile_spec.specs.Initiators.{excluded_in, listed_in, nested, not_nested, lies_under_some, in_several, in_one, initiators_of}
use Rattle.abp_compile.specs.Parted.{parted}

-- where a filter keeps nothing, its opposite keeps all
opposite_cond : {X : Type 0} (p : X → Bool) (b : Bool) (x : X) (xs : List X) → cond b (x ∷ filter p xs) (filter p xs) ≡ []
    → (b ≡ false) × (filter p xs ≡ [])
opposite_cond p true x xs h = cc
opposite_cond p false x xs h = (refl, h)

opposite : {X : Type 0} (p : X → Bool) (xs : List X) → filter p xs ≡ [] → filter (λ x. not (p x)) xs ≡ xs
opposite p [] h = refl
opposite p (x ∷ xs) h =
    let both = opposite_cond p (p x) x xs h in
    ap (λ b. cond (not b) (x ∷ filter (λ y. not (p y)) xs) (filter (λ y. not (p y)) xs)) both.0 ∙ ap (λ ys. x ∷ ys) (opposite p xs both.1)

one : (excluded others : List (List ℕ)) → in_one excluded others ∷ [] ≡ parted excluded others []
one excluded [] = refl
one excluded (domain ∷ others) = refl

several : (excluded listed others under : List (List ℕ)) → others ≡ not_nested excluded listed → nested excluded listed ≡ under
    → in_several excluded listed under ≡ parted excluded others under
several excluded listed others [] e none =
    let all : others ≡ listed = e ∙ opposite (lies_under_some excluded) listed none in
    ap (λ l. in_one excluded l ∷ []) (sym all) ∙ one excluded others
several excluded listed [] (domain ∷ under) e some = rw (← e) refl
several excluded listed (other ∷ others) (domain ∷ under) e some = rw (← e) refl

pub parts : (entries : List DomainEntry) (excluded others under : List (List ℕ)) → excluded ≡ excluded_in entries
    → others ≡ not_nested (excluded_in entries) (listed_in entries) → under ≡ nested (excluded_in entries) (listed_in entries)
    → parted excluded others under ≡ initiators_of entries
parts entries excluded others under x o u =
    ap (λ e. parted e others under) x
    ∙ sym (several (excluded_in entries) (listed_in entries) others under o (sym u))
    ∙ ap (in_several (excluded_in entries) (listed_in entries)) u

-- ---- one domain more

filter_more : {X : Type 0} (p : X → Bool) (x : X) (rest : List X) → filter p (x ∷ rest) ≡ filter p (x ∷ []) ++ filter p rest
filter_more p x rest = two (p x) x (filter p rest)
  where
    two : {X : Type 0} (b : Bool) (x : X) (ys : List X) → cond b (x ∷ ys) ys ≡ cond b (x ∷ []) [] ++ ys
    two true x ys = refl
    two false x ys = refl

pub part_more : {X : Type 0} (p : X → Bool) (whole kept now left rest : List X) (x : X) → whole ≡ kept ++ filter p left → left ≡ x ∷ rest
    → now ≡ kept ++ filter p (x ∷ []) → whole ≡ now ++ filter p rest
part_more p whole kept now left rest x w l n =
    w ∙ ap (λ xs. kept ++ filter p xs) l ∙ ap (λ xs. kept ++ xs) (filter_more p x rest) ∙ sym (append_assoc kept (filter p (x ∷ [])) (filter p rest)) ∙ ap (λ k. k ++ filter p rest) (sym n)

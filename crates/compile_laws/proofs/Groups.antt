-- The filters of a list, and those among them that stand as one.
use Rattle.std.proofs.Common.{◌≡◌, ℕ, zero, suc, ◌+◌, List, [], ◌∷◌, true, not, Option, Some, None, inl, inr, refl, sym, ap, ◌∙◌, subst, ⊎_elim, arith}
use Rattle.std.specs.Prelude.{slice_get, option_and_then, filter}
use Rattle.std.specs.List.{AllByRecursion}
use Rattle.std.proofs.lemmas.Bool.{not_from_false}
use Rattle.list_spec.specs.LineKind.{FilterLine, line_of}
use Rattle.list_spec.specs.Says.{filter_in}
use Rattle.compile_spec.specs.Compiled.{Placed, and_filter, placed_from, Group, alike_to, groups_of}
use Rattle.compile_laws.proofs.Lists.{Has, In, true_or_false, in_has, has_in, in_each, each_in, each_weaker, each_filtered, in_filtered, in_unfiltered}
use Rattle.compile_laws.proofs.Likeness.{alike_through}

-- ---- filters and their places

-- the filter in the line at this place, if there is one
abbrev pub filter_in_place : List (List ℕ) → ℕ → Option FilterLine
filter_in_place lines place = option_and_then (λ line. filter_in (line_of line)) (slice_get lines place)

pub record IsPlaced (number : ℕ) (lines : List (List ℕ)) (placed : Placed) : Type 0 where
  pub place : ℕ
  pub line : placed.line ≡ number + place
  pub there : filter_in_place lines place ≡ Some placed.filter

one_further : (number : ℕ) (line : List ℕ) (lines : List (List ℕ)) (placed : Placed) → IsPlaced (number + 1) lines placed → IsPlaced number (line ∷ lines) placed
one_further number line lines placed is =
    let same : number + 1 + is.place ≡ number + suc is.place = omega arith in record { place = suc is.place; line = is.line ∙ same; there = is.there }

with_first : (number : ℕ) (line : List ℕ) (lines : List (List ℕ)) (filter : Option FilterLine) (later : List Placed) → filter_in (line_of line) ≡ filter
    → AllByRecursion (IsPlaced number (line ∷ lines)) later → AllByRecursion (IsPlaced number (line ∷ lines)) (and_filter number filter later)
with_first number line lines None later is h = h
with_first number line lines (Some filter) later is h = (record { place = 0; line = omega arith; there = is }, h)

pub each_placed : (number : ℕ) (lines : List (List ℕ)) → AllByRecursion (IsPlaced number lines) (placed_from number lines)
each_placed number [] = tt
each_placed number (line ∷ lines) =
    with_first number line lines (filter_in (line_of line)) (placed_from (number + 1) lines) refl
    (each_weaker (IsPlaced (number + 1) lines) (IsPlaced number (line ∷ lines)) (one_further number line lines) (placed_from (number + 1) lines) (each_placed (number + 1) lines))

in_later : (number : ℕ) (filter : Option FilterLine) (placed : Placed) (later : List Placed) → In placed later → In placed (and_filter number filter later)
in_later number None placed later i = i
in_later number (Some filter) placed later i = inr i

pub placed_there : (number : ℕ) (lines : List (List ℕ)) (place : ℕ) (filter : FilterLine) → filter_in_place lines place ≡ Some filter
    → In (record { line = number + place; filter = filter }) (placed_from number lines)
placed_there number [] place filter is = cc
placed_there number (line ∷ lines) zero filter is =
    let same : number ≡ number + 0 = omega arith in
    subst (λ (o : Option FilterLine). In (record { line = number + 0; filter = filter }) (and_filter number o (placed_from (number + 1) lines))) (sym is)
    (inl (ap (λ (n : ℕ). record { line = n; filter = filter }) same))
placed_there number (line ∷ lines) (suc place) filter is =
    let same : number + 1 + place ≡ number + suc place = omega arith in
    in_later number (filter_in (line_of line)) (record { line = number + suc place; filter = filter }) (placed_from (number + 1) lines)
    (subst (λ (n : ℕ). In (record { line = n; filter = filter }) (placed_from (number + 1) lines)) same (placed_there (number + 1) lines place filter is))

-- ---- groups

-- filters of these, of which the others are alike to the first
pub record IsGroup (all : List Placed) (group : Group) : Type 0 where
  pub first : In group.first all
  pub others : AllByRecursion (λ other. In other all × (alike_to group.first other ≡ true)) group.others

wider : (one : Placed) (all : List Placed) (group : Group) → IsGroup all group → IsGroup (one ∷ all) group
wider one all group is = record {
  first = inr is.first;
  others = each_weaker (λ other. In other all × (alike_to group.first other ≡ true)) (λ other. In other (one ∷ all) × (alike_to group.first other ≡ true)) (λ other h. (inr h.0, h.1)) group.others is.others;
}

pub are_groups : (all : List Placed) → AllByRecursion (IsGroup all) (groups_of all)
are_groups [] = tt
are_groups (one ∷ rest) = (
  record {
    first = inl refl;
    others = in_each (λ other. In other (one ∷ rest) × (alike_to one other ≡ true)) (filter (alike_to one) rest) (λ other i. let q = in_unfiltered (alike_to one) other rest i in (inr q.0, q.1));
  },
  each_filtered (IsGroup (one ∷ rest)) (λ group. not (alike_to one group.first)) (groups_of rest) (each_weaker (IsGroup rest) (IsGroup (one ∷ rest)) (wider one rest) (groups_of rest) (are_groups rest)),
)

-- the filter is one of the group
abbrev pub IsMember : Placed → Group → Type 0
IsMember placed group = In placed (group.first ∷ group.others)

-- the first group takes the filters of the groups that it takes in
first_takes : (one placed : Placed) (group : Group) → alike_to one group.first ≡ true → AllByRecursion (λ other. alike_to group.first other ≡ true) group.others
    → IsMember placed group → alike_to one placed ≡ true
first_takes one placed group h others (inl same) = ap (alike_to one) (sym same) ∙ h
first_takes one placed group h others (inr i) = alike_through one.filter group.first.filter placed.filter h (each_in (λ other. alike_to group.first other ≡ true) placed group.others i others)

in_first_or_later : (one placed : Placed) (rest : List Placed) (group : Group) → In group (groups_of rest) → IsGroup rest group → IsMember placed group → In placed rest
    → Has (IsMember placed) (groups_of (one ∷ rest))
in_first_or_later one placed rest group i is member there =
    ⊎_elim
    (λ yes.
    let others = each_weaker (λ other. In other rest × (alike_to group.first other ≡ true)) (λ other. alike_to group.first other ≡ true) (λ other h. h.1) group.others is.others in
    inl (inr (in_filtered (alike_to one) placed rest there (first_takes one placed group yes others member))))
    (λ no. inr (in_has (IsMember placed) group _ (in_filtered (λ g. not (alike_to one g.first)) group (groups_of rest) i (not_from_false (alike_to one group.first) no)) member))
    (true_or_false (alike_to one group.first))

-- each filter is in a group
pub in_a_group : (all : List Placed) (placed : Placed) → In placed all → Has (IsMember placed) (groups_of all)
in_a_group [] placed i = absurd i
in_a_group (one ∷ rest) placed (inl same) = inl (inl same)
in_a_group (one ∷ rest) placed (inr i) =
    let r = has_in (IsMember placed) (groups_of rest) (in_a_group rest placed i) in
    in_first_or_later one placed rest r.0 r.1 (each_in (IsGroup rest) r.0 (groups_of rest) r.1 (are_groups rest)) r.2 i

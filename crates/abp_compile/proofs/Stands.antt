-- What stands for groups, and its rules.
use Rattle.std.proofs.Common.{◌≡◌, ℕ, suc, List, [], ◌∷◌, ◌++◌, map, reverse, get_or, refl, sym, ap, ◌∙◌, subst, append_assoc, arith}
use Rattle.std.specs.Prelude.{All}
use Rattle.std.specs.List.{flat_map}
use Rattle.compile_spec.specs.Compiled.{Placed, Group, groups_of, placed_from, standing_with, standing, Standing, drafts_of, Draft, drafts_in}
use Rattle.compile_laws.specs.Laws.{GroupsGiveRules}
use Rattle.abp_compile.specs.declared.groups.Group as code
use Rattle.abp_compile.specs.declared.groups.Groups.{Groups}
use Rattle.abp_compile.specs.Groups.{told, told_with, told_of, standing_of, HasFilters}
use Rattle.abp_compile.specs.declared.work.Work.{Work}
use Rattle.abp_compile.specs.Work.{GivesAllRules, HasDrafts, Gains}
use Rattle.abp_compile.proofs.Turned.{popped}
use Rattle.std.proofs.lemmas.List.Elements.{All-map}
use Rattle.abp_compile.proofs.Named.{gives_all}

stands_so : (first : Placed) (others : List Placed) → standing_of (told_with first others) ≡ standing_with first others
stands_so first [] = refl
stands_so first (other ∷ others) = refl

mapped_twice : {X Y Z : Type 0} (f : Y → Z) (g : X → Y) (xs : List X) → map f (map g xs) ≡ map (λ x. f (g x)) xs
mapped_twice f g [] = refl
mapped_twice f g (x ∷ xs) = ap (λ ys. f (g x) ∷ ys) (mapped_twice f g xs)

told_standings : (groups : List Group) → map standing_of (map told_of groups) ≡ map standing groups
told_standings [] = refl
told_standings (group ∷ groups) = λ i. stands_so group.first group.others i ∷ told_standings groups i

-- what stands for the groups that were made of filters
pub standings : (groups : Groups) (placed : List Placed) → HasFilters groups placed → map (λ (group : code.Group). standing_of (told group)) groups.list.items ≡ map standing (groups_of placed)
standings groups placed has = sym (mapped_twice standing_of told groups.list.items) ∙ ap (map standing_of) has ∙ told_standings (groups_of placed)

flat_mapped : {X Y Z : Type 0} (f : Y → List Z) (g : X → Y) (xs : List X) → flat_map f (map g xs) ≡ flat_map (λ x. f (g x)) xs
flat_mapped f g [] = refl
flat_mapped f g (x ∷ xs) = ap (λ ys. f (g x) ++ ys) (flat_mapped f g xs)

same_drafts : (groups : Groups) (lines : List (List ℕ)) → HasFilters groups (placed_from 1 lines) → flat_map (λ (group : code.Group). drafts_of (standing_of (told group))) groups.list.items ≡ drafts_in lines
same_drafts groups lines has =
    sym (flat_mapped drafts_of (λ (group : code.Group). standing_of (told group)) groups.list.items) ∙ ap (flat_map drafts_of) (standings groups (placed_from 1 lines) has)
    ∙ flat_mapped drafts_of standing (groups_of (placed_from 1 lines))

pub of_groups : (work : Work) (groups : Groups) (lines : List (List ℕ)) → HasFilters groups (placed_from 1 lines)
    → HasDrafts work (flat_map (λ (group : code.Group). drafts_of (standing_of (told group))) groups.list.items) → HasDrafts work (drafts_in lines)
of_groups work groups lines has drafts = subst (HasDrafts work) (same_drafts groups lines has) drafts

pub give_rules : GroupsGiveRules → (groups : Groups) (lines : List (List ℕ)) → HasFilters groups (placed_from 1 lines)
    → All GivesAllRules (map (λ (group : code.Group). standing_of (told group)) groups.list.items)
give_rules law groups lines has =
    subst (λ (l : List Standing). All GivesAllRules l) (sym (standings groups (placed_from 1 lines) has))
    (All-map GivesAllRules standing (groups_of (placed_from 1 lines)) (λ k d less. gives_all (standing (get_or (groups_of (placed_from 1 lines)) k d)) (law lines k d less)))

-- ---- group by group, the last of what is left first

abbrev standing_told : code.Group → Standing
standing_told group = standing_of (told group)

first_of : (x : Standing) (xs : List Standing) → All GivesAllRules (x ∷ xs) → GivesAllRules x
first_of x xs all = all 0 x (omega arith)

others_of : (x : Standing) (xs : List Standing) → All GivesAllRules (x ∷ xs) → All GivesAllRules xs
others_of x xs all = λ k d less. all (suc k) d (omega arith)

pub first_gives : (all left : List code.Group) (group : code.Group) → all ≡ left ++ group ∷ [] → All GivesAllRules (map standing_told (reverse all)) → GivesAllRules (standing_told group)
first_gives all left group e rules = first_of (standing_told group) (map standing_told (reverse left)) (subst (λ (l : List code.Group). All GivesAllRules (map standing_told l)) (popped all left group e) rules)

pub later_give : (all left : List code.Group) (group : code.Group) → all ≡ left ++ group ∷ [] → All GivesAllRules (map standing_told (reverse all)) → All GivesAllRules (map standing_told (reverse left))
later_give all left group e rules = others_of (standing_told group) (map standing_told (reverse left)) (subst (λ (l : List code.Group). All GivesAllRules (map standing_told l)) (popped all left group e) rules)

pub next_drafts : (all left : List code.Group) (group : code.Group) (before now : Work) (standing : Standing) (whole : List Draft) → all ≡ left ++ group ∷ [] → standing ≡ standing_told group
    → Gains (drafts_of standing) before now → ((held : List Draft) × HasDrafts before held × (held ++ flat_map (λ g. drafts_of (standing_told g)) (reverse all) ≡ whole))
    → (held : List Draft) × HasDrafts now held × (held ++ flat_map (λ g. drafts_of (standing_told g)) (reverse left) ≡ whole)
next_drafts all left group before now standing whole e is gains held =
    let rest = flat_map (λ (g : code.Group). drafts_of (standing_told g)) (reverse left) in (
      held.0 ++ drafts_of standing,
      gains held.0 held.1,
      append_assoc held.0 (drafts_of standing) rest ∙ ap (λ s. held.0 ++ (drafts_of s ++ rest)) is
          ∙ sym (ap (λ (l : List code.Group). held.0 ++ flat_map (λ (g : code.Group). drafts_of (standing_told g)) l) (popped all left group e)) ∙ held.2,
    )

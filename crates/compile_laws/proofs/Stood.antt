-- What stands for filters that are alike matches exactly where one of them does.
use Rattle.std.proofs.Common.{◌≡◌, ℕ, List, [], ◌∷◌, map, Bool, true, false, not, ◌||◌, ◌&&◌, Option, Some, None, inl, inr, refl, sym, ap, ◌∙◌, subst}
use Rattle.std.specs.Prelude.{is_some}
use Rattle.std.specs.List.{list_any, filter_map, cons_option, AllByRecursion}
use Rattle.dnr_base.specs.View.{IsView, host_of}
use Rattle.dnr_base.specs.Request.{Part}
use Rattle.dnr_spec.specs.Domains.{covers, covers_some}
use Rattle.dnr_spec.specs.Suffixes.{SuffixRule}
use Rattle.dnr_spec.specs.Party.{is_third_party}
use Rattle.list_spec.specs.LineKind.{FilterPattern, FilterLine}
use Rattle.list_spec.specs.Says.{matches_url, is_party, is_for, matches}
use Rattle.compile_spec.specs.Alike.{plain_domain, ascending}
use Rattle.compile_spec.specs.Compiled.{Placed, placed_from, Group, alike_to, standing_with}
use Rattle.compile_laws.proofs.Bools.{or_false}
use Rattle.compile_laws.proofs.Lists.{In, each_in, in_each, each_weaker, has_passing, any_passes}
use Rattle.compile_laws.proofs.Supported.{IsSupported}
use Rattle.compile_laws.proofs.Plain.{has_domain, has_ascending, had_ascending}
use Rattle.compile_laws.proofs.Likeness.{Agrees, reads_alike, reads_agree, agree_itself}
use Rattle.compile_laws.proofs.Entries.{same_for}
use Rattle.compile_laws.proofs.Groups.{IsGroup}
use Rattle.compile_laws.proofs.Rules.{each_supported}
use Rattle.compile_laws.proofs.Fitting.{fits_view, same_truth}
use Rattle.compile_laws.proofs.Matching.{stands}

-- a filter of a plain domain that agrees with the first
pub record IsLike (first : FilterLine) (placed : Placed) : Type 0 where
  pub domain : List ℕ
  pub plain : plain_domain placed.filter.pattern ≡ Some domain
  pub agrees : Agrees first placed.filter

some_domain : (o : Option (List ℕ)) → is_some o ≡ true → (domain : List ℕ) × (o ≡ Some domain)
some_domain None h = cc
some_domain (Some domain) h = (domain, refl)

is_like : (first : Placed) (placed : Placed) → alike_to first placed ≡ true → IsLike first.filter placed
is_like first placed h =
    let a = reads_alike first.filter placed.filter h in
    let d = some_domain (plain_domain placed.filter.pattern) a.other_plain in
    record { domain = d.0; plain = d.1; agrees = a.agrees }

first_like : (first other : Placed) → alike_to first other ≡ true → IsLike first.filter first
first_like first other h =
    let a = reads_alike first.filter other.filter h in
    let d = some_domain (plain_domain first.filter.pattern) a.one_plain in
    record { domain = d.0; plain = d.1; agrees = reads_agree first.filter first.filter (agree_itself first.filter) }

-- all of a group of several
pub all_like : (first other : Placed) (others : List Placed) → AllByRecursion (λ one. alike_to first one ≡ true) (other ∷ others) → AllByRecursion (IsLike first.filter) (first ∷ other ∷ others)
all_like first other others h =
    (first_like first other h.0, each_weaker (λ one. alike_to first one ≡ true) (IsLike first.filter) (is_like first) (other ∷ others) h)

-- ---- hosts

ascending_same : (domains : List (List ℕ)) (host : List ℕ) → covers_some (ascending domains) host ≡ covers_some domains host
ascending_same domains host =
    same_truth (covers_some (ascending domains) host) (covers_some domains host)
    (λ h. any_passes (λ d. covers d host) domains (had_ascending (λ d. covers d host ≡ true) domains (has_passing (λ d. covers d host) (ascending domains) h)))
    (λ h. any_passes (λ d. covers d host) (ascending domains) (has_ascending (λ d. covers d host ≡ true) domains (has_passing (λ d. covers d host) domains h)))

spread : (one others party meant : Bool) → (((one && party) && meant) || (others && (party && meant))) ≡ ((one || others) && (party && meant))
spread true true true true = refl
spread true true true false = refl
spread true true false m = refl
spread true false true true = refl
spread true false true false = refl
spread true false false m = refl
spread false o p m = refl

module _ (suffixes : List SuffixRule) (part : Part) (view : IsView part.view) where
  matches_domain : (pattern : FilterPattern) (case : Bool) (domain : List ℕ) → plain_domain pattern ≡ Some domain → matches_url pattern case part.view ≡ covers domain (host_of part.view)
  matches_domain pattern case domain is =
      let has = has_domain pattern domain is in ap (λ p. matches_url p case part.view) has.is ∙ fits_view part.view view domain has.plain (not case)

  member_matches : (first : FilterLine) (placed : Placed) (like : IsLike first placed) → IsSupported first → IsSupported placed.filter
      → matches suffixes placed.filter part
      ≡ ((covers like.domain (host_of part.view) && is_party first.third_party (is_third_party suffixes (host_of part.view) part.initiator)) && is_for first.domains part.initiator)
  member_matches first placed like one other =
      let third = is_third_party suffixes (host_of part.view) part.initiator in
      λ i. (matches_domain placed.filter.pattern placed.filter.match_case like.domain like.plain i && is_party (sym like.agrees.third_party i) third)
      && same_for placed.filter.domains first.domains other.entries.each one.entries.each (sym like.agrees.domains) part.initiator i

  members_match : (first : FilterLine) → IsSupported first → (members : List Placed) → AllByRecursion (IsLike first) members → AllByRecursion (λ one. IsSupported one.filter) members
      → list_any (λ one. matches suffixes one.filter part) members
      ≡ (covers_some (filter_map (λ one. plain_domain one.filter.pattern) members) (host_of part.view)
      && (is_party first.third_party (is_third_party suffixes (host_of part.view) part.initiator) && is_for first.domains part.initiator))
  members_match first is [] likes are = refl
  members_match first is (one ∷ members) likes are =
      let host = host_of part.view in
      let party = is_party first.third_party (is_third_party suffixes host part.initiator) in
      let meant = is_for first.domains part.initiator in
      let rest = filter_map (λ (p : Placed). plain_domain p.filter.pattern) members in
      (λ i. member_matches first one likes.0 is are.0 i || members_match first is members likes.1 are.1 i)
      ∙ spread (covers likes.0.domain host) (covers_some rest host) party meant
      ∙ sym (ap (λ o. covers_some (cons_option o rest) host && (party && meant)) likes.0.plain)

  pub stands_for : (first : Placed) (others : List Placed) → AllByRecursion (λ one. alike_to first one ≡ true) others → AllByRecursion (λ one. IsSupported one.filter) (first ∷ others)
      → stands suffixes (standing_with first others) part ≡ list_any (λ one. matches suffixes one.filter part) (first ∷ others)
  stands_for first [] h are = sym (or_false (matches suffixes first.filter part))
  stands_for first (other ∷ others) h are =
      let domains = filter_map (λ (one : Placed). plain_domain one.filter.pattern) (first ∷ other ∷ others) in
      let asked = is_party first.filter.third_party (is_third_party suffixes (host_of part.view) part.initiator) && is_for first.filter.domains part.initiator in
      ap (λ b. b && asked) (ascending_same domains (host_of part.view))
      ∙ sym (members_match first.filter are.0 (first ∷ other ∷ others) (all_like first other others h) are)

-- ---- what stands for them

pub standing_lines : (first : Placed) (others : List Placed) → (standing_with first others).lines ≡ map (λ one. one.line) (first ∷ others)
standing_lines first [] = refl
standing_lines first (other ∷ others) = refl

pub standing_exception : (first : Placed) (others : List Placed) → (standing_with first others).filter.exception ≡ first.filter.exception
standing_exception first [] = refl
standing_exception first (other ∷ others) = refl

pub standing_document : (first : Placed) (others : List Placed) → (standing_with first others).filter.document ≡ first.filter.document
standing_document first [] = refl
standing_document first (other ∷ others) = refl

pub standing_kinds : (first : Placed) (others : List Placed) → (standing_with first others).filter.kinds ≡ first.filter.kinds
standing_kinds first [] = refl
standing_kinds first (other ∷ others) = refl

-- ---- the filters of a group

pub group_likes : (all : List Placed) (group : Group) → IsGroup all group → AllByRecursion (λ one. alike_to group.first one ≡ true) group.others
group_likes all group is = each_weaker (λ one. In one all × (alike_to group.first one ≡ true)) (λ one. alike_to group.first one ≡ true) (λ one h. h.1) group.others is.others

pub member_in : (all : List Placed) (group : Group) (one : Placed) → IsGroup all group → In one (group.first ∷ group.others) → In one all
member_in all group one is (inl same) = subst (λ (p : Placed). In p all) same is.first
member_in all group one is (inr i) = (each_in (λ other. In other all × (alike_to group.first other ≡ true)) one group.others i is.others).0

pub members_supported : (lines : List (List ℕ)) (group : Group) → IsGroup (placed_from 1 lines) group → AllByRecursion (λ one. IsSupported one.filter) (group.first ∷ group.others)
members_supported lines group is =
    in_each (λ one. IsSupported one.filter) (group.first ∷ group.others) (λ one i.
    each_in (λ (p : Placed). IsSupported p.filter) one (placed_from 1 lines) (member_in (placed_from 1 lines) group one is i) (each_supported 1 lines))

pub all_agree : (group : Group) → AllByRecursion (λ one. alike_to group.first one ≡ true) group.others → AllByRecursion (λ one. Agrees group.first.filter one.filter) (group.first ∷ group.others)
all_agree group h = (
  reads_agree group.first.filter group.first.filter (agree_itself group.first.filter),
  each_weaker (λ one. alike_to group.first one ≡ true) (λ one. Agrees group.first.filter one.filter) (λ one a. (reads_alike group.first.filter one.filter a).agrees) group.others h,
)

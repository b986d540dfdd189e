-- A filter matches a part exactly where one of its rules holds there.
use Rattle.std.proofs.Common.{◌≡◌, List, [], ◌∷◌, Bool, true, false, not, ◌||◌, ◌&&◌, Option, Some, None, refl, sym, ap, ◌∙◌}
use Rattle.std.specs.List.{list_any}
use Rattle.std.proofs.lemmas.Bool.{and_parts}
use Rattle.dnr_base.specs.declared.kind.Kind.{Kind}
use Rattle.dnr_base.specs.Kind.{has_kind}
use Rattle.dnr_base.specs.View.{View, text_of, host_of}
use Rattle.dnr_base.specs.Request.{Part}
use Rattle.dnr_spec.specs.UrlFilter.{fits}
use Rattle.dnr_spec.specs.Suffixes.{SuffixRule}
use Rattle.dnr_spec.specs.Party.{is_third_party}
use Rattle.rule_spec.specs.Rule.{Condition}
use Rattle.rule_spec.specs.Holds as rules
use Rattle.rule_spec.specs.Holds.{fits_url, has_match, is_among, is_from, is_not_from, has_methods, is_not_by, holds_on}
use Rattle.list_spec.specs.LineKind.{FilterPattern, every_url, plain, regex}
use Rattle.list_spec.specs.Says.{matches_url, is_party, is_for, matches}
use Rattle.compile_spec.specs.Initiators.{Initiators, initiators_of}
use Rattle.compile_spec.specs.Compiled.{Standing, url_filter_of, regex_filter_of, condition_of}
use Rattle.compile_laws.proofs.Bools.{and_true}
use Rattle.compile_laws.proofs.Lists.{In, any_in}
use Rattle.compile_laws.proofs.Supported.{AreEntries}
use Rattle.compile_laws.proofs.Among.{admits}
use Rattle.compile_laws.proofs.Meant.{is_for_rules}

merged : (kind a b asked : Bool) → ((kind && (a && asked)) || (kind && (b && asked))) ≡ (kind && ((a || b) && asked))
merged false a b asked = refl
merged true true b true = refl
merged true true true false = refl
merged true true false false = refl
merged true false b asked = refl

-- ---- field by field

same_party : (party : Option Bool) (third : Bool) → rules.is_party party third ≡ is_party party third
same_party None third = refl
same_party (Some true) third = refl
same_party (Some false) third = refl

true_either_way : (b : Bool) → (b || true) ≡ true
true_either_way true = refl
true_either_way false = refl

same_url : (pattern : FilterPattern) (case : Bool) (view : View) → (fits_url (url_filter_of pattern) (not case) view && has_match (regex_filter_of pattern) (not case) view) ≡ matches_url pattern case view
same_url every_url case view = refl
same_url (plain pattern) case view = and_true (fits pattern (text_of view) view.host (not case))
same_url (regex pattern) case view = refl

never : (b : Bool) → false ≡ (b && false)
never true = refl
never false = refl

-- the order in which a rule's fields are tested does not matter
reordered : (kind methods hosts url among not_among party match : Bool) → methods ≡ true
    → (kind && true && methods && true && true && hosts && true && url && among && not_among && party && true && true && match) ≡ (kind && ((among && not_among) && (hosts && ((url && match) && party))))
reordered false m h u f n p r e = refl
reordered true false h u f n p r e = cc
reordered true true false u f n p r e = never (f && n)
reordered true true true false false n p r e = refl
reordered true true true false true false p r e = refl
reordered true true true false true true p r e = refl
reordered true true true true false n p r e = refl
reordered true true true true true false p r e = refl
reordered true true true true true true false false e = refl
reordered true true true true true true false true e = refl
reordered true true true true true true true false e = refl
reordered true true true true true true true true e = refl

-- what a rule asks of a part beside its types and initiators
abbrev asks : List SuffixRule → Standing → Part → Bool
asks suffixes standing part =
    is_among standing.hosts (host_of part.view)
    && (matches_url standing.filter.pattern standing.filter.match_case part.view && is_party standing.filter.third_party (is_third_party suffixes (host_of part.view) part.initiator))

-- what stands for filters matches the part, whatever the types
abbrev pub stands : List SuffixRule → Standing → Part → Bool
stands suffixes standing part = is_among standing.hosts (host_of part.view) && matches suffixes standing.filter part

abbrev pub condition_for : Standing → List Kind → Initiators → Condition
condition_for standing kinds initiators = condition_of standing.filter standing.hosts kinds initiators

holds_parts : (suffixes : List SuffixRule) (standing : Standing) (kinds : List Kind) (initiators : Initiators) (part : Part)
    → holds_on suffixes (condition_for standing kinds initiators) part ≡ (has_kind kinds part.kind && (admits part.initiator initiators && asks suffixes standing part))
holds_parts suffixes standing kinds initiators part =
    let filter = standing.filter in
    let third = is_third_party suffixes (host_of part.view) part.initiator in
    let hosts = is_among standing.hosts (host_of part.view) in
    reordered (has_kind kinds part.kind) (is_not_by [] part.view.scheme part.method) hosts (fits_url (url_filter_of filter.pattern) (not filter.match_case) part.view)
    (is_from initiators.among part.initiator) (is_not_from initiators.not_among part.initiator) (rules.is_party filter.third_party third)
    (has_match (regex_filter_of filter.pattern) (not filter.match_case) part.view) (true_either_way (not (has_methods part.view.scheme)))
    ∙ ap (λ b. has_kind kinds part.kind && (admits part.initiator initiators && (hosts && (b && rules.is_party filter.third_party third)))) (same_url filter.pattern filter.match_case part.view)
    ∙ ap (λ b. has_kind kinds part.kind && (admits part.initiator initiators && (hosts && (matches_url filter.pattern filter.match_case part.view && b)))) (same_party filter.third_party third)

-- ---- over all rules of a filter

factored : {X : Type 0} (kind asked : Bool) (test : X → Bool) (xs : List X) → list_any (λ x. kind && (test x && asked)) xs ≡ (kind && (list_any test xs && asked))
factored false asked test [] = refl
factored true asked test [] = refl
factored kind asked test (x ∷ xs) = ap (λ b. (kind && (test x && asked)) || b) (factored kind asked test xs) ∙ merged kind (test x) (list_any test xs) asked

pub all_alike : {X : Type 0} (p q : X → Bool) (xs : List X) → ((x : X) → p x ≡ q x) → list_any p xs ≡ list_any q xs
all_alike p q [] same = refl
all_alike p q (x ∷ xs) same = ap (λ b. b || list_any p xs) (same x) ∙ ap (λ b. q x || b) (all_alike p q xs same)

turned : (meant hosts asked : Bool) → (meant && (hosts && asked)) ≡ (hosts && (asked && meant))
turned true true asked = sym (and_true asked)
turned true false asked = refl
turned false true true = refl
turned false true false = refl
turned false false asked = refl

pub holds_some : (suffixes : List SuffixRule) (standing : Standing) (kinds : List Kind) (part : Part) → AreEntries standing.filter.domains
    → list_any (λ initiators. holds_on suffixes (condition_for standing kinds initiators) part) (initiators_of standing.filter.domains) ≡ (has_kind kinds part.kind && stands suffixes standing part)
holds_some suffixes standing kinds part are =
    let filter = standing.filter in
    all_alike (λ initiators. holds_on suffixes (condition_for standing kinds initiators) part) (λ initiators. has_kind kinds part.kind && (admits part.initiator initiators && asks suffixes standing part))
    (initiators_of filter.domains) (λ initiators. holds_parts suffixes standing kinds initiators part)
    ∙ factored (has_kind kinds part.kind) (asks suffixes standing part) (admits part.initiator) (initiators_of filter.domains)
    ∙ ap (λ b. has_kind kinds part.kind && (b && asks suffixes standing part)) (is_for_rules filter.domains are part.initiator)
    ∙ ap (λ b. has_kind kinds part.kind && b)
    (turned (is_for filter.domains part.initiator) (is_among standing.hosts (host_of part.view))
    (matches_url filter.pattern filter.match_case part.view && is_party filter.third_party (is_third_party suffixes (host_of part.view) part.initiator)))

-- where one of the rules holds, what stands for the filters matches
pub one_matches : (suffixes : List SuffixRule) (standing : Standing) (kinds : List Kind) (initiators : Initiators) (part : Part) → AreEntries standing.filter.domains
    → In initiators (initiators_of standing.filter.domains) → holds_on suffixes (condition_for standing kinds initiators) part ≡ true → stands suffixes standing part ≡ true
one_matches suffixes standing kinds initiators part are i h =
    let some = any_in (λ j. holds_on suffixes (condition_for standing kinds j) part) initiators (initiators_of standing.filter.domains) i h in
    (and_parts (has_kind kinds part.kind) (stands suffixes standing part) (sym (holds_some suffixes standing kinds part are) ∙ some)).1

-- The rules of a list and the lines that they come from.
use Rattle.std.proofs.Common.{◌≡◌, ℕ, zero, suc, ◌+◌, ◌<◌, List, [], ◌∷◌, ◌++◌, map, length, Bool, true, false, cond, Option, Some, inl, inr, refl, sym, ap, ◌∙◌, subst, arith}
use Rattle.std.specs.Prelude.{All}
use Rattle.std.specs.List.{Contains, list_any, filter_map, cons_option, AllByRecursion}
use Rattle.std.proofs.lemmas.Bool.{and_parts, and_from}
use Rattle.std.proofs.lemmas.List.Elements.{All-from_recursion}
use Rattle.dnr_base.specs.declared.kind.Kind.{Kind}
use Rattle.dnr_base.specs.declared.request.Request.{Request}
use Rattle.dnr_base.specs.Kind.{has_kind}
use Rattle.dnr_base.specs.View.{IsView}
use Rattle.dnr_base.specs.Request.{Part, own_part}
use Rattle.dnr_spec.specs.Suffixes.{SuffixRule}
use Rattle.rule_spec.specs.Rule.{Action, block, redirect, allow, upgrade_scheme, modify_headers, allow_all_requests}
use Rattle.rule_spec.specs.Holds.{holds, holds_on}
use Rattle.list_spec.specs.LineKind.{FilterLine}
use Rattle.list_spec.specs.Says.{matches, fits_request}
use Rattle.compile_spec.specs.Alike.{plain_domain, ascending}
use Rattle.compile_spec.specs.Initiators.{Initiators, initiators_of}
use Rattle.compile_spec.specs.Compiled.{Placed, placed_from, Group, groups_of, Standing, standing_with, standing, Effect, blocks, allows, action_of, kinds_for, on_types, on_pages, effects_of, Draft, drafts_with, drafts_of, drafts_in, CompiledRule, with_ids, compiled}
use Rattle.compile_laws.specs.Origins.{filter_at, HasOrigin, HasRule, DoesAs, IsDoneFor, IsOfDomain, HasDomainOf, HasLineOf, NamesItsLines}
use Rattle.compile_laws.specs.Laws.{RulesHoldByTheirLines, LinesHoldByTheirRules, RulesDoAsTheirLines, RulesNameTheirLines}
use Rattle.compile_laws.proofs.Lists.{Has, In, has_in, in_has, each_in, in_each, any_in, any_out, each_joined, each_weaker, each_mapped, each_flat, has_left, has_mapped, has_flat}
use Rattle.compile_laws.proofs.Groups.{filter_in_place, IsPlaced, each_placed, placed_there, IsGroup, are_groups, IsMember, in_a_group}
use Rattle.compile_laws.proofs.Numbered.{one_of, each_numbered, has_numbered, contains}
use Rattle.compile_laws.proofs.Likeness.{Agrees}
use Rattle.compile_laws.proofs.Plain.{has_domain, has_ascending, had_ascending}
use Rattle.compile_laws.proofs.Matching.{stands, condition_for, holds_some, one_matches}
use Rattle.compile_laws.proofs.Rules.{stands_supported}
use Rattle.compile_laws.proofs.Stood.{IsLike, all_like, stands_for, standing_lines, standing_exception, standing_document, standing_kinds, group_likes, member_in, members_supported, all_agree}

-- ---- where a draft comes from

-- the draft is of a group of the list
pub record IsSourced (lines : List (List ℕ)) (draft : Draft) : Type 0 where
  pub group : Group
  pub is : IsGroup (placed_from 1 lines) group
  pub stands : draft.standing ≡ standing group
  pub effect : In draft.effect (effects_of (standing group).filter)
  pub initiators : In draft.initiators (initiators_of (standing group).filter.domains)

each_with : (P : Draft → Type 0) (standing : Standing) → ((effect : Effect) (initiators : Initiators) → In effect (effects_of standing.filter) → In initiators (initiators_of standing.filter.domains)
    → P (record { standing = standing; effect = effect; initiators = initiators })) → AllByRecursion P (drafts_of standing)
each_with P standing f =
    each_flat P (drafts_with standing) (effects_of standing.filter) (in_each (λ effect. AllByRecursion P (drafts_with standing effect)) (effects_of standing.filter) (λ effect e.
    each_mapped P (λ initiators. record { standing = standing; effect = effect; initiators = initiators }) (initiators_of standing.filter.domains)
    (in_each (λ initiators. P (record { standing = standing; effect = effect; initiators = initiators })) (initiators_of standing.filter.domains) (λ initiators i. f effect initiators e i))))

each_sourced : (lines : List (List ℕ)) → AllByRecursion (IsSourced lines) (drafts_in lines)
each_sourced lines =
    let all = placed_from 1 lines in
    each_flat (IsSourced lines) (λ group. drafts_of (standing group)) (groups_of all)
    (each_weaker (IsGroup all) (λ group. AllByRecursion (IsSourced lines) (drafts_of (standing group)))
    (λ group is. each_with (IsSourced lines) (standing group) (λ effect initiators e i. record { group = group; is = is; stands = refl; effect = e; initiators = i })) (groups_of all) (are_groups all))

-- ---- which drafts there are

draft_with : (P : Draft → Type 0) (standing : Standing) (effect : Effect) (initiators : Initiators) → In effect (effects_of standing.filter) → In initiators (initiators_of standing.filter.domains)
    → P (record { standing = standing; effect = effect; initiators = initiators }) → Has P (drafts_of standing)
draft_with P standing effect initiators e i p =
    has_flat P (drafts_with standing) (effects_of standing.filter) (in_has (λ x. Has P (drafts_with standing x)) effect (effects_of standing.filter) e
    (has_mapped P (λ j. record { standing = standing; effect = effect; initiators = j }) (initiators_of standing.filter.domains)
    (in_has (λ j. P (record { standing = standing; effect = effect; initiators = j })) initiators (initiators_of standing.filter.domains) i p)))

draft_from : (P : Draft → Type 0) (lines : List (List ℕ)) (group : Group) (effect : Effect) (initiators : Initiators) → In group (groups_of (placed_from 1 lines))
    → In effect (effects_of (standing group).filter) → In initiators (initiators_of (standing group).filter.domains)
    → P (record { standing = standing group; effect = effect; initiators = initiators }) → Has P (drafts_in lines)
draft_from P lines group effect initiators g e i p =
    has_flat P (λ one. drafts_of (standing one)) (groups_of (placed_from 1 lines))
    (in_has (λ one. Has P (drafts_of (standing one))) group (groups_of (placed_from 1 lines)) g (draft_with P (standing group) effect initiators e i p))

-- ---- the filters of a group and their lines

filter_there : (lines : List (List ℕ)) (placed : Placed) → In placed (placed_from 1 lines) → filter_at lines placed.line ≡ Some placed.filter
filter_there lines placed i =
    let is = each_in (IsPlaced 1 lines) placed (placed_from 1 lines) i (each_placed 1 lines) in
    let same : placed.line ≡ suc is.place = omega (arith, is.line) in
    ap (filter_at lines) same ∙ is.there

-- a line of the group is one of those of its rules
has_line : (group : Group) (numbers : List ℕ) (placed : Placed) → numbers ≡ (standing group).lines → IsMember placed group → Contains numbers placed.line
has_line group numbers placed is i =
    let lines = is ∙ standing_lines group.first group.others in
    subst (λ (l : List ℕ). Contains l placed.line) (sym lines)
    (contains placed.line (map (λ (one : Placed). one.line) (group.first ∷ group.others))
    (has_mapped (λ n. n ≡ placed.line) (λ (one : Placed). one.line) (group.first ∷ group.others) (in_has (λ (one : Placed). one.line ≡ placed.line) placed (group.first ∷ group.others) i refl)))

-- what holds of each filter of the group holds of each line of its rules
each_line : (P : ℕ → Type 0) (group : Group) (numbers : List ℕ) → numbers ≡ (standing group).lines → ((placed : Placed) → IsMember placed group → P placed.line) → All P numbers
each_line P group numbers is f =
    subst (λ (l : List ℕ). All P l) (sym (is ∙ standing_lines group.first group.others))
    (All-from_recursion P (map (λ (one : Placed). one.line) (group.first ∷ group.others))
    (each_mapped P (λ (one : Placed). one.line) (group.first ∷ group.others) (in_each (λ (one : Placed). P one.line) (group.first ∷ group.others) f)))

-- ---- what a filter does

types_some : (kinds : List Kind) (kind : Kind) (effect : Effect) → has_kind kinds kind ≡ true → In effect (on_types kinds effect)
types_some [] kind effect h = cc
types_some (first ∷ kinds) kind effect h = inl refl

-- a filter with this type blocks or allows
pub on_its_types : (filter : FilterLine) (kind : Kind) (exception : Bool) → filter.exception ≡ exception → has_kind filter.kinds kind ≡ true → In (cond exception allows blocks) (effects_of filter)
on_its_types filter kind true is h =
    rw is (has_left (λ e. e ≡ allows) (on_types filter.kinds allows) (on_pages filter.document) (types_some filter.kinds kind allows h))
on_its_types filter kind false is h = rw is (types_some filter.kinds kind blocks h)

own_kinds : (filter : FilterLine) (exception : Bool) → kinds_for filter (cond exception allows blocks) ≡ filter.kinds
own_kinds filter true = refl
own_kinds filter false = refl

types_do : (filter : FilterLine) (kinds : List Kind) (effect : Effect) → DoesAs (action_of effect) filter → AllByRecursion (λ e. DoesAs (action_of e) filter) (on_types kinds effect)
types_do filter [] effect h = tt
types_do filter (kind ∷ kinds) effect h = (h, tt)

pages_do : (filter : FilterLine) (document : Bool) → filter.exception ≡ true → filter.document ≡ document → AllByRecursion (λ e. DoesAs (action_of e) filter) (on_pages document)
pages_do filter true is d = ((is, d), tt)
pages_do filter false is d = tt

effects_do : (filter : FilterLine) (exception : Bool) → filter.exception ≡ exception
    → AllByRecursion (λ e. DoesAs (action_of e) filter) (cond exception (on_types filter.kinds allows ++ on_pages filter.document) (on_types filter.kinds blocks))
effects_do filter true is =
    each_joined (λ e. DoesAs (action_of e) filter) (on_types filter.kinds allows) (on_pages filter.document) (types_do filter filter.kinds allows is) (pages_do filter filter.document is refl)
effects_do filter false is = types_do filter filter.kinds blocks is

-- ---- the laws

group_matches : (lines : List (List ℕ)) (group : Group) → IsGroup (placed_from 1 lines) group → (suffixes : List SuffixRule) (part : Part) → IsView part.view
    → stands suffixes (standing group) part ≡ list_any (λ one. matches suffixes one.filter part) (group.first ∷ group.others)
group_matches lines group is suffixes part view = stands_for suffixes part view group.first group.others (group_likes (placed_from 1 lines) group is) (members_supported lines group is)

pub rules_hold_by_their_lines : RulesHoldByTheirLines
unfolding compiled
rules_hold_by_their_lines lines suffixes part view =
    let Holds : CompiledRule → Type 0 = λ one. holds suffixes one.rule part ≡ true → HasOrigin lines one (λ filter. matches suffixes filter part ≡ true) in
    All-from_recursion Holds (with_ids 1 (drafts_in lines))
    (each_numbered (IsSourced lines) Holds (λ id draft is h.
    let group = is.group in
    let entries = (stands_supported group.first group.others (members_supported lines group is.is).0).entries in
    let held = sym (ap (λ (s : Standing). holds_on suffixes (condition_for s (kinds_for s.filter draft.effect) draft.initiators) part) is.stands) ∙ h in
    let matched = one_matches suffixes (standing group) (kinds_for (standing group).filter draft.effect) draft.initiators part entries is.initiators held in
    let m = any_out (λ one. matches suffixes one.filter part) (group.first ∷ group.others) (sym (group_matches lines group is.is suffixes part view) ∙ matched) in
    record {
      number = m.0.line;
      filter = m.0.filter;
      origin = has_line group draft.standing.lines m.0 (ap (λ (s : Standing). s.lines) is.stands) m.1;
      there = filter_there lines m.0 (member_in (placed_from 1 lines) group m.0 is.is m.1);
      so = m.2;
    }) 1 (drafts_in lines) (each_sourced lines))

rule_there : (lines : List (List ℕ)) (suffixes : List SuffixRule) (request : Request) (place : ℕ) (filter : FilterLine) → IsView request.view → filter_in_place lines place ≡ Some filter
    → fits_request suffixes request filter ≡ true → HasRule lines (suc place) (λ one. holds suffixes one.rule (own_part request) ≡ true)
unfolding compiled
rule_there lines suffixes request place filter view is fits =
    let part = own_part request in
    let all = placed_from 1 lines in
    let placed : Placed = record { line = 1 + place; filter = filter } in
    let g = has_in (IsMember placed) (groups_of all) (in_a_group all placed (placed_there 1 lines place filter is)) in
    let group = g.0 in
    let grouped = each_in (IsGroup all) group (groups_of all) g.1 (are_groups all) in
    let stood = standing group in
    let p = and_parts (has_kind filter.kinds request.kind) (matches suffixes filter part) fits in
    let agrees = each_in (λ (one : Placed). Agrees group.first.filter one.filter) placed (group.first ∷ group.others) g.2 (all_agree group (group_likes all group grouped)) in
    let kinds : has_kind stood.filter.kinds request.kind ≡ true = ap (λ (k : List Kind). has_kind k request.kind) (standing_kinds group.first group.others) ∙ agrees.kinds request.kind ∙ p.0 in
    let matched : stands suffixes stood part ≡ true = group_matches lines group grouped suffixes part view ∙ any_in (λ one. matches suffixes one.filter part) placed (group.first ∷ group.others) g.2 p.1 in
    let entries = (stands_supported group.first group.others (members_supported lines group grouped).0).entries in
    let effect = cond stood.filter.exception allows blocks in
    let some = any_out (λ initiators. holds_on suffixes (condition_for stood stood.filter.kinds initiators) part) (initiators_of stood.filter.domains)
    (holds_some suffixes stood stood.filter.kinds part entries ∙ and_from (has_kind stood.filter.kinds request.kind) (stands suffixes stood part) kinds matched) in
    let Fits : CompiledRule → Type 0 = λ one. Contains one.lines (suc place) × (holds suffixes one.rule part ≡ true) in
    let Ready : Draft → Type 0 = λ draft. Contains draft.standing.lines (suc place) × (holds_on suffixes (condition_for draft.standing (kinds_for draft.standing.filter draft.effect) draft.initiators) part ≡ true) in
    let number : 1 + place ≡ suc place = omega arith in
    let drafts = draft_from Ready lines group effect some.0 g.1 (on_its_types stood.filter request.kind stood.filter.exception refl kinds) some.1 (
      subst (λ (n : ℕ). Contains stood.lines n) number (has_line group stood.lines placed refl g.2),
      ap (λ (kinds : List Kind). holds_on suffixes (condition_for stood kinds some.0) part) (own_kinds stood.filter stood.filter.exception) ∙ some.2,
    ) in
    let found = has_in Fits (with_ids 1 (drafts_in lines)) (has_numbered Ready Fits (λ id draft r. r) 1 (drafts_in lines) drafts) in
    record { one = found.0; there = contains found.0 (with_ids 1 (drafts_in lines)) found.1; origin = found.2.0; so = found.2.1 }

pub lines_hold_by_their_rules : LinesHoldByTheirRules
lines_hold_by_their_rules lines suffixes request zero filter view is fits = cc
lines_hold_by_their_rules lines suffixes request (suc place) filter view is fits = rule_there lines suffixes request place filter view is fits

-- what is done as one filter says is done as another of its kind says
done_alike : (action : Action) (one other : FilterLine) → one.exception ≡ other.exception → one.document ≡ other.document → DoesAs action one → DoesAs action other
done_alike block one other e d h = sym e ∙ h
done_alike (redirect target) one other e d h = h
done_alike allow one other e d h = sym e ∙ h
done_alike upgrade_scheme one other e d h = h
done_alike (modify_headers request response) one other e d h = h
done_alike allow_all_requests one other e d h = (sym e ∙ h.0, sym d ∙ h.1)

pub rules_do_as_their_lines : RulesDoAsTheirLines
unfolding compiled
rules_do_as_their_lines lines =
    let Does : CompiledRule → Type 0 = λ one. All (IsDoneFor lines one.rule.action) one.lines in
    let all = placed_from 1 lines in
    All-from_recursion Does (with_ids 1 (drafts_in lines))
    (each_numbered (IsSourced lines) Does (λ id draft is.
    let group = is.group in
    let stood = (standing group).filter in
    let done = each_in (λ e. DoesAs (action_of e) stood) draft.effect (effects_of stood) is.effect (effects_do stood stood.exception refl) in
    each_line (IsDoneFor lines (action_of draft.effect)) group draft.standing.lines (ap (λ (s : Standing). s.lines) is.stands) (λ placed i.
    let agrees = each_in (λ (one : Placed). Agrees group.first.filter one.filter) placed (group.first ∷ group.others) i (all_agree group (group_likes all group is.is)) in
    record {
      filter = placed.filter;
      there = filter_there lines placed (member_in all group placed is.is i);
      same = done_alike (action_of draft.effect) stood placed.filter (standing_exception group.first group.others ∙ agrees.exception) (standing_document group.first group.others ∙ agrees.document) done;
    })) 1 (drafts_in lines) (each_sourced lines))

-- ---- rules of several lines

-- a list of the domains of filters that have one
domain_listed : (first : FilterLine) (members : List Placed) → AllByRecursion (IsLike first) members → (placed : Placed) → In placed members → (domain : List ℕ) → plain_domain placed.filter.pattern ≡ Some domain
    → In domain (filter_map (λ (one : Placed). plain_domain one.filter.pattern) members)
domain_listed first [] h placed i domain is = absurd i
domain_listed first (one ∷ members) h placed (inl same) domain is =
    subst (λ (o : Option (List ℕ)). In domain (cons_option o (filter_map (λ (p : Placed). plain_domain p.filter.pattern) members))) (sym (ap (λ (p : Placed). plain_domain p.filter.pattern) same ∙ is)) (inl refl)
domain_listed first (one ∷ members) h placed (inr i) domain is =
    subst (λ (o : Option (List ℕ)). In domain (cons_option o (filter_map (λ (p : Placed). plain_domain p.filter.pattern) members))) (sym h.0.plain) (inr (domain_listed first members h.1 placed i domain is))

listed_domain : (first : FilterLine) (members : List Placed) → AllByRecursion (IsLike first) members → (domain : List ℕ) → In domain (filter_map (λ (one : Placed). plain_domain one.filter.pattern) members)
    → Has (λ (one : Placed). plain_domain one.filter.pattern ≡ Some domain) members
listed_domain first [] h domain i = absurd i
listed_domain first (one ∷ members) h domain i =
    by (subst (λ (o : Option (List ℕ)). In domain (cons_option o (filter_map (λ (p : Placed). plain_domain p.filter.pattern) members))) h.0.plain i) (listed_domain first members h.1 domain)
  where
    by : In domain (h.0.domain ∷ filter_map (λ (p : Placed). plain_domain p.filter.pattern) members)
        → (In domain (filter_map (λ (p : Placed). plain_domain p.filter.pattern) members) → Has (λ (p : Placed). plain_domain p.filter.pattern ≡ Some domain) members)
        → Has (λ (p : Placed). plain_domain p.filter.pattern ≡ Some domain) (one ∷ members)
    by (inl same) later = inl (h.0.plain ∙ ap Some same)
    by (inr j) later = inr (later j)

of_domain : (lines : List (List ℕ)) (placed : Placed) (domain : List ℕ) → In placed (placed_from 1 lines) → plain_domain placed.filter.pattern ≡ Some domain → IsOfDomain lines domain placed.line
of_domain lines placed domain i is = record { filter = placed.filter; there = filter_there lines placed i; pattern = (has_domain placed.filter.pattern domain is).is }

several : (lines : List (List ℕ)) (first : Placed) (others : List Placed) (one : CompiledRule) → IsGroup (placed_from 1 lines) (record { first = first; others = others })
    → one.lines ≡ (standing_with first others).lines → one.rule.condition.hosts ≡ (standing_with first others).hosts → 1 < length one.lines → NamesItsLines lines one
several lines first [] one is same hosts more = absurd (omega (arith, more, ap length same))
several lines first (other ∷ others) one is same hosts more =
    let group : Group = record { first = first; others = other ∷ others } in
    let all = placed_from 1 lines in
    let likes = all_like first other others (group_likes all group is) in
    let domains = filter_map (λ (p : Placed). plain_domain p.filter.pattern) (first ∷ other ∷ others) in
    record {
      hosts = ascending domains;
      given = hosts;
      each_line = each_line (HasDomainOf lines (ascending domains)) group one.lines same (λ placed i.
          let like = each_in (IsLike first.filter) placed (first ∷ other ∷ others) i likes in
          record {
            domain = like.domain;
            listed = contains like.domain (ascending domains) (has_ascending (λ d. d ≡ like.domain) domains (domain_listed first.filter (first ∷ other ∷ others) likes placed i like.domain like.plain));
            of_line = of_domain lines placed like.domain (member_in all group placed is i) like.plain;
          });
      each_host = All-from_recursion (HasLineOf lines one.lines) (ascending domains) (in_each (HasLineOf lines one.lines) (ascending domains) (λ domain i.
          let m = has_in (λ (p : Placed). plain_domain p.filter.pattern ≡ Some domain) (first ∷ other ∷ others) (listed_domain first.filter (first ∷ other ∷ others) likes domain (had_ascending (λ d. d ≡ domain) domains i)) in
          record { number = m.0.line; origin = has_line group one.lines m.0 same m.1; of_line = of_domain lines m.0 domain (member_in all group m.0 is m.1) m.2 }));
    }

pub rules_name_their_lines : RulesNameTheirLines
unfolding compiled
rules_name_their_lines lines =
    let Names : CompiledRule → Type 0 = λ one. 1 < length one.lines → NamesItsLines lines one in
    All-from_recursion Names (with_ids 1 (drafts_in lines))
    (each_numbered (IsSourced lines) Names (λ id draft is more.
    several lines is.group.first is.group.others (one_of id draft) is.is (ap (λ (s : Standing). s.lines) is.stands) (ap (λ (s : Standing). s.hosts) is.stands) more) 1 (drafts_in lines) (each_sourced lines))

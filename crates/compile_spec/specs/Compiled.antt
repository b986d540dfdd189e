-- The rules into which a filter list is compiled: filters of Adblock Plus, "How to write filters", as rules of Chrome's
-- reference of declarativeNetRequest. What they must mean is said by `list_spec`, `specs/Says.antt`, which knows no
-- rules.
use Rattle.std.specs.Prelude.{ℕ, ◌+◌, List, [], ◌∷◌, ◌++◌, map, filter, Bool, false, not, Option, Some, None, if◌then◌else◌}
use Rattle.std.specs.List.{flat_map, filter_map}
use Rattle.dnr_base.specs.declared.kind.Kind.{Kind}
use Rattle.dnr_base.specs.declared.kind.Kind.TheVariants.{MainFrame, SubFrame}
use Rattle.rule_spec.specs.Rule.{Condition, plain_condition, Action, block, allow, allow_all_requests, Rule}
use Rattle.list_spec.specs.LineKind.{FilterPattern, every_url, plain, regex, FilterLine, line_of}
use Rattle.list_spec.specs.Says.{filter_in}
use Rattle.compile_spec.specs.Alike.{plain_domain, ascending, alike}
use Rattle.compile_spec.specs.Initiators.{Initiators, initiators_of}

-- the most rules of a list
abbrev pub max_compiled : ℕ
max_compiled = 300000

-- ---- the filters of a list

-- a filter and the number of its line
pub record Placed : Type 0 where
  pub line : ℕ
  pub filter : FilterLine

abbrev pub and_filter : ℕ → Option FilterLine → List Placed → List Placed
and_filter number None later = later
and_filter number (Some filter) later = record { line = number; filter = filter } ∷ later

-- the filters of these lines, of which the first has this number
abbrev pub placed_from : ℕ → List (List ℕ) → List Placed
placed_from number [] = []
placed_from number (line ∷ lines) = and_filter number (filter_in (line_of line)) (placed_from (number + 1) lines)

-- a filter with those behind it that are alike
pub record Group : Type 0 where
  pub first : Placed
  pub others : List Placed

abbrev pub alike_to : Placed → Placed → Bool
alike_to one other = alike one.filter other.filter

-- each filter with those that are alike, which have no group of their own
abbrev pub groups_of : List Placed → List Group
groups_of [] = []
groups_of (one ∷ rest) =
    record { first = one; others = filter (alike_to one) rest } ∷ filter (λ group. not (alike_to one group.first)) (groups_of rest)

-- Filters that stand as one: the lines that they come from, and what rules have of them. `hosts` are those of the
-- requests that they are for, if a list of hosts says so.
pub record Standing : Type 0 where
  pub lines : List ℕ
  pub filter : FilterLine
  pub hosts : Option (List (List ℕ))

-- what stands for a group: a filter alone as it is, and several as the first of them, but with all their domains in
-- place of its pattern, in which no case counts
abbrev pub standing_with : Placed → List Placed → Standing
standing_with first [] = record { lines = first.line ∷ []; filter = first.filter; hosts = None }
standing_with first (other ∷ others) = record {
  lines = map (λ one. one.line) (first ∷ other ∷ others);
  filter = record first.filter { pattern = every_url; match_case = false };
  hosts = Some (ascending (filter_map (λ one. plain_domain one.filter.pattern) (first ∷ other ∷ others)));
}

abbrev pub standing : Group → Standing
standing group = standing_with group.first group.others

-- ---- what a filter does

-- a filter blocks requests, an exception allows them, and an exception for all that a page loads exempts the page
pub data Effect : Type 0 where
  blocks : Effect
  allows : Effect
  exempts : Effect

abbrev pub action_of : Effect → Action
action_of blocks = block
action_of allows = allow
action_of exempts = allow_all_requests

-- an exception overrules every blocking filter, so it goes first
abbrev pub priority_of : Effect → ℕ
priority_of blocks = 1
priority_of allows = 2
priority_of exempts = 3

-- pages are what `main_frame` and `sub_frame` ask for
abbrev pub kinds_for : FilterLine → Effect → List Kind
kinds_for filter blocks = filter.kinds
kinds_for filter allows = filter.kinds
kinds_for filter exempts = MainFrame ∷ SubFrame ∷ []

-- an effect on the filter's types, none where it has none
abbrev pub on_types : List Kind → Effect → List Effect
on_types [] effect = []
on_types (kind ∷ kinds) effect = effect ∷ []

abbrev pub on_pages : Bool → List Effect
on_pages document = if document then exempts ∷ [] else []

abbrev pub effects_of : FilterLine → List Effect
effects_of filter =
    if filter.exception then on_types filter.kinds allows ++ on_pages filter.document else on_types filter.kinds blocks

-- ---- the condition of a rule

abbrev pub url_filter_of : FilterPattern → Option (List ℕ)
url_filter_of every_url = None
url_filter_of (plain pattern) = Some pattern
url_filter_of (regex pattern) = None

abbrev pub regex_filter_of : FilterPattern → Option (List ℕ)
regex_filter_of every_url = None
regex_filter_of (plain pattern) = None
regex_filter_of (regex pattern) = Some pattern

-- the filter's pattern and party, these hosts, these types, and these initiators
abbrev pub condition_of : FilterLine → Option (List (List ℕ)) → List Kind → Initiators → Condition
condition_of filter hosts kinds initiators = record (plain_condition kinds) {
  url_filter = url_filter_of filter.pattern;
  regex_filter = regex_filter_of filter.pattern;
  case_sensitive = filter.match_case;
  initiators = initiators.among;
  not_initiators = initiators.not_among;
  hosts = hosts;
  third_party = filter.third_party;
}

-- ---- the rules of a filter

-- A rule that has no id yet, and what it stands for.
pub record Draft : Type 0 where
  pub standing : Standing
  pub effect : Effect
  pub initiators : Initiators

abbrev pub drafts_with : Standing → Effect → List Draft
drafts_with standing effect =
    map (λ initiators. record { standing = standing; effect = effect; initiators = initiators }) (initiators_of standing.filter.domains)

-- the rules of filters that stand as one: all of their first effect before those of their second
abbrev pub drafts_of : Standing → List Draft
drafts_of standing = flat_map (drafts_with standing) (effects_of standing.filter)

-- ---- the rules of a list

-- the rules of the filters of a list, in the order of the first lines
abbrev pub drafts_in : List (List ℕ) → List Draft
drafts_in lines = flat_map (λ group. drafts_of (standing group)) (groups_of (placed_from 1 lines))

-- A rule with the lines of the list that it comes from, in ascending order.
pub record CompiledRule : Type 0 where
  pub rule : Rule
  pub lines : List ℕ

abbrev pub rule_of : ℕ → Draft → Rule
rule_of id draft = record {
  id = id;
  priority = priority_of draft.effect;
  condition = condition_of draft.standing.filter draft.standing.hosts (kinds_for draft.standing.filter draft.effect) draft.initiators;
  action = action_of draft.effect;
}

-- the rules with their ids, of which the first is this one
abbrev pub with_ids : ℕ → List Draft → List CompiledRule
with_ids id [] = []
with_ids id (draft ∷ drafts) = record { rule = rule_of id draft; lines = draft.standing.lines } ∷ with_ids (id + 1) drafts

-- the rules of a list, with ids from 1
unfoldable pub compiled : List (List ℕ) → List CompiledRule
compiled lines = with_ids 1 (drafts_in lines)

abbrev pub rules_in : List CompiledRule → List Rule
rules_in rules = map (λ one. one.rule) rules

abbrev pub origins_in : List CompiledRule → List (List ℕ)
origins_in rules = map (λ one. one.lines) rules

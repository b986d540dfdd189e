-- What holds of the rules of a filter list. The rules are those of `compile_spec`, `specs/Compiled.antt`, and what the
-- list says is that of `list_spec`, `specs/Says.antt`, by Adblock Plus, "How to write filters".
use Rattle.std.specs.Bool.{Decides}
use Rattle.std.specs.Prelude.{◌≡◌, ℕ, ◌+◌, ◌<◌, ◌≤◌, List, [], ◌∷◌, length, slice_get, true, IsTrue, All, Some}
use Rattle.std.specs.List.{Contains, AllPairs}
use Rattle.dnr_base.specs.declared.request.Request.{Request}
use Rattle.dnr_base.specs.Request.{Part, own_part}
use Rattle.dnr_base.specs.View.{IsView}
use Rattle.dnr_spec.specs.Suffixes.{SuffixRule}
use Rattle.rule_spec.specs.declared.outcome.Outcome.TheVariants as outcome
use Rattle.rule_spec.specs.Holds.{holds}
use Rattle.rule_spec.specs.IsRule.{IsRule, is_number}
use Rattle.rule_spec.specs.Scan.{scan}
use Rattle.rule_spec.specs.State.{State}
use Rattle.list_spec.specs.declared.reason.Reason.{Reason}
use Rattle.list_spec.specs.LineKind.{FilterLine}
use Rattle.list_spec.specs.Says.{matches, fits_request, says}
use Rattle.compile_spec.specs.Compiled.{max_compiled, placed_from, Group, groups_of, standing, Effect, drafts_with, rule_of, CompiledRule, compiled}
use Rattle.compile_spec.specs.Report.{report}
use Rattle.compile_spec.specs.Installed.{list_extension}
use Rattle.compile_laws.specs.Origins.{filter_at, reason_at, HasViews, HasOrigin, HasRule, IsDoneFor, NamesItsLines}

-- ---- each rule is a rule

-- whatever the filters of a list do that stand as one, their rules keep what every rule keeps
abbrev pub GivesRules : Group → Type 0
GivesRules group = (effect : Effect) (id : ℕ) → IsTrue (is_number id) → All (λ draft. IsRule (rule_of id draft)) (drafts_with (standing group) effect)

abbrev pub GroupsGiveRules : Type 0
GroupsGiveRules = (lines : List (List ℕ)) → All GivesRules (groups_of (placed_from 1 lines))

-- and so does each rule of a list within the limit
abbrev pub ListsGiveRules : Type 0
ListsGiveRules = (lines : List (List ℕ)) → length (compiled lines) ≤ max_compiled → All (λ one. IsRule one.rule) (compiled lines)

-- ids count from 1
abbrev pub RulesAreCounted : Type 0
RulesAreCounted = (lines : List (List ℕ)) (place : ℕ) (one : CompiledRule) → slice_get (compiled lines) place ≡ Some one → one.rule.id ≡ place + 1

-- ---- the report

-- the report names a line with a reason exactly where the line gives nothing for that reason, each once, in their order
pub record ReportIsWhole : Type 0 where
  pub named : (lines : List (List ℕ)) (number : ℕ) (reason : Reason) → Contains (report lines) (record { line = number; reason = reason }) → reason_at lines number ≡ Some reason
  pub whole : (lines : List (List ℕ)) (number : ℕ) (reason : Reason) → reason_at lines number ≡ Some reason → Contains (report lines) (record { line = number; reason = reason })
  pub order : (lines : List (List ℕ)) → AllPairs (λ first second. first.line < second.line) (report lines)

-- ---- rules and their lines

-- The parts of a request have URLs of which views were made: see `dnr_base`, `specs/View.antt`.

-- where a rule of the list holds on a part, a line that it comes from matches there
abbrev pub RulesHoldByTheirLines : Type 0
RulesHoldByTheirLines =
    (lines : List (List ℕ)) (suffixes : List SuffixRule) (part : Part) → IsView part.view
    → All (λ one. holds suffixes one.rule part ≡ true → HasOrigin lines one (λ filter. matches suffixes filter part ≡ true)) (compiled lines)

-- where a supported filter fits a request, a rule that comes from its line holds on the request
abbrev pub LinesHoldByTheirRules : Type 0
LinesHoldByTheirRules =
    (lines : List (List ℕ)) (suffixes : List SuffixRule) (request : Request) (number : ℕ) (filter : FilterLine) → IsView request.view → filter_at lines number ≡ Some filter
    → fits_request suffixes request filter ≡ true → HasRule lines number (λ one. holds suffixes one.rule (own_part request) ≡ true)

-- each line that a rule comes from says what the rule does
abbrev pub RulesDoAsTheirLines : Type 0
RulesDoAsTheirLines = (lines : List (List ℕ)) → All (λ one. All (IsDoneFor lines one.rule.action) one.lines) (compiled lines)

-- a rule that several lines give is for requests to hosts, each of which is the plain domain of one of these lines
abbrev pub RulesNameTheirLines : Type 0
RulesNameTheirLines = (lines : List (List ℕ)) → All (λ one. 1 < length one.lines → NamesItsLines lines one) (compiled lines)

-- ---- what a list blocks

-- The list says that a request is blocked exactly where the scan blocks it, if the extension of the list is the only one.
-- The ids of the rules decide nothing here, so it holds of lists beyond the limit too.
abbrev pub ListsBlockWhatTheySay : Type 0
ListsBlockWhatTheySay =
    (name : List ℕ) (lines : List (List ℕ)) (suffixes : List SuffixRule) (state : State) (request : Request) → HasViews request
    → state.extensions ≡ list_extension name (compiled lines) ∷ [] → Decides (says lines suffixes request) ((scan suffixes state request).outcome ≡ outcome.Block)

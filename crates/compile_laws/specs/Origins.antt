-- The lines that a rule of a filter list comes from.
use Rattle.std.specs.Prelude.{◌≡◌, ℕ, List, ◌++◌, codes, true, false, All, Option, Some, IfSome, option_and_then}
use Rattle.std.specs.List.{Contains}
use Rattle.dnr_base.specs.declared.request.Request.{Request}
use Rattle.dnr_base.specs.View.{IsView}
use Rattle.rule_spec.specs.Rule.{Action, block, redirect, allow, upgrade_scheme, modify_headers, allow_all_requests}
use Rattle.list_spec.specs.declared.reason.Reason.{Reason}
use Rattle.list_spec.specs.LineKind.{FilterLine, plain, line_of}
use Rattle.list_spec.specs.Says.{filter_in, reason_of}
use Rattle.compile_spec.specs.Compiled.{CompiledRule, compiled}
use Rattle.compile_spec.specs.Report.{line_at}

-- the supported filter in the line of this number, if there is one
abbrev pub filter_at : List (List ℕ) → ℕ → Option FilterLine
filter_at lines number = option_and_then (λ line. filter_in (line_of line)) (line_at lines number)

-- why the line of this number gives nothing, although it is neither blank nor a comment nor a header, if it does so
abbrev pub reason_at : List (List ℕ) → ℕ → Option Reason
reason_at lines number = option_and_then (λ line. reason_of (line_of line)) (line_at lines number)

-- some line that the rule comes from is a supported filter of which P holds
pub record HasOrigin (lines : List (List ℕ)) (one : CompiledRule) (P : FilterLine → Type 0) : Type 0 where
  pub number : ℕ
  pub filter : FilterLine
  pub origin : Contains one.lines number
  pub there : filter_at lines number ≡ Some filter
  pub so : P filter

-- some rule of the list that comes from the line of this number is one of which P holds
pub record HasRule (lines : List (List ℕ)) (number : ℕ) (P : CompiledRule → Type 0) : Type 0 where
  pub one : CompiledRule
  pub there : Contains (compiled lines) one
  pub origin : Contains one.lines number
  pub so : P one

-- a rule that blocks stands for a blocking filter, one that allows for an exception, and one that exempts a page for an
-- exception for pages; no rule does anything else
abbrev pub DoesAs : Action → FilterLine → Type 0
DoesAs block filter = filter.exception ≡ false
DoesAs (redirect target) filter = ⊥
DoesAs allow filter = filter.exception ≡ true
DoesAs upgrade_scheme filter = ⊥
DoesAs (modify_headers request response) filter = ⊥
DoesAs allow_all_requests filter = (filter.exception ≡ true) × (filter.document ≡ true)

-- the line of this number is a supported filter, and the action does as it says
pub record IsDoneFor (lines : List (List ℕ)) (action : Action) (number : ℕ) : Type 0 where
  pub filter : FilterLine
  pub there : filter_at lines number ≡ Some filter
  pub same : DoesAs action filter

-- ---- requests

-- the URLs of the request and of the frames in which it is made are those of views
pub record HasViews (request : Request) : Type 0 where
  pub own : IsView request.view
  pub frames : All (λ frame. IfSome frame.view IsView) request.frames

-- ---- rules of several lines

-- the line of this number is a supported filter with the pattern `||`, this domain, and `^`
pub record IsOfDomain (lines : List (List ℕ)) (domain : List ℕ) (number : ℕ) : Type 0 where
  pub filter : FilterLine
  pub there : filter_at lines number ≡ Some filter
  pub pattern : filter.pattern ≡ plain (codes "||" ++ domain ++ codes "^")

-- a domain of the list is that of the line
pub record HasDomainOf (lines : List (List ℕ)) (hosts : List (List ℕ)) (number : ℕ) : Type 0 where
  pub domain : List ℕ
  pub listed : Contains hosts domain
  pub of_line : IsOfDomain lines domain number

-- one of these lines has this domain
pub record HasLineOf (lines : List (List ℕ)) (numbers : List ℕ) (domain : List ℕ) : Type 0 where
  pub number : ℕ
  pub origin : Contains numbers number
  pub of_line : IsOfDomain lines domain number

-- the rule has a list of hosts, in which each of its lines finds its domain, and each domain has such a line
pub record NamesItsLines (lines : List (List ℕ)) (one : CompiledRule) : Type 0 where
  pub hosts : List (List ℕ)
  pub given : one.rule.condition.hosts ≡ Some hosts
  pub each_line : All (HasDomainOf lines hosts) one.lines
  pub each_host : All (HasLineOf lines one.lines) hosts

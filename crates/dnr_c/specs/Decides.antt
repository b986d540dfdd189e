-- What becomes of a request that is given by its parts, and how that is told.
use Rattle.std.specs.Prelude.{◌≡◌, ℕ, List, Option, Some, None, Err}
use Rattle.dnr_base.specs.declared.rule_name.RuleName.{RuleName}
use Rattle.line_spec.specs.declared.command_path.CommandPath.{CommandPath}
use Rattle.line_spec.specs.declared.command_path.CommandPath.TheVariants as path
use Rattle.line_spec.specs.declared.line_fault.LineFault.{LineFault}
use Rattle.line_spec.specs.declared.line_fault.LineFault.TheVariants.{BadCommand, BadUrl}
use Rattle.request_given.specs.Reads.{request_of}
use Rattle.request_given.specs.declared.given.GivenRequest.{GivenRequest}
use Rattle.rule_spec.specs.PatternRule.{NamesPattern}
use Rattle.rule_spec.specs.Scan.{Verdict}
use Rattle.verdict_shown.specs.Shown.{learnt_of, Shows, TakesMore}
use Rattle.verdict_shown.specs.declared.shown.ShownChange.{ShownChange}
use Rattle.verdict_shown.specs.declared.shown.ShownVerdict.{ShownVerdict}
use Rattle.engine.specs.Decided.{IsDecided, FinderRose}
use Rattle.engine.specs.Held.{Held}
use Rattle.dnr_c.specs.Codes as codes

-- ---- verdicts

-- the parts show the verdict, after so many updates
abbrev pub IsShown : ℕ → Verdict → ShownVerdict → List ℕ → List ShownChange → Type 0
IsShown generation verdict shown out changes = Shows (learnt_of generation verdict) shown out changes

abbrev pub TakesMoreFor : ℕ → Verdict → ShownVerdict → ℕ → ℕ → Type 0
TakesMoreFor generation verdict shown room most = TakesMore (learnt_of generation verdict) shown room most

-- the parts show the verdict of the scan on this request
pub record Decided (held : Held) (request : GivenRequest) (shown : ShownVerdict) (out : List ℕ) (changes : List ShownChange) : Type 0 where
  pub verdict : Verdict
  pub decided : IsDecided held (request_of 1 request) verdict
  pub shows : IsShown held.state.count verdict shown out changes

-- they take more than there is room for
pub record Lacks (held : Held) (request : GivenRequest) (shown : ShownVerdict) (room most : ℕ) : Type 0 where
  pub verdict : Verdict
  pub decided : IsDecided held (request_of 1 request) verdict
  pub more : TakesMoreFor held.state.count verdict shown room most

-- the pattern host failed at a rule in force, and its count rose
pub record Failed (before after : Held) : Type 0 where
  pub rule : RuleName
  pub blamed : NamesPattern before.state rule
  pub rose : FinderRose before.faults after.faults

-- ---- the same of the engine of a seat, which a closed seat has not

abbrev pub DecidedBy : Option Held → GivenRequest → ShownVerdict → List ℕ → List ShownChange → Type 0
DecidedBy (Some held) request shown out changes = Decided held request shown out changes
DecidedBy None request shown out changes = ⊥

abbrev pub LacksPlace : Option Held → GivenRequest → ShownVerdict → ℕ → ℕ → Type 0
LacksPlace (Some held) request shown room most = Lacks held request shown room most
LacksPlace None request shown room most = ⊥

abbrev pub HostFailed : Option Held → Option Held → Type 0
HostFailed (Some before) (Some after) = Failed before after
HostFailed (Some before) None = ⊥
HostFailed None after = ⊥

-- ---- requests at fault

-- the code of a part
abbrev pub part_code : CommandPath → ℕ
part_code path.Url = codes.bad_url
part_code path.Kind = codes.bad_type
part_code path.Initiator = codes.bad_initiator
part_code path.Method = codes.bad_method
part_code path.Tab = codes.bad_tab
part_code path.Frames = codes.bad_frames
part_code path.RequestHeaders = codes.bad_request_headers
part_code path.ResponseHeaders = codes.bad_response_headers
part_code _ = codes.bad_request

abbrev pub fault_code : LineFault → ℕ
fault_code (BadCommand part) = part_code part
fault_code (BadUrl part why) = part_code part
fault_code _ = codes.bad_request

-- the code tells which part of the request is the first at fault
pub record IsBad (request : GivenRequest) (code : ℕ) : Type 0 where
  pub fault : LineFault
  pub read : request_of 1 request ≡ Err fault
  pub told : code ≡ fault_code fault

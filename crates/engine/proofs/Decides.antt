-- What becomes of a request that is given by its parts.
use Rattle.std.proofs.Common.{◌≡◌, ◌≢◌, ℕ, ◌≤◌, ◌<◌, ◌^◌, List, Result, Ok, Err, arith, refl}
use Rattle.dnr_base.specs.Faults.{Rose}
use Rattle.dnr_base.specs.declared.request.Request.{Request}
use Rattle.dnr_base.specs.declared.rule_name.RuleName.{RuleName}
use Rattle.dnr_spec.specs.Suffixes.{SuffixRule}
use Rattle.generation.specs.Refused.{Ends}
use Rattle.generation.specs.declared.refusal.DecideRefusal.{DecideRefusal}
use Rattle.generation.specs.declared.refusal.DecideRefusal.TheVariants.{HostFault, NoMemory}
use Rattle.line_spec.specs.IsFault.{IsFaultOf}
use Rattle.line_spec.specs.declared.line_fault.LineFault.{LineFault}
use Rattle.line_spec.specs.declared.line_fault.LineFault.TheVariants as line
use Rattle.rule_spec.specs.Scan.{Verdict, scan}
use Rattle.rule_spec.specs.State.{State}
use Rattle.engine.specs.Decided.{IsDecidedBy}

pub decided_so : (suffixes : List SuffixRule) (state : State) (read : Result Request LineFault) (request : Request) (verdict : Verdict)
    → read ≡ Ok request → verdict ≡ scan suffixes state request → IsDecidedBy suffixes state read verdict
decided_so suffixes state read request verdict reads same = record { request = request; reads = reads; same = same }

-- a count that rose has not fallen
pub ends_later : {T : Type 0} (blamed : RuleName → Type 0) (before now : ℕ) (result : Result T DecideRefusal) → before < 2 ^ 64 → Ends blamed before now result → before ≤ now
ends_later blamed before now (Ok x) small ends = omega (arith, ends)
ends_later blamed before now (Err (HostFault name)) small ends = let rose = ends.0 in omega (arith, rose, small)
ends_later blamed before now (Err NoMemory) small ends = omega (arith, ends)

-- a part at fault
pub bad_so : (read : Result Request LineFault) (fault : LineFault) → fault ≢ line.NoMemory → IsFaultOf read fault → read ≡ Err fault
bad_so read (line.RuleRefused refusal) named h = absurd h
bad_so read (line.InBatch place refusal) named h = absurd h
bad_so read line.NoMemory named h = absurd (named refl)
bad_so read fault named h = h

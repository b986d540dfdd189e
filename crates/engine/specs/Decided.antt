-- What becomes of a request that is given by its parts.
use Rattle.std.specs.Prelude.{◌≡◌, ℕ, List, [], ◌∷◌, Result, Ok, Err}
use Rattle.dnr_base.specs.Faults.{Rose}
use Rattle.dnr_base.specs.declared.request.Request.{Request}
use Rattle.dnr_spec.specs.Suffixes.{SuffixRule}
use Rattle.line_spec.specs.declared.line_fault.LineFault.{LineFault}
use Rattle.rule_spec.specs.PatternRule.{NamesPattern}
use Rattle.rule_spec.specs.Scan.{Verdict, scan}
use Rattle.rule_spec.specs.State.{State}
use Rattle.engine.specs.Held.{Held}
use Rattle.engine.specs.declared.deciding.Undecided.{Undecided}
use Rattle.engine.specs.declared.deciding.Undecided.TheVariants.{Bad, HostFault, NoMemory}

-- the parts are those of a request, and this is the verdict of the scan on it
pub record IsDecidedBy (suffixes : List SuffixRule) (state : State) (read : Result Request LineFault) (verdict : Verdict) : Type 0 where
  pub request : Request
  pub reads : read ≡ Ok request
  pub same : verdict ≡ scan suffixes state request

abbrev pub IsDecided : Held → Result Request LineFault → Verdict → Type 0
IsDecided held read verdict = IsDecidedBy held.suffixes held.state read verdict

-- the host failed at this rule in force, and its count rose
abbrev pub Fails : State → ℕ → ℕ → Undecided → Type 0
Fails state before now (Bad fault) = ⊥
Fails state before now (HostFault rule) = NamesPattern state rule × Rose before now
Fails state before now NoMemory = Unit {0}

-- why there is no verdict: a part is at fault, or the host failed
abbrev pub IsUndecidedBy : State → Result Request LineFault → ℕ → ℕ → Undecided → Type 0
IsUndecidedBy state read before now (Bad fault) = read ≡ Err fault
IsUndecidedBy state read before now (HostFault rule) = NamesPattern state rule × Rose before now
IsUndecidedBy state read before now NoMemory = Unit {0}

-- the count of the host rose that finds matches
abbrev pub FinderRose : List ℕ → List ℕ → Type 0
FinderRose (checker ∷ finder ∷ []) (checks ∷ finds ∷ []) = Rose finder finds
FinderRose before now = ⊥

abbrev pub IsUndecided : Held → Result Request LineFault → List ℕ → Undecided → Type 0
IsUndecided held read faults (Bad fault) = read ≡ Err fault
IsUndecided held read faults (HostFault rule) = NamesPattern held.state rule × FinderRose held.faults faults
IsUndecided held read faults NoMemory = Unit {0}

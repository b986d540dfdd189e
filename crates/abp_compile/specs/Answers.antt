-- Why a list is not compiled.
use Rattle.std.specs.Prelude.{◌≡◌, ℕ, ◌<◌, List, length, Result, Ok, Err}
use Rattle.compile_spec.specs.Compiled.{CompiledRule, max_compiled}
use Rattle.compile_spec.specs.Report.{StopsAtLine}
use Rattle.abp_compile.specs.declared.report.CompileRefusal.{CompileRefusal}
use Rattle.abp_compile.specs.declared.report.CompileRefusal.TheVariants.{TooManyRules, HostFault, NoMemory}

-- the count is that of the rules, which are too many
abbrev pub CountsTooMany : List CompiledRule → CompileRefusal → Type 0
CountsTooMany rules (TooManyRules count) = (max_compiled < length rules) × (count ≡ length rules)
CountsTooMany rules (HostFault line) = Unit {0}
CountsTooMany rules NoMemory = Unit {0}

-- the line is one at which the host is asked
abbrev pub StopsAt : List (List ℕ) → CompileRefusal → Type 0
StopsAt lines (TooManyRules count) = Unit {0}
StopsAt lines (HostFault line) = StopsAtLine lines line
StopsAt lines NoMemory = Unit {0}

-- the host's count of faults stays, unless the answer is a fault
abbrev pub IsCalm : {T : Type 0} → ℕ → ℕ → Result T CompileRefusal → Type 0
IsCalm before now (Ok x) = now ≡ before
IsCalm before now (Err (TooManyRules count)) = now ≡ before
IsCalm before now (Err (HostFault line)) = Unit {0}
IsCalm before now (Err NoMemory) = now ≡ before

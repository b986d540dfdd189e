-- What a test leaves of a host's count of faults.
use Rattle.std.specs.Prelude.{◌≡◌, ℕ, Result, Ok, Err}
use Rattle.rule_match.specs.declared.refusal.MatchRefusal.{MatchRefusal}
use Rattle.rule_match.specs.declared.refusal.MatchRefusal.TheVariants.{HostFault, NoMemory}

-- the count of faults stays, unless the test answers a fault
abbrev pub IsCalm : {T : Type 0} → ℕ → ℕ → Result T MatchRefusal → Type 0
IsCalm before now (Ok x) = now ≡ before
IsCalm before now (Err HostFault) = Unit {0}
IsCalm before now (Err NoMemory) = now ≡ before

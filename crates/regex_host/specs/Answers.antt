-- What a call of a host leaves as it was.
use Rattle.std.specs.Prelude.{◌≡◌, ℕ, List, Bool, true, false, Option, Result, Ok, Err}
use Rattle.dnr_base.specs.declared.span.Span.{Span}
use Rattle.regex_host.specs.declared.host.HostRefusal.{HostRefusal}
use Rattle.regex_host.specs.declared.host.HostRefusal.TheVariants.{NoPattern, HostFault, NoMemory}

-- the count of faults stays, unless the call answers a fault
abbrev pub IsCalm : {T : Type 0} → ℕ → ℕ → Result T HostRefusal → Type 0
IsCalm before now (Ok x) = now ≡ before
IsCalm before now (Err NoPattern) = now ≡ before
IsCalm before now (Err HostFault) = Unit {0}
IsCalm before now (Err NoMemory) = now ≡ before

-- the places stay, unless the call answers that there is a match
abbrev pub KeepsPlaces : {E : Type 0} → Result Bool E → List (Option Span) → List (Option Span) → Type 0
KeepsPlaces (Ok true) before now = Unit {0}
KeepsPlaces (Ok false) before now = now ≡ before
KeepsPlaces (Err refusal) before now = now ≡ before

-- What a host says of a pattern that is not built.
use Rattle.std.specs.Prelude.{◌≡◌, ℕ, ◌≤◌}
use Rattle.dnr_base.specs.Faults.{Rose}
use Rattle.regex_host.specs.declared.groups.BuildRefusal.{BuildRefusal}
use Rattle.regex_host.specs.declared.groups.BuildRefusal.TheVariants as build
use Rattle.regex_host.specs.declared.host.HostRefusal.{HostRefusal}
use Rattle.regex_host.specs.declared.host.HostRefusal.TheVariants.{NoPattern, HostFault, NoMemory}

-- the refusal, and the count of faults before it and after it, which rises for a pattern that is too big alone
abbrev pub IsRefusedAs : BuildRefusal → HostRefusal → ℕ → ℕ → Type 0
IsRefusedAs build.NoPattern refusal before now = (refusal ≡ NoPattern) × (now ≡ before)
IsRefusedAs build.TooBig refusal before now = (refusal ≡ HostFault) × (before ≤ now) × Rose before now
IsRefusedAs build.NoMemory refusal before now = (refusal ≡ NoMemory) × (now ≡ before)

-- Why there is no generation to begin with.
use Rattle.std.specs.Prelude.{◌≡◌, ◌≢◌, ℕ, List, Result, Err}
use Rattle.rule_spec.specs.State.{State}
use Rattle.update_spec.specs.Entries.{RefusedInstall}
use Rattle.update_spec.specs.declared.refusal.Refusal.{Refusal}
use Rattle.update_spec.specs.declared.refusal.Refusal.TheVariants as cause
use Rattle.generation.specs.declared.first.FirstRefusal.{FirstRefusal}
use Rattle.generation.specs.declared.first.FirstRefusal.TheVariants.{Refused, NoMemory}

-- the answer where the store refuses the extension of this name so
abbrev pub IsRefusedSo : List ℕ → Refusal → FirstRefusal → Type 0
IsRefusedSo name cause.NoMemory answer = answer ≡ NoMemory
IsRefusedSo name refusal answer = answer ≡ Refused name refusal

-- this installation is refused for this cause, or memory ran out
abbrev pub IsFirstRefusal : Result State RefusedInstall → FirstRefusal → Type 0
IsFirstRefusal opened (Refused name refusal) =
    (opened ≡ Err (record { extension = name; cause = refusal })) × (refusal ≢ cause.NoMemory)
IsFirstRefusal opened NoMemory = Unit {0}

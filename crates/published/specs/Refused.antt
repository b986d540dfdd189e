-- How a pass's call ends, after the entries by which it answers.
use Rattle.std.specs.Prelude.{ℕ, ◌≡◌, length, List, Result, Ok, Err}
use Rattle.dnr_base.specs.Faults.{Rose}
use Rattle.rule_spec.specs.PatternRule.{NamesPattern}
use Rattle.generation.specs.Basis.{Basis}
use Rattle.update_spec.specs.Entries.{Entry, replay}
use Rattle.published.specs.declared.answer.ReadRefusal.{ReadRefusal}
use Rattle.published.specs.declared.answer.ReadRefusal.TheVariants.{HostFault, NotEntered, NoMemory}

-- A fault has the count of the entries, and names a rule that is in force after them. A host's count of faults rises
-- only where its fault is answered.
abbrev pub Refuses : Basis → List Entry → ℕ → ℕ → ReadRefusal → Type 0
Refuses opening list before now (HostFault number name) =
    (number ≡ length list) × Rose before now × NamesPattern (replay opening.state list) name
Refuses opening list before now NotEntered = now ≡ before
Refuses opening list before now NoMemory = now ≡ before

abbrev pub EndsAfter : {T : Type 0} → Basis → List Entry → ℕ → ℕ → Result T ReadRefusal → Type 0
EndsAfter opening list before now (Ok x) = now ≡ before
EndsAfter opening list before now (Err refusal) = Refuses opening list before now refusal

-- What a clause sees of an update, and of the answers of who judges it.
use Rattle.std.specs.Prelude.{◌≡◌, ℕ, List, map, Option, Some, None, Result, Ok, Err}
use Rattle.std.specs.Arc.{arc_value}
use Rattle.std.specs.declared.vec.Vec.{Vec}
use Rattle.std.specs.declared.alloc.Global.{Global}
use Rattle.rule_spec.specs.State.{State}
use Rattle.rule_spec.specs.State as spec_state
use Rattle.update_spec.specs.declared.refusal.Refusal.{Refusal}
use Rattle.update_spec.specs.declared.refusal.Refusal.TheVariants.{NoMemory}
use Rattle.update_spec.specs.Update as spec
use Rattle.update_spec.specs.Judge.{judge_update}
use Rattle.ruleset_store.specs.declared.update.Update.{Update}
use Rattle.ruleset_store.specs.declared.update.Update.TheVariants.{Dynamic, Session, Rulesets, Static, Install, Uninstall}
use Rattle.ruleset_store.specs.declared.update.BatchRefusal.{BatchRefusal}
use Rattle.ruleset_store.specs.Installed.{put_first}

abbrev pub update_seen : Update → spec.Update
update_seen (Dynamic name remove add) = spec.dynamic name remove add
update_seen (Session name remove add) = spec.session name remove add
update_seen (Rulesets name disable enable) = spec.rulesets name disable enable
update_seen (Static name set disable enable) = spec.static name set disable enable
update_seen (Install extension) = spec.install (arc_value extension)
update_seen (Uninstall name) = spec.uninstall name

-- the definition says so, or memory ran out
abbrev pub IsRefusalOf : Option Refusal → Refusal → Type 0
IsRefusalOf judged NoMemory = Unit {0}
IsRefusalOf judged refusal = judged ≡ Some refusal

-- the definition names this update and this cause, or memory ran out at some update
abbrev pub IsRefusalAt : Option (ℕ × Refusal) → ℕ → Refusal → Type 0
IsRefusalAt judged place NoMemory = Unit {0}
IsRefusalAt judged place refusal = judged ≡ Some (place, refusal)

-- the answer of who tests this
abbrev pub Answers : Option Refusal → Result (Unit {0}) Refusal → Type 0
Answers judged (Ok x) = judged ≡ None
Answers judged (Err refusal) = IsRefusalOf judged refusal

-- an update that is not refused, and the state that it leaves
pub record IsMade (now : State) (update : spec.Update) (next : State) : Type 0 where
  pub judged : judge_update now update ≡ None
  pub changed : next ≡ spec.changed now update

-- ---- of extensions and a count

abbrev pub state_in : List spec_state.Extension → ℕ → State
state_in extensions count = record { extensions = extensions; count = count }

abbrev pub judge_in : List spec_state.Extension → ℕ → spec.Update → Option Refusal
judge_in extensions count update = judge_update (state_in extensions count) update

abbrev pub IsMadeIn : List spec_state.Extension → ℕ → spec.Update → List spec_state.Extension → Type 0
IsMadeIn extensions count update next = IsMade (state_in extensions count) update (state_in next count)

abbrev pub updates_seen : List Update → List spec.Update
updates_seen updates = map update_seen updates

-- the definition names this update and this cause, or memory ran out at some update
abbrev pub IsBatchRefusal : Option (ℕ × Refusal) → BatchRefusal → Type 0
IsBatchRefusal judged refusal = IsRefusalAt judged refusal.place refusal.cause

-- the answer of who puts what became of the first extension of this name in its place
abbrev pub Places : List spec_state.Extension → List ℕ → Result spec_state.Extension Refusal → Result (Vec spec_state.Extension Global) Refusal → Type 0
Places extensions name (Ok next) (Ok list) = list.items ≡ put_first (spec.has_name name) next extensions
Places extensions name (Ok next) (Err refusal) = refusal ≡ NoMemory
Places extensions name (Err cause) (Ok list) = ⊥
Places extensions name (Err cause) (Err refusal) = refusal ≡ cause

-- the extensions, with the first of this name as it is once its rulesets are switched
abbrev pub switched_among : List spec_state.Extension → List ℕ → List (List ℕ) → List (List ℕ) → spec_state.Extension → List spec_state.Extension
switched_among extensions name disable enable extension =
    put_first (spec.has_name name) (record extension { sets = map (spec.switched disable enable) extension.sets }) extensions

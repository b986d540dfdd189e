-- Entries: one update, or several that are applied together, and the state after a list of them.
use Rattle.std.specs.Prelude.{ℕ, ◌+◌, List, [], ◌∷◌, fold, Option, Some, None, Result, Ok, Err}
use Rattle.rule_spec.specs.State.{State}
use Rattle.update_spec.specs.declared.refusal.Refusal.{Refusal}
use Rattle.update_spec.specs.Update.{NewExtension, Update, install, changed, counted}
use Rattle.update_spec.specs.Judge.{judge_update}

-- a batch is one entry: it is applied whole or not at all, and counts once
pub data Entry : Type 0 where
  one : Update → Entry
  batch : List Update → Entry

-- which update is refused, from 0 on, and why
abbrev pub refused_at : ℕ → Option Refusal → Option (ℕ × Refusal) → Option (ℕ × Refusal)
refused_at place None later = later
refused_at place (Some refusal) later = Some (place, refusal)

-- the first of these updates that is refused on the state that the earlier ones leave; the first has this place
abbrev pub judge_from : ℕ → State → List Update → Option (ℕ × Refusal)
judge_from place state [] = None
judge_from place state (update ∷ updates) =
    refused_at place (judge_update state update) (judge_from (place + 1) (changed state update) updates)

-- why the entry is refused, if it is; a single update has the place 0
abbrev pub judge : State → Entry → Option (ℕ × Refusal)
judge state (one update) = judge_from 0 state (update ∷ [])
judge state (batch updates) = judge_from 0 state updates

-- the state after an entry that is accepted
abbrev pub after : State → Entry → State
after state (one update) = counted (changed state update)
after state (batch updates) = counted (fold changed state updates)

-- the state after entries that were accepted
abbrev pub replay : State → List Entry → State
replay state entries = fold after state entries

-- ---- the extensions that the words name

abbrev pub empty : State
empty = record { extensions = []; count = 0 }

-- the same extensions, with no update counted
abbrev pub opened : State → State
opened state = record state { count = 0 }

-- the extension that is refused, and why
pub record RefusedInstall : Type 0 where
  pub extension : List ℕ
  pub cause : Refusal

abbrev pub changed_unless : Option Refusal → State → NewExtension → Result State RefusedInstall
changed_unless None state new = Ok (changed state (install new))
changed_unless (Some refusal) state new = Err (record { extension = new.name; cause = refusal })

-- the state once the extension is installed, or why it is refused; it counts for nothing
abbrev pub install_one : State → NewExtension → Result State RefusedInstall
install_one state new = changed_unless (judge_update state (install new)) state new

abbrev pub install_then : Result State RefusedInstall → (State → Result State RefusedInstall) → Result State RefusedInstall
install_then (Ok state) go_on = go_on state
install_then (Err refused) go_on = Err refused

-- one after another, or the first that is refused
abbrev pub install_all : State → List NewExtension → Result State RefusedInstall
install_all state [] = Ok state
install_all state (new ∷ rest) = install_then (install_one state new) (λ next. install_all next rest)

-- the state before the first line of a script
abbrev pub opening : List NewExtension → Result State RefusedInstall
opening added = install_all empty added

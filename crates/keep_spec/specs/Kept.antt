-- The dynamic updates of one extension that a file keeps: what the payloads of its records read as, and the state that
-- they leave. A payload is read as a line of a script is.
use Rattle.std.specs.Prelude.{ℕ, List, [], ◌∷◌, map, filter_map, Bool, true, false, ◌&&◌, Option, Some, None, is_none, Result, Ok, if◌then◌else◌}
use Rattle.std.specs.Str.{bytes_eq}
use Rattle.rule_spec.specs.State.{State}
use Rattle.update_spec.specs.Update.{NewExtension, Update, dynamic, installed}
use Rattle.update_spec.specs.Judge.{judge_update}
use Rattle.update_spec.specs.Entries.{one, after, replay}
use Rattle.line_spec.specs.declared.line_fault.LineFault.{LineFault}
use Rattle.line_spec.specs.Line.{Command, update, command_of}
use Rattle.keep_records.specs.Records.{payloads}

-- ---- updates

-- the update, where it is a dynamic one of this extension
abbrev pub dynamic_of : List ℕ → Update → Option Update
dynamic_of name (dynamic extension remove add) =
    if bytes_eq extension name then Some (dynamic extension remove add) else None
dynamic_of name other = None

abbrev pub dynamic_in : List ℕ → Result Command LineFault → Option Update
dynamic_in name (Ok (update u)) = dynamic_of name u
dynamic_in name other = None

-- the dynamic update of this extension that a payload reads as, if it does; a line's number is no part of it
unfoldable pub update_at : List ℕ → List ℕ → Option Update
update_at name payload = dynamic_in name (command_of 1 payload)

-- the updates that the records of a file hold, in order; a payload that reads as anything else gives none
unfoldable pub kept : List ℕ → List ℕ → List Update
kept name file = filter_map (update_at name) (payloads file)

-- ---- the state

-- an extension with no rulesets, which may touch every request
abbrev pub empty_extension : List ℕ → NewExtension
empty_extension name = record { name = name; sets = []; access = None }

-- nothing is installed but this extension, and no update was accepted
abbrev pub start : List ℕ → State
start name = record { extensions = installed (empty_extension name) ∷ []; count = 0 }

-- the state that these updates leave
abbrev pub state_of : List ℕ → List Update → State
state_of name list = replay (start name) (map one list)

-- ---- what is accepted

abbrev pub accepts : State → Update → Bool
accepts state u = is_none (judge_update state u)

-- each is accepted on the state that those before it leave
abbrev pub all_accepted : State → List Update → Bool
all_accepted state [] = true
all_accepted state (u ∷ us) = accepts state u && all_accepted (after state (one u)) us

-- the payload reads as a dynamic update of the extension, and that is accepted
abbrev pub takes_read : State → Option Update → Bool
takes_read state None = false
takes_read state (Some u) = accepts state u

abbrev pub takes : List ℕ → State → List ℕ → Bool
takes name state payload = takes_read state (update_at name payload)

-- a kept list: the extension's name, its updates, the place where the records end, and whether it may be added to
pub record Kept : Type 0 where
  pub name : List ℕ
  pub list : List Update
  pub place : ℕ
  pub live : Bool

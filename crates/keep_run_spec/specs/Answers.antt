-- What the lines of a script say where the dynamic rules of one extension are kept in a file: an update is judged on those
-- that are kept so far, and is one of them once it is accepted.
use Rattle.std.specs.Prelude.{◌≡◌, ◌⊎◌, ℕ, ◌+◌, List, [], ◌∷◌, ◌++◌, length, count_by, Bool, true, false, nat_le, Option, Some, None, Result, Ok, Err}
use Rattle.dnr_base.specs.Faults.{Count}
use Rattle.update_spec.specs.declared.refusal.Refusal.{Refusal}
use Rattle.update_spec.specs.Update.{Update}
use Rattle.update_spec.specs.Judge.{judge_update}
use Rattle.update_spec.specs.Entries.{one, after}
use Rattle.line_spec.specs.declared.command_path.CommandPath.TheVariants.{Cmd}
use Rattle.line_spec.specs.declared.line_fault.LineFault.{LineFault}
use Rattle.line_spec.specs.declared.line_fault.LineFault.TheVariants.{BadCommand}
use Rattle.line_spec.specs.Line.{Command, blank, sync, request, explain, update, batch, command_of}
use Rattle.line_spec.specs.Stops.{StopsInLine}
use Rattle.session_spec.specs.Answers.{RisesBy}
use Rattle.session_spec.specs.Said.{Said, nothing, accepted, refused, bad, stopped, said_line, is_stopped}
use Rattle.keep_records.specs.Records.{end_of}
use Rattle.keep_records.specs.Ends.{max_file}
use Rattle.keep_spec.specs.Kept.{Kept, kept, dynamic_of, state_of}
use Rattle.keep_spec.specs.Written.{text_of}
use Rattle.keep_run_spec.specs.Output.{kept_line, full_line}

-- ---- what is kept

-- what a file with these bytes keeps of the extension
abbrev pub kept_in : List ℕ → List ℕ → Kept
kept_in name file = record { name = name; list = kept name file; place = end_of file; live = true }

-- the file has room for one record more, of this update
abbrev pub has_room : Kept → Update → Bool
has_room keep u = nat_le (keep.place + 6 + length (text_of u)) max_file

-- what is kept with one update more
abbrev pub with_update : Kept → Update → Kept
with_update keep u = record keep { list = keep.list ++ u ∷ []; place = keep.place + 5 + length (text_of u) }

-- ---- what a line asks for

-- nothing, this update, or it is at fault
pub data Asked : Type 0 where
  nothing_more : Asked
  keep_this : Update → Asked
  at_fault : LineFault → Asked

abbrev pub unless_other : Option Update → Asked
unless_other None = at_fault (BadCommand Cmd)
unless_other (Some u) = keep_this u

-- no other command is known than a dynamic update of the extension
abbrev pub asked_by : List ℕ → Result Command LineFault → Asked
asked_by name (Ok blank) = nothing_more
asked_by name (Ok sync) = at_fault (BadCommand Cmd)
asked_by name (Ok (request r)) = at_fault (BadCommand Cmd)
asked_by name (Ok (explain r)) = at_fault (BadCommand Cmd)
asked_by name (Ok (update u)) = unless_other (dynamic_of name u)
asked_by name (Ok (batch us)) = at_fault (BadCommand Cmd)
asked_by name (Err fault) = at_fault fault

-- ---- what it is told

-- A line says what a line of any script may say, or that the file has no room.
pub data Told : Type 0 where
  says : Said → Told
  is_full : Told

-- an update that is accepted is kept, if there is room
abbrev pub told_by_room : Kept → Update → Bool → Told
told_by_room keep u true = says (accepted (after (state_of keep.name keep.list) (one u)).count)
told_by_room keep u false = is_full

abbrev pub left_by_room : Kept → Update → Bool → Kept
left_by_room keep u true = with_update keep u
left_by_room keep u false = keep

abbrev pub told_by : Kept → Update → Option Refusal → Told
told_by keep u None = told_by_room keep u (has_room keep u)
told_by keep u (Some refusal) = says (refused refusal)

abbrev pub left_by : Kept → Update → Option Refusal → Kept
left_by keep u None = left_by_room keep u (has_room keep u)
left_by keep u (Some refusal) = keep

abbrev pub told_to : Kept → Asked → Told
told_to keep nothing_more = says nothing
told_to keep (keep_this u) = told_by keep u (judge_update (state_of keep.name keep.list) u)
told_to keep (at_fault fault) = says (bad fault)

-- what is kept after it
abbrev pub kept_after : Kept → Asked → Kept
kept_after keep nothing_more = keep
kept_after keep (keep_this u) = left_by keep u (judge_update (state_of keep.name keep.list) u)
kept_after keep (at_fault fault) = keep

-- ---- lines

abbrev pub asked_of : Kept → ℕ → List ℕ → Asked
asked_of keep number line = asked_by keep.name (command_of number line)

-- the host failed at a pattern of the line, of which nothing is refused that is tested before that
pub record Stops (keep : Kept) (line : List ℕ) (told : Told) (next : Kept) : Type 0 where
  pub fault : LineFault
  pub stops : StopsInLine line fault
  pub same : told ≡ says (stopped fault)
  pub stays : next ≡ keep

-- it is told what it asks for
pub record IsTold (keep : Kept) (number : ℕ) (line : List ℕ) (told : Told) (next : Kept) : Type 0 where
  pub same : told ≡ told_to keep (asked_of keep number line)
  pub left : next ≡ kept_after keep (asked_of keep number line)

-- what the line of this number says, and what is kept after it
abbrev pub LineSays : Kept → ℕ → List ℕ → Told → Kept → Type 0
LineSays keep number line told next = IsTold keep number line told next ⊎ Stops keep line told next

-- what a first line says and what the others say
pub record FirstAndRest (told : List Told) (First : Told → Kept → Type 0) (Rest : Kept → List Told → Type 0) : Type 0 where
  pub head : Told
  pub next : Kept
  pub others : List Told
  pub all : told ≡ head ∷ others
  pub first : First head next
  pub rest : Rest next others

-- what lines say one after another, the first of which has this number, and what is kept after them
abbrev pub LinesSay : Kept → ℕ → List (List ℕ) → List Told → Kept → Type 0
LinesSay keep number [] told last = (told ≡ []) × (last ≡ keep)
LinesSay keep number (line ∷ lines) told last =
    FirstAndRest told (λ head next. LineSays keep number line head next) (λ next others. LinesSay next (number + 1) lines others last)

-- ---- what is written

abbrev pub told_line : ℕ → Told → List ℕ
told_line number (says said) = said_line number said
told_line number is_full = full_line number

-- what lines print, the first of which has this number
abbrev pub told_text : ℕ → List Told → List ℕ
told_text number [] = []
told_text number (told ∷ later) = told_line number told ++ told_text (number + 1) later

-- the host that reads lines failed
abbrev pub is_host_fault : Told → Bool
is_host_fault (says said) = is_stopped said
is_host_fault is_full = false

abbrev pub count_host_faults : List Told → ℕ
count_host_faults told = count_by is_host_fault told

-- These lines were answered from what was kept at first on, and this is the text of the answers. Each line that is refused
-- as the host failed is a rise of the count of the host's faults.
pub record Answered (host : Count) (first : Kept) (lines : List (List ℕ)) (last : Kept) (text : List ℕ) : Type 0 where
  pub told : List Told
  pub says : LinesSay first 1 lines told last
  pub text_is : text ≡ kept_line (length first.list) ++ told_text 1 told
  pub rises : RisesBy (count_host_faults told) host

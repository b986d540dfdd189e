-- What the lines of a round say, once the answers of its seats are put together with what its writer says.
use Rattle.std.specs.Prelude.{◌≡◌, ℕ, ◌+◌, ◌%◌, ◌≤◌, List, [], ◌∷◌, ◌++◌, length, get_or, Bool, true, false, None, Result}
use mathlib.Core.List.{IsPrefix}
use Rattle.generation.specs.Basis.{Basis}
use Rattle.update_spec.specs.Entries.{Entry, replay}
use Rattle.line_spec.specs.Line.{Command}
use Rattle.line_spec.specs.declared.line_fault.LineFault.{LineFault}
use Rattle.session_laws.specs.Turns.{RiseBy}
use Rattle.session_serve.specs.Told.{times_in}
use Rattle.session_spec.specs.Answers.{Replies, RisesBy}
use Rattle.session_spec.specs.Rounds.{asks}
use Rattle.session_spec.specs.Said.{Answer, Said, answered, answer_line, said_line, number_by, numbers_by, NeverFallFrom, count_failed, count_stopped}
use Rattle.session_rounds.specs.Lines.{read_seen, is_asked, Fits}
use Rattle.session_rounds.specs.Writing.{writing, GoesOn}
use Rattle.session_rounds.specs.declared.read_line.ReadLine.{ReadLine}

-- A seat answers after entries that lie between those before the round and those after it.
pub record SeatSaid (opening : Basis) (floor end : List Entry) (seat : ℕ) (read : Result Command LineFault) (told : Said) : Type 0 where
  pub list : List Entry
  pub answer : Answer
  pub from : IsPrefix floor list
  pub to : IsPrefix list end
  pub fits : Fits opening.suffixes read (replay opening.state list) answer
  pub same : told ≡ answered seat (length list) answer

-- The writer answers after the entries before the line, and has others after it.
pub record WriterTold (opening : Basis) (read : Result Command LineFault) (list : List Entry) (told : Said) (next : List Entry) : Type 0 where
  pub says : (seat : ℕ) → Replies (writing opening) (replay opening.state list ∷ []) (replay opening.state list) seat read told (replay opening.state next)
  pub quiet : (seat : ℕ) → count_failed seat (told ∷ []) ≡ 0
  pub nobody : (seat : ℕ) → number_by seat told ≡ None
  pub calm : count_stopped (told ∷ []) ≡ 0
  pub goes_on : GoesOn list next

abbrev pub LineSaid : Bool → Basis → List Entry → List Entry → ℕ → Result Command LineFault → List Entry → Said → List Entry → Type 0
LineSaid true opening floor end seat read list told next = SeatSaid opening floor end seat read told × (next ≡ list)
LineSaid false opening floor end seat read list told next = WriterTold opening read list told next

-- what a first line says, and the others
pub record FirstSaid (said : List Said) (First : Said → List Entry → Type 0) (Rest : List Entry → List Said → Type 0) : Type 0 where
  pub told : Said
  pub next : List Entry
  pub others : List Said
  pub all : said ≡ told ∷ others
  pub first : First told next
  pub rest : Rest next others

-- What lines say, before which so many of the round asked seats and these entries were accepted, and the entries after
-- them. The round begins after the entries `floor` and has ended after `end`.
abbrev pub LinesSaid : Basis → List Entry → List Entry → ℕ → ℕ → List Entry → List ReadLine → List Said → List Entry → Type 0
LinesSaid opening floor end seats asked list [] said last = (said ≡ []) × (last ≡ list)
LinesSaid opening floor end seats asked list (line ∷ lines) said last =
    FirstSaid said (λ told next. LineSaid (is_asked (read_seen line.read)) opening floor end (asked % seats) (read_seen line.read) list told next)
    (λ next others. LinesSaid opening floor end seats (asked + asks (read_seen line.read)) next lines others last)

-- the lines that they print
abbrev pub texts_of : List ReadLine → List Said → List ℕ
texts_of [] said = []
texts_of (line ∷ lines) [] = []
texts_of (line ∷ lines) (told ∷ said) = said_line line.number told ++ texts_of lines said

-- The answer that is said for a seat, whose last number was this and is that, and how its host's count rose with it.
pub record SeatTold (opening : Basis) (floor end : List Entry) (number : ℕ) (read : Result Command LineFault) (least last : ℕ) (before now : List ℕ) (was is : ℕ) : Type 0 where
  pub list : List Entry
  pub answer : Answer
  pub from : IsPrefix floor list
  pub to : IsPrefix list end
  pub fits : Fits opening.suffixes read (replay opening.state list) answer
  pub appended : now ≡ before ++ answer_line number (length list) answer
  pub later : least ≤ length list
  pub same : last ≡ length list
  pub rises : RisesBy (times_in answer) (record { before = was; now = is })

-- Lines were answered: what they say was appended to a text, the numbers of a seat go on from its last one, and the
-- counts of the hosts rose with the answers.
pub record Settled (opening : Basis) (floor end : List Entry) (seats asked : ℕ) (list : List Entry) (lines : List ReadLine) (last : List Entry) (lasts : List ℕ) (before now : List ℕ) (was is : List ℕ) : Type 0 where
  pub said : List Said
  pub says : LinesSaid opening floor end seats asked list lines said last
  pub text : now ≡ before ++ texts_of lines said
  pub order : (seat : ℕ) → NeverFallFrom (get_or lasts seat 0) (numbers_by seat said ++ length end ∷ [])
  pub rises : RiseBy (λ seat. count_failed seat said) was is

-- A round was answered whole, from these entries on up to those: what its lines say was appended to a text, the numbers of a
-- seat never fall and are none below the round's beginning, and the counts of the hosts rose with the answers.
pub record RoundAnswered (opening : Basis) (seats : ℕ) (lines : List ReadLine) (floor end : List Entry) (before now : List ℕ) (was is : List ℕ) : Type 0 where
  pub said : List Said
  pub says : LinesSaid opening floor end seats 0 floor lines said end
  pub text : now ≡ before ++ texts_of lines said
  pub order : (seat : ℕ) → NeverFallFrom (length floor) (numbers_by seat said ++ length end ∷ [])
  pub rises : RiseBy (λ seat. count_failed seat said) was is

-- What a seat answers to the lines of a round.
use Rattle.std.specs.Prelude.{◌≡◌, ◌⊎◌, ◌<◌, ◌≤◌, ◌+◌, ◌-◌, ◌++◌, ℕ, zero, suc, List, [], ◌∷◌, length, map, filter, get_or, Bool, false, not, ◌&&◌, Option, Some, None, All, IsTrue, IsFalse, IsSome, IfSome, Result}
use mathlib.Core.List.{IsPrefix}
use Rattle.dnr_base.specs.Faults.{Rose}
use Rattle.generation.specs.Basis.{Basis}
use Rattle.published.specs.Pass.{PassSeen, IsBehind}
use Rattle.update_spec.specs.Entries.{Entry}
use Rattle.line_spec.specs.Line.{Command}
use Rattle.line_spec.specs.declared.line_fault.LineFault.{LineFault}
use Rattle.session_rounds.specs.Lines.{read_seen, is_asking, IsAnswer}
use Rattle.session_rounds.specs.declared.read_line.ReadLine.{ReadLine}
use Rattle.session_seats.specs.Reading.{ReadRound, asking_from}
use Rattle.session_seats.specs.Said.{Said}

-- ---- passes

-- what a pass has seen, where there is one
abbrev pub seen_of : Option PassSeen → List Entry
seen_of None = []
seen_of (Some pass) = pass.seen

-- the pass is the same, and has missed no fewer copies
abbrev pub IsLater : Option PassSeen → Option PassSeen → Type 0
IsLater None None = Unit {0}
IsLater None (Some now) = ⊥
IsLater (Some before) None = ⊥
IsLater (Some before) (Some now) = before.missed ≤ now.missed

-- there was no copy to enter, since there is no pass, or as it counted
abbrev pub HadNoCopy : Option PassSeen → Option PassSeen → Type 0
HadNoCopy None now = Unit {0}
HadNoCopy (Some before) None = ⊥
HadNoCopy (Some before) (Some now) = Rose before.missed now.missed

-- the seat was not told of the note: it has no pass, or there was no copy to enter, or one that the note is ahead of
abbrev pub IsUntold : Option PassSeen → Option PassSeen → List Entry → Type 0
IsUntold None now note = Unit {0}
IsUntold (Some before) None note = ⊥
IsUntold (Some before) (Some now) note = IsBehind before now note

-- ---- answers

-- This is said to a line of this number, at this place, that asks for this: an answer after entries that begin what was
-- seen.
pub record SaysAt (opening : Basis) (place number : ℕ) (read : Result Command LineFault) (seen : List Entry) (said : Said) : Type 0 where
  pub list : List Entry
  pub here : said.place ≡ place
  pub begins : IsPrefix list seen
  pub counted : said.number ≡ length list
  pub answer : IsAnswer opening number read list said.failed said.text

-- it is said to one of these lines
pub record Answers (opening : Basis) (reads : List ReadLine) (seen : List Entry) (said : Said) : Type 0 where
  pub line : ReadLine
  pub inside : said.place < length reads
  pub there : line ≡ get_or reads said.place line
  pub says : SaysAt opening said.place line.number (read_seen line.read) seen said

-- A seat: which it is and of how many, its pass, whether its answers count, and these; the places of the lines that it has
-- passed over; and whether memory ran out.
pub record DeskSeen : Type 0 where
  pub seat : ℕ
  pub seats : ℕ
  pub pass : Option PassSeen
  pub ready : Bool
  pub stopped : Bool
  pub answers : List Said
  pub unasked : List ℕ

-- the answers of a seat count where it has learnt what the round ended with: they and this begin what it has seen
pub record AllAnswer (opening : Basis) (reads : List ReadLine) (end seen : List Entry) (answers : List Said) : Type 0 where
  pub learnt : IsPrefix end seen
  pub all : All (Answers opening reads seen) answers

abbrev pub IsTrusted : Basis → List ReadLine → List Entry → DeskSeen → Type 0
IsTrusted opening reads end desk = IsTrue desk.ready → AllAnswer opening reads end (seen_of desk.pass) desk.answers

-- What a seat said to a line, if anything, is an answer after entries that begin these, where it has no more of them.
pub record SaysWithin (opening : Basis) (line : ReadLine) (end : List Entry) (said : Said) : Type 0 where
  pub list : List Entry
  pub begins : length list ≤ length end → IsPrefix list end
  pub counted : said.number ≡ length list
  pub answer : IsAnswer opening line.number (read_seen line.read) list said.failed said.text

abbrev pub MaySay : Basis → ReadLine → List Entry → Option Said → Type 0
MaySay opening line end said = IfSome said (SaysWithin opening line end)

-- ---- what is dealt to a seat

-- the line at this place asks a seat
abbrev pub asks_at : List ReadLine → ℕ → Bool
asks_at [] place = false
asks_at (line ∷ lines) zero = is_asking line
asks_at (line ∷ lines) (suc place) = asks_at lines place

-- those of the places whose lines ask a seat
abbrev pub asking : List ReadLine → List ℕ → List ℕ
asking reads places = filter (asks_at reads) places

-- and the others
abbrev pub unasking : List ReadLine → List ℕ → List ℕ
unasking reads places = filter (λ (place : ℕ). not (asks_at reads place)) places

-- the share of a seat: of so many places in turn the one behind so few others, and each so-manieth from there
abbrev pub share : ℕ → ℕ → List ℕ → List ℕ
share seats before [] = []
share seats zero (place ∷ places) = place ∷ share seats (seats - 1) places
share seats (suc before) (place ∷ places) = share seats before places

-- ---- what a seat does

-- each is the one at its place, of so many
abbrev pub AreSeatsFrom : ℕ → ℕ → List DeskSeen → Type 0
AreSeatsFrom seat count [] = Unit {0}
AreSeatsFrom seat count (desk ∷ desks) = (desk.seat ≡ seat) × (desk.seats ≡ count) × AreSeatsFrom (seat + 1) count desks

abbrev pub AreSeats : ℕ → List DeskSeen → Type 0
AreSeats count desks = AreSeatsFrom 0 count desks

-- the first so many of the seats have a pass
abbrev pub HavePasses : ℕ → List DeskSeen → Type 0
HavePasses count [] = Unit {0}
HavePasses zero (desk ∷ desks) = Unit {0}
HavePasses (suc count) (desk ∷ desks) = IsSome desk.pass × HavePasses count desks

-- the seat with another pass; with other places of lines that it passed over; and with memory having run out or not
abbrev pub with_pass : DeskSeen → Option PassSeen → DeskSeen
with_pass desk pass = record {
  seat = desk.seat;
  seats = desk.seats;
  pass = pass;
  ready = desk.ready;
  stopped = desk.stopped;
  answers = desk.answers;
  unasked = desk.unasked;
}

abbrev pub with_unasked : DeskSeen → List ℕ → DeskSeen
with_unasked desk unasked = record {
  seat = desk.seat;
  seats = desk.seats;
  pass = desk.pass;
  ready = desk.ready;
  stopped = desk.stopped;
  answers = desk.answers;
  unasked = unasked;
}

abbrev pub with_stopped : DeskSeen → Bool → DeskSeen
with_stopped desk stopped = record {
  seat = desk.seat;
  seats = desk.seats;
  pass = desk.pass;
  ready = desk.ready;
  stopped = stopped;
  answers = desk.answers;
  unasked = desk.unasked;
}

-- it stays the same seat
pub record StaysSeat (before now : DeskSeen) : Type 0 where
  pub seat : now.seat ≡ before.seat
  pub seats : now.seats ≡ before.seats

-- the seat has the same pass, which has missed no fewer copies
abbrev pub KeepsPass : DeskSeen → DeskSeen → Type 0
KeepsPass before now = IsLater before.pass now.pass

-- a seat that begins a round has answered nothing and passed over no line; it has learnt what is published where it is
-- ready, and else was not told of it
pub record HasBegun (floor : List Entry) (before now : DeskSeen) : Type 0 where
  pub fresh : now.answers ≡ []
  pub unasked : now.unasked ≡ []
  pub stays : StaysSeat before now
  pub later : KeepsPass before now
  pub told : IsTrue now.ready → IsPrefix floor (seen_of now.pass)
  pub untold : IsFalse now.ready → IsUntold before.pass now.pass floor

-- what it has answered
abbrev pub HasAnswered : Basis → List ReadLine → DeskSeen → Type 0
HasAnswered opening reads desk = All (Answers opening reads (seen_of desk.pass)) desk.answers

-- memory has not run out, and there was a copy to enter for each line
pub record IsAtWork (desk : DeskSeen) : Type 0 where
  pub ready : IsTrue desk.ready
  pub going : IsFalse desk.stopped

abbrev pub is_at_work : DeskSeen → Bool
is_at_work desk = desk.ready && not desk.stopped

abbrev pub places_of : List Said → List ℕ
places_of answers = map (λ (said : Said). said.place) answers

-- It has served the lines at these places. It has an answer more to each of them that asks a seat, in their order, and no
-- other, unless memory ran out or it is not ready; it is not ready any more only where there was no copy to enter; and
-- unless memory ran out it has passed over those that ask none.
pub record HasServed (reads : List ReadLine) (places : List ℕ) (before now : DeskSeen) : Type 0 where
  pub stays : StaysSeat before now
  pub later : IsLater before.pass now.pass
  pub lost : IsTrue before.ready → IsFalse now.ready → HadNoCopy before.pass now.pass
  pub all : IsAtWork now → IsAtWork before × (places_of now.answers ≡ places_of before.answers ++ asking reads places)
  pub unasked : IsFalse now.stopped → IsFalse before.stopped × (now.unasked ≡ before.unasked ++ unasking reads places)

-- It has read a line of which this says whether it asks a seat: it does not, unless memory ran out.
pub record HasReadOver (asks : Bool) (before now : DeskSeen) : Type 0 where
  pub rest : now ≡ with_stopped before now.stopped
  pub going : IsFalse now.stopped → IsFalse before.stopped × (asks ≡ false)

-- it has passed over the line at this place, unless memory ran out
pub record HasPassedOver (place : ℕ) (before now : DeskSeen) : Type 0 where
  pub rest : now ≡ with_stopped (with_unasked before now.unasked) now.stopped
  pub going : IsFalse now.stopped → IsFalse before.stopped × (now.unasked ≡ before.unasked ++ place ∷ [])

-- a seat has done its work of a round: it has served its share of what is dealt
pub record HasWorked (opening : Basis) (round : ReadRound) (before now : DeskSeen) : Type 0 where
  pub answered : HasAnswered opening round.reads now
  pub served : HasServed round.reads (share before.seats before.seat round.dealt) before now

-- Why a seat is not ready when it has done its work: as it began it was not told of what was published, or later there was
-- no copy to enter for a line.
pub record IsExcused (note : List Entry) (before now : DeskSeen) : Type 0 where
  pub begun : Option PassSeen
  pub learning : IsLater before.pass begun
  pub later : IsLater begun now.pass
  pub cause : IsUntold before.pass begun note ⊎ HadNoCopy begun now.pass

abbrev pub IsReadyOrExcused : List Entry → DeskSeen → DeskSeen → Type 0
IsReadyOrExcused note before now = IsFalse now.ready → IsExcused note before now

-- the same of one that may have begun twice, after other notes
abbrev pub IsReadyOrExcusedBy : List Entry → List Entry → DeskSeen → DeskSeen → Type 0
IsReadyOrExcusedBy first second before now = IsFalse now.ready → IsExcused first before now ⊎ IsExcused second before now

-- and when the round has ended its answers count, unless it was not told of what is published then
pub record HasEnded (opening : Basis) (reads : List ReadLine) (end : List Entry) (before now : DeskSeen) : Type 0 where
  pub trusted : IsTrusted opening reads end now
  pub stays : StaysSeat before now
  pub same : now.answers ≡ before.answers
  pub untold : IsFalse now.ready → IsUntold before.pass now.pass end

-- the seat has an answer to each line of its share that asks one, in their order, unless memory ran out or it is not ready
abbrev pub HasAnsweredAll : ReadRound → DeskSeen → Type 0
HasAnsweredAll round desk = IsAtWork desk → places_of desk.answers ≡ asking round.reads (share desk.seats desk.seat round.dealt)

-- it has passed over each line of its share that asks none, in their order, unless memory ran out
abbrev pub HasPassedOverAll : ReadRound → DeskSeen → Type 0
HasPassedOverAll round desk = IsFalse desk.stopped → desk.unasked ≡ unasking round.reads (share desk.seats desk.seat round.dealt)

-- The k-th request of a round is answered by seat k modulo their number: the seat has an answer to each of those that are its
-- own, in their order, and to no other line, unless memory ran out or it is not ready.
abbrev pub HasAnsweredTurns : List ReadLine → DeskSeen → Type 0
HasAnsweredTurns reads desk = IsAtWork desk → places_of desk.answers ≡ share desk.seats desk.seat (asking_from 0 reads)

-- Lines that were cut, taken into their rounds one after another.
use Rattle.std.specs.Prelude.{◌≡◌, ◌⊎◌, ℕ, ◌≤◌, List, [], ◌∷◌, length, true, false, Option, Result, Ok, Err}
use Rattle.dnr_spec.specs.Lines.{max_line}
use Rattle.generation.specs.Basis.{Basis}
use Rattle.lines_ahead.specs.Cut.{CutSeen}
use Rattle.session_laws.specs.Turns.{NoneFell}
use Rattle.session_serve.specs.declared.stop.ServeStop.{ServeStop}
use Rattle.session_serve.specs.declared.stop.ServeStop.TheVariants as stop
use Rattle.session_spec.specs.Rounds.{ends_round, with_line}
use Rattle.update_spec.specs.Entries.{Entry}
use Rattle.session_seats.specs.Reading.{ReadRound, ReadsLine, nothing_read}
use Rattle.session_seats.specs.Rounds.{WritesRound, StopsRound}

-- the line is within the limit
abbrev pub IsShort : CutSeen → Type 0
IsShort line = length line.bytes ≤ max_line

abbrev pub AreShort : List CutSeen → Type 0
AreShort [] = Unit {0}
AreShort (line ∷ lines) = IsShort line × AreShort lines

-- how far the rounds are: what the sink has taken, the counts of the hosts, the round that has begun, and all entries
pub record Standing : Type 0 where
  pub taken : Option (List ℕ)
  pub checker : ℕ
  pub finders : List ℕ
  pub round : ReadRound
  pub list : List Entry

abbrev pub standing : Option (List ℕ) → ℕ → List ℕ → ReadRound → List Entry → Standing
standing taken checker finders round list = record { taken = taken; checker = checker; finders = finders; round = round; list = list }

-- the round goes on with the line
pub record GoesOn (line : CutSeen) (from to : Standing) : Type 0 where
  pub on : ends_round from.round.held line.number line.bytes ≡ false
  pub held : to.round.held ≡ with_line from.round.held line.number line.bytes
  pub reads : ReadsLine line.number line.bytes from.checker to.checker from.round.reads to.round.reads
  pub later : from.checker ≤ to.checker
  pub taken : to.taken ≡ from.taken
  pub finders : to.finders ≡ from.finders
  pub list : to.list ≡ from.list

-- the round ends with the line, was answered by so many seats and written
pub record EndsRound (opening : Basis) (seats : ℕ) (line : CutSeen) (from to : Standing) : Type 0 where
  pub whole : ReadRound
  pub ends : ends_round from.round.held line.number line.bytes ≡ true
  pub reads : ReadsLine line.number line.bytes from.checker to.checker from.round.reads whole.reads
  pub later : from.checker ≤ to.checker
  pub fell : NoneFell from.finders to.finders
  pub writes : WritesRound opening seats whole.reads from.list to.list from.taken to.taken from.finders to.finders
  pub next : to.round ≡ nothing_read

-- the line was taken into its round
abbrev pub TakesLine : Basis → ℕ → CutSeen → Standing → Standing → Type 0
TakesLine opening seats line from to = GoesOn line from to ⊎ EndsRound opening seats line from to

-- the lines were, one after another
abbrev pub TakesLines : Basis → ℕ → Standing → Standing → List CutSeen → Type 0
TakesLines opening seats from to [] = to ≡ from
TakesLines opening seats from to (line ∷ lines) = (at : Standing) × TakesLine opening seats line from at × TakesLines opening seats at to lines

-- memory ran out before the line was taken
pub record StopsBefore (from : Standing) (now : Option (List ℕ)) (is : ℕ) (others : List ℕ) (why : ServeStop) : Type 0 where
  pub memory : why ≡ stop.NoMemory
  pub taken : now ≡ from.taken
  pub later : from.checker ≤ is
  pub fell : NoneFell from.finders others

-- the round ends with the line, and is not written
pub record StopsWith (opening : Basis) (seats : ℕ) (line : CutSeen) (from : Standing) (now : Option (List ℕ)) (is : ℕ) (others : List ℕ) (why : ServeStop) : Type 0 where
  pub whole : ReadRound
  pub ends : ends_round from.round.held line.number line.bytes ≡ true
  pub reads : ReadsLine line.number line.bytes from.checker is from.round.reads whole.reads
  pub later : from.checker ≤ is
  pub fell : NoneFell from.finders others
  pub stops : StopsRound opening seats whole.reads from.list from.taken now from.finders others why

-- why the line, or its round, is not served
abbrev pub StopsLine : Basis → ℕ → CutSeen → Standing → Option (List ℕ) → ℕ → List ℕ → ServeStop → Type 0
StopsLine opening seats line from now is others why = StopsBefore from now is others why ⊎ StopsWith opening seats line from now is others why

-- the same of one of the lines, where those before it were taken
abbrev pub StopsLines : Basis → ℕ → Standing → Option (List ℕ) → ℕ → List ℕ → ServeStop → List CutSeen → Type 0
StopsLines opening seats from now is others why [] = ⊥
StopsLines opening seats from now is others why (line ∷ lines) =
    StopsLine opening seats line from now is others why
    ⊎ ((at : Standing) × TakesLine opening seats line from at × StopsLines opening seats at now is others why lines)

-- what serving the lines gives is a cause for which one of them is not served, if it is any
abbrev pub StopsServing : Basis → ℕ → Standing → Option (List ℕ) → ℕ → List ℕ → List CutSeen → Result (Unit {0}) ServeStop → Type 0
StopsServing opening seats from now is others lines (Ok done) = Unit {0}
StopsServing opening seats from now is others lines (Err why) = StopsLines opening seats from now is others why lines

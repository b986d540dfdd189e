-- Lines that are cut from a source ahead of their turn.
use Rattle.std.specs.Prelude.{◌≡◌, ℕ, ◌+◌, ◌-◌, ◌≤◌, List, [], ◌∷◌, ◌++◌, map, length, Bool, true, false, Option, Result, Ok, Err, IfSome}
use Rattle.std.specs.Io.KnownBytes.{IsAtEnd}
use Rattle.dnr_io.specs.Lines.{AreEnded, GivesLine, IsBeyond, Reading, StopsIn, ahead}
use Rattle.dnr_io.specs.declared.line_refusal.LineRefusal.{LineRefusal}
use Rattle.dnr_io.specs.declared.line_refusal.LineRefusal.TheVariants as refusal
use Rattle.dnr_spec.specs.Lines.{max_line, max_lines}
use Rattle.line_spec.specs.Line.{command_of}
use Rattle.lines_ahead.specs.Cut.{CutSeen}
use Rattle.session_spec.specs.Rounds.{is_sync}

-- the bytes of each
abbrev pub bytes_of : List CutSeen → List (List ℕ)
bytes_of lines = map (λ (line : CutSeen). line.bytes) lines

-- these are the first lines of what stands ahead, and `next` stands behind them
abbrev pub GivesLines : Option (List ℕ) → Option (List ℕ) → List (List ℕ) → Type 0
GivesLines rest next [] = next ≡ rest
GivesLines rest next (line ∷ lines) = (behind : Option (List ℕ)) × GivesLine rest behind line × GivesLines behind next lines

-- the lines have the numbers that follow this one, and each is within the limit
abbrev pub FollowOn : ℕ → List CutSeen → Type 0
FollowOn given [] = Unit {0}
FollowOn given (line ∷ lines) = (line.number ≡ given + 1) × (length line.bytes ≤ max_line) × FollowOn (given + 1) lines

-- the line is no sync, as it reads
abbrev pub IsNoSync : CutSeen → Type 0
IsNoSync line = is_sync (command_of line.number line.bytes) ≡ false

abbrev pub AreNoSync : List CutSeen → Type 0
AreNoSync [] = Unit {0}
AreNoSync (line ∷ lines) = IsNoSync line × AreNoSync lines

-- no line but the last one is a sync
abbrev pub EndsAtSync : List CutSeen → Type 0
EndsAtSync [] = Unit {0}
EndsAtSync (line ∷ []) = Unit {0}
EndsAtSync (line ∷ next ∷ lines) = IsNoSync line × EndsAtSync (next ∷ lines)

-- What stands behind the lines that were cut, after so many of the script: more, or its end, or why the next line is not
-- given. Before more, and before a fault, the lines that were cut of what stood ahead have their LF.
abbrev pub StandsBehind : ℕ → Option (List ℕ) → Option (List ℕ) → Option (List ℕ) → Result Bool LineRefusal → Option (List ℕ) → Type 0
StandsBehind count was now left (Ok true) behind = (now ≡ behind) × AreEnded was behind
StandsBehind count was now left (Ok false) behind = IsAtEnd behind
StandsBehind count was now left (Err refusal.ReadFault) behind = StopsIn behind left × AreEnded was behind
StandsBehind count was now left (Err refusal.LineTooLong) behind = IfSome behind (IsBeyond count)
StandsBehind count was now left (Err refusal.NoMemory) behind = Unit {0}

-- these lines were cut of what stands ahead, behind those that had been cut; of what stands behind them this holds
pub record CutsLines (rest : Option (List ℕ)) (before now : List CutSeen) (Holds : Option (List ℕ) → Type 0) : Type 0 where
  pub more : List CutSeen
  pub longer : now ≡ before ++ more
  pub behind : Option (List ℕ)
  pub gives : GivesLines rest behind (bytes_of more)
  pub holds : Holds behind

-- Lines that were cut, so many lines having been read of the script: they are the last of these, each has its number and is
-- within the limit, and no line but the last one is a sync.
pub record AreCut (count : ℕ) (lines : List CutSeen) : Type 0 where
  pub within : length lines ≤ count
  pub few : count ≤ max_lines
  pub follow : FollowOn (count - length lines) lines
  pub syncs : EndsAtSync lines

-- what cuts lines: how far it has read, and those that it keeps
pub record CutterSeen : Type 0 where
  pub reading : Reading
  pub lines : List CutSeen

abbrev pub cuts_nothing : CutterSeen
cuts_nothing = record { reading = record { pending = []; count = 0; live = true }; lines = [] }

-- how many lines stand before those that it keeps
abbrev pub given_by : CutterSeen → ℕ
given_by cutter = cutter.reading.count - length cutter.lines

-- it has cut on out of what was read, whatever its source has left
pub record CutsReady (before now : CutterSeen) : Type 0 where
  pub cut : (left : Option (List ℕ)) → CutsLines (ahead before.reading left) before.lines now.lines
      (StandsBehind now.reading.count (ahead before.reading left) (ahead now.reading left) left (Ok true))
  pub given : given_by now ≡ given_by before
  pub live : now.reading.live ≡ before.reading.live

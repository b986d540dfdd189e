-- How calls end, by the engine of a seat before and after, which a closed seat has not.
use Rattle.std.specs.Prelude.{◌≡◌, ℕ, List, Option, Some, None}
use Rattle.dnr_io.specs.declared.files.MemoryFile.{MemoryFile}
use Rattle.session_spec.specs.Words.{Task}
use Rattle.engine.specs.Asking.{Answers, Stays, TakesMore}
use Rattle.engine.specs.Held.{Held, no_faults}
use Rattle.engine.specs.Opening.{IsOpenedBy}

-- ---- lines

-- the engine answers so to the line of this number, and goes on
abbrev pub Answered : Option Held → ℕ → List ℕ → List ℕ → Option Held → Type 0
Answered (Some before) number line answer (Some after) = Answers before number line answer after
Answered (Some before) number line answer None = ⊥
Answered None number line answer after = ⊥

-- the engine goes on from the state in which it was, or there is none
abbrev pub Keeps : Option Held → Option Held → Type 0
Keeps (Some before) (Some after) = Stays before after
Keeps (Some before) None = ⊥
Keeps None (Some after) = ⊥
Keeps None None = Unit {0}

-- the engine's answer takes so many bytes, and there is room for fewer
abbrev pub LacksRoom : Option Held → ℕ → List ℕ → ℕ → ℕ → Type 0
LacksRoom (Some held) number line count room = TakesMore held number line count room
LacksRoom None number line count room = ⊥

-- ---- openings

-- an engine is there, and it was opened so
abbrev pub Opened : Option Task → List MemoryFile → Option Held → Type 0
Opened task files (Some held) = IsOpenedBy task files held
Opened task files None = ⊥

-- ---- shares

-- the second engine has the suffix rules and the state of the first, and hosts that have not failed
abbrev pub IsShare : Option Held → Option Held → Type 0
IsShare (Some held) (Some other) = other ≡ record { suffixes = held.suffixes; state = held.state; faults = no_faults }
IsShare (Some held) None = ⊥
IsShare None other = ⊥

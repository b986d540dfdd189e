-- Why a command stops before it answers.
use Rattle.std.specs.Prelude.{◌≡◌, ℕ, List, string_bytes}
use Rattle.session_load.specs.declared.stop.Stop.{Stop}
use Rattle.session_load.specs.declared.stop.Stop.TheVariants as stop

-- a file is refused and a line says so, or is too long, or something comes that is told by counts
abbrev pub StopsAs : (List ℕ → Type 0) → Type 0 → Stop → Type 0
StopsAs Refused TooLong (stop.Refused line) = Refused (string_bytes line)
StopsAs Refused TooLong stop.ReadFault = Unit {0}
StopsAs Refused TooLong stop.FileTooLong = TooLong
StopsAs Refused TooLong stop.NoMemory = Unit {0}

-- this line is to be written, unless memory ran out for it
abbrev pub Prints : List ℕ → Stop → Type 0
Prints line (stop.Refused text) = string_bytes text ≡ line
Prints line stop.ReadFault = ⊥
Prints line stop.FileTooLong = ⊥
Prints line stop.NoMemory = Unit {0}

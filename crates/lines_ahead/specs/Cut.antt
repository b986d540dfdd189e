-- A line that stands alone, and what may be told of it before a pattern host is asked.
use Rattle.std.specs.Prelude.{ℕ, List, Result, Ok, Err}
use Rattle.line_spec.specs.declared.line_fault.LineFault.{LineFault}
use Rattle.line_spec.specs.IsFault.{IsFaultOf}
use Rattle.line_spec.specs.Line.{command_of}
use Rattle.lines_ahead.specs.Plain.{IsPlain, IsRequestAtMost}
use Rattle.script_read.specs.declared.asked.Asked.{Asked}
use Rattle.script_read.specs.Asked.{AsksFor}

-- a line as a clause sees it
pub record CutSeen : Type 0 where
  pub number : ℕ
  pub bytes : List ℕ

-- the line of this number asks for that, or has that fault, which a pattern host does not tell
abbrev pub IsTold : ℕ → List ℕ → Result Asked LineFault → Type 0
IsTold number bytes (Ok asked) = AsksFor number bytes asked
IsTold number bytes (Err fault) = IsFaultOf (command_of number bytes) fault

-- the bytes of the line show that it asks for a request at most
pub record IsPlainLine (line : CutSeen) : Type 0 where
  pub plain : IsPlain line.bytes
  pub most : IsRequestAtMost (command_of line.number line.bytes)

-- Why a seat is not opened, and how that is told.
use Rattle.std.specs.Prelude.{◌≡◌, ℕ, ◌≤◌, List, [], length, take, false, string_bytes}
use Rattle.session_spec.specs.Words.{task_of}
use Rattle.engine.specs.Opening.{EndsFor}
use Rattle.engine.specs.declared.refusal.OpenRefusal.TheVariants as engine
use Rattle.dnr_c.specs.Codes.{no_memory, usage, refused, no_file, too_long, no_text}
use Rattle.dnr_c.specs.Given.{words_of, files_of, are_texts}
use Rattle.dnr_c.specs.declared.code.Told.{Told}
use Rattle.dnr_c.specs.declared.given.GivenText.{GivenText}
use Rattle.dnr_c.specs.declared.given.GivenFile.{GivenFile}
use Rattle.dnr_c.specs.declared.opening.Fault.{Fault}
use Rattle.dnr_c.specs.declared.opening.Fault.TheVariants.{NoText, Engine}

-- a word or a name is no text, or the engine is not opened over these files, as these words say
abbrev pub Fails : List GivenText → List GivenFile → Fault → Type 0
Fails words files NoText = are_texts words files ≡ false
Fails words files (Engine refusal) = EndsFor (task_of (words_of words)) (files_of files) refusal

abbrev pub code_of : Fault → ℕ
code_of NoText = no_text
code_of (Engine engine.Usage) = usage
code_of (Engine (engine.Refused line)) = refused
code_of (Engine engine.NoFile) = no_file
code_of (Engine engine.TooLong) = too_long
code_of (Engine engine.NoMemory) = no_memory

-- the line that says why, where there is one
abbrev pub line_of : Fault → List ℕ
line_of NoText = []
line_of (Engine engine.Usage) = []
line_of (Engine (engine.Refused line)) = string_bytes line
line_of (Engine engine.NoFile) = []
line_of (Engine engine.TooLong) = []
line_of (Engine engine.NoMemory) = []

-- the code is told, and the length of the line, which stands at the front of what was written where there is room for it
pub record IsToldAs (fault : Fault) (told : Told) (out : List ℕ) : Type 0 where
  pub code : told.code ≡ code_of fault
  pub long : told.length ≡ length (line_of fault)
  pub line : told.length ≤ length out → take told.length out ≡ line_of fault

-- a seat is not opened over these files, as these words say: why, and how that is told
pub record IsRefused (words : List GivenText) (files : List GivenFile) (code count : ℕ) (out : List ℕ) : Type 0 where
  pub fault : Fault
  pub fails : Fails words files fault
  pub told : IsToldAs fault (record { code = code; length = count }) out

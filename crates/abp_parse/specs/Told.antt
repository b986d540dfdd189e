-- What a reader tells of options.
use Rattle.std.specs.Prelude.{◌≡◌, ℕ, List, map, Bool, true, false, Option, None, Some, Result, Ok, Err, IsAscii, IfSome}
use Rattle.list_spec.specs.declared.reason.Reason.{Reason}
use Rattle.list_spec.specs.LineKind as lines
use Rattle.list_spec.specs.Options as options
use Rattle.list_spec.specs.Pieces.{pieces_of}
use Rattle.abp_parse.specs.declared.options.Fault.{Fault}
use Rattle.abp_parse.specs.declared.options.Fault.TheVariants.{Unsupported, NoMemory}
use Rattle.abp_parse.specs.declared.options.Written.{Written}

-- the fault is the one that the definition gives; want of memory tells nothing
abbrev pub IsFault : Option Reason → Fault → Type 0
IsFault fault (Unsupported reason) = fault ≡ Some reason
IsFault fault NoMemory = Unit {0}

-- what is read has no fault
abbrev pub IsRead : {T : Type 0} → Option Reason → Result T Fault → Type 0
IsRead fault (Ok value) = fault ≡ None
IsRead fault (Err refusal) = IsFault fault refusal

pub record IsWrittenInAscii (written : Written) : Type 0 where
  pub name : IsAscii written.name.now
  pub value : IfSome written.value (λ value. IsAscii value.now)

abbrev pub speaks_of_domains : options.Written → Bool
speaks_of_domains written = options.speaks_of_domains (options.subject_named written.name)

abbrev pub written_in : List ℕ → List options.Written
written_in text = map options.written_of (pieces_of 44 text)

-- the kind of a line with this pattern and these options
abbrev pub line_with : Bool → List ℕ → List ℕ → lines.Line
line_with exception pattern text = lines.line_of_options exception pattern true (written_in text) (options.first_fault exception false (written_in text))

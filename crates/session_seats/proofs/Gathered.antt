-- What a pass answers to a line that asks a seat.
use Rattle.std.proofs.Common.{◌≡◌, ℕ, List, [], ◌∷◌, ◌++◌, length, true, Ok, Err, Result, refl, ap}
use Rattle.std.proofs.lemmas.Bool.{false≢true}
use Rattle.dnr_base.specs.declared.rule_name.RuleName.{RuleName}
use Rattle.generation.specs.Basis.{Basis}
use Rattle.line_spec.specs.Line.{Command, blank, sync, request, explain, update, batch}
use Rattle.line_spec.specs.declared.line_fault.LineFault.{LineFault}
use Rattle.published.proofs.Beginnings.{begins_itself}
use Rattle.rule_spec.specs.PatternRule.{NamesPattern}
use Rattle.session_rounds.specs.Lines.{is_asked}
use Rattle.session_spec.specs.Said.{answer_line}
use Rattle.update_spec.specs.Entries.{Entry, replay}
use Rattle.session_seats.specs.Seats.{SaysAt}
use Rattle.session_seats.specs.Said.{Said}
use Rattle.session_seats.specs.Told.{IsTold, SaysMore, answer_of, said_of}
use Rattle.session_seats.specs.declared.told.Told.{Told}
use Rattle.session_seats.specs.declared.told.Told.TheVariants as told

told_says : (opening : Basis) (read : Result Command LineFault) (seen : List Entry) (place line : ℕ) (told : Told) → IsTold opening read seen told → SaysAt opening place line read seen (said_of place line told)
told_says opening read seen place line told is = record {
  list = seen;
  here = refl;
  begins = begins_itself seen;
  counted = is.counted;
  answer = record { answer = answer_of told; fits = is.fits; kind = refl; same = ap (λ (n : ℕ). answer_line line n (answer_of told)) is.counted };
}

-- what is told was kept
pub told_kept : (opening : Basis) (read : Result Command LineFault) (seen : List Entry) (place line : ℕ) (told : Told) (before now : List Said) → IsTold opening read seen told → now ≡ before ++ said_of place line told ∷ []
    → SaysMore opening place line read seen before now
told_kept opening read seen place line told before now is more = record { said = said_of place line told; says = told_says opening read seen place line told is; more = more }

-- a fault answers what asks a seat
pub fault_told : (opening : Basis) (read : Result Command LineFault) (seen : List Entry) (number : ℕ) (rule : RuleName) → is_asked read ≡ true → number ≡ length seen → NamesPattern (replay opening.state seen) rule
    → IsTold opening read seen (told.Failed number rule)
fault_told opening (Ok blank) seen number rule asks counted names = absurd (false≢true asks)
fault_told opening (Ok sync) seen number rule asks counted names = absurd (false≢true asks)
fault_told opening (Ok (request r)) seen number rule asks counted names = record { counted = counted; fits = names }
fault_told opening (Ok (explain r)) seen number rule asks counted names = record { counted = counted; fits = names }
fault_told opening (Ok (update one)) seen number rule asks counted names = absurd (false≢true asks)
fault_told opening (Ok (batch all)) seen number rule asks counted names = absurd (false≢true asks)
fault_told opening (Err fault) seen number rule asks counted names = absurd (false≢true asks)

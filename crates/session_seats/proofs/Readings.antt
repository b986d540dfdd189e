-- A line that was read.
use Rattle.std.proofs.Common.{◌≡◌, ◌≢◌, ◌⊎◌, ◌≤◌, ◌+◌, ℕ, List, Bool, Result, Ok, Err, refl, sym, ap, ◌∙◌, subst, inl, inr, arith, length}
use Rattle.std.specs.Prelude.{◌||◌, IfOk}
use Rattle.dnr_base.specs.Faults.{Rose}
use Rattle.line_spec.specs.IsFault.{IsFaultOfLine}
use Rattle.line_spec.specs.Line.{Command, blank, sync, request, explain, update, batch, command_of}
use Rattle.line_spec.specs.Stops.{StopsInLine}
use Rattle.line_spec.specs.declared.line_fault.LineFault.{LineFault}
use Rattle.line_spec.specs.declared.line_fault.LineFault.TheVariants.{NoMemory}
use Rattle.lines_ahead.specs.Cut.{CutSeen, IsPlainLine}
use Rattle.lines_ahead.specs.Plain.{IsRequestAtMost}
use Rattle.script_read.specs.Seen.{command_seen}
use Rattle.script_read.specs.declared.command.Command as code
use Rattle.session_rounds.specs.declared.read_line.ReadLine.{ReadLine}
use Rattle.session_rounds.specs.Lines.{read_seen, is_asked, is_asking}
use Rattle.session_serve.proofs.AtFault.{stopped_other}
use Rattle.session_serve.proofs.Told.{line_faulty}
use Rattle.session_spec.specs.Rounds.{Held, is_sync, asks, is_full, with_line, ends_round}
use Rattle.session_seats.specs.Reading.{HasRead, HasTaken, IsTaken, LineReads, held_with, plain_read, seen_line}
use Rattle.session_seats.specs.declared.round_line.RoundLine.{RoundLine}
use Rattle.session_seats.specs.declared.round_line.RoundLine.TheVariants as round

pub read_well : (number : ℕ) (line : List ℕ) (was is : ℕ) (command : code.Command) → command_of number line ≡ Ok (command_seen command) → is ≡ was
    → HasRead number line was is (record { number = number; read = Ok command })
read_well number line was is command reads calm = record {
  stops = 0;
  numbered = refl;
  reads = (reads, refl);
  rises = omega (arith, calm);
  syncs = ap is_sync reads;
  asks = ap asks reads;
}

faulty : (number : ℕ) (line : List ℕ) (was is : ℕ) (fault : LineFault) → fault ≢ NoMemory → was ≤ is → (Rose was is × StopsInLine line fault) ⊎ (command_of number line ≡ Err fault)
    → HasRead number line was is (record { number = number; read = Err fault })
faulty number line was is fault named later (inl stops) =
    let kind = stopped_other number line fault stops.1 in
    record {
      stops = 1;
      numbered = refl;
      reads = inr (stops.1, kind.1, refl);
      rises = stops.0;
      syncs = kind.0;
      asks = kind.1;
    }
faulty number line was is fault named later (inr reads) = record {
  stops = 0;
  numbered = refl;
  reads = inl (reads, refl);
  rises = omega (arith, later);
  syncs = ap is_sync reads;
  asks = ap asks reads;
}

pub read_faulty : (number : ℕ) (line : List ℕ) (was is : ℕ) (fault : LineFault) → fault ≢ NoMemory → was ≤ is → IsFaultOfLine number line (Rose was is) fault
    → HasRead number line was is (record { number = number; read = Err fault })
read_faulty number line was is fault named later why = faulty number line was is fault named later (line_faulty number line (Rose was is) fault named why)

-- ---- a plain line

-- it is seen as what it reads as
pub plain_reads : (read : Result Command LineFault) → IsRequestAtMost read → read_seen (plain_read read) ≡ read
plain_reads (Ok blank) most = refl
plain_reads (Ok sync) most = absurd most
plain_reads (Ok (request r)) most = refl
plain_reads (Ok (explain r)) most = absurd most
plain_reads (Ok (update one)) most = absurd most
plain_reads (Ok (batch all)) most = absurd most
plain_reads (Err fault) most = refl

exactly : (number : ℕ) (line : List ℕ) (read : Result Command LineFault) → command_of number line ≡ read → LineReads number line read 0
exactly number line (Ok command) is = (is, refl)
exactly number line (Err fault) is = inl (is, refl)

pub plain_read_so : (line : CutSeen) (was is : ℕ) → IsPlainLine line → is ≡ was → HasRead line.number line.bytes was is (seen_line (round.Plain line))
plain_read_so line was is plain calm =
    let same = sym (plain_reads (command_of line.number line.bytes) plain.most) in
    record {
      stops = 0;
      numbered = refl;
      reads = exactly line.number line.bytes (read_seen (plain_read (command_of line.number line.bytes))) same;
      rises = omega (arith, calm);
      syncs = ap is_sync same;
      asks = ap asks same;
    }

-- whether it asks one, as it is seen
pub plain_asks : (line : CutSeen) → IsPlainLine line → is_asking (seen_line (round.Plain line)) ≡ is_asked (command_of line.number line.bytes)
plain_asks line plain = ap is_asked (plain_reads (command_of line.number line.bytes) plain.most)

-- ---- a round

-- what a round holds with the line
pub held_so : (held : Held) (number : ℕ) (line : List ℕ) (was is : ℕ) (read : ReadLine) → HasRead number line was is read → held_with held (length line) read ≡ with_line held number line
held_so held number line was is read has = ap (λ (n : ℕ). record { lines = held.lines + 1; bytes = held.bytes + length line; asked = held.asked + n }) (sym has.asks)

-- whether it ends with it
pub ends_so : (held : Held) (number : ℕ) (line : List ℕ) (was is : ℕ) (read : ReadLine) (ends : Bool) → HasRead number line was is read → ends ≡ (is_sync (read_seen read.read) || is_full (held_with held (length line) read))
    → ends_round held number line ≡ ends
ends_so held number line was is read ends has same =
    ap (λ (b : Bool). b || is_full (with_line held number line)) has.syncs
    ∙ ap (λ (h : Held). is_sync (read_seen read.read) || is_full h) (sym (held_so held number line was is read has)) ∙ sym same

-- a line that was read is taken in as it was read
pub taken_so : {E : Type 0} (result : Result RoundLine E) (number : ℕ) (line : List ℕ) (was is : ℕ) (read : ReadLine) → HasRead number line was is read
    → IfOk result (λ taken. (seen_line taken ≡ read) × IsTaken taken) → IfOk result (HasTaken number line was is)
taken_so (Ok taken) number line was is read has told =
    record { has = subst (λ (it : ReadLine). HasRead number line was is it) (sym told.0) has; within = told.1 }
taken_so (Err refused) number line was is read has told = tt

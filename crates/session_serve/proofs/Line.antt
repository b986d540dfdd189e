-- One line of a round, as the code serves it.
use Rattle.std.proofs.Common.{◌≡◌, ℕ, ◌+◌, ◌%◌, List, [], ◌∷◌, length, Bool, true, false, Option, Result, Ok, Err, refl, sym, ap, ◌∙◌, subst}
use Rattle.std.specs.Prelude.{◌||◌}
use Rattle.dnr_io.specs.Sink.{AppendsPart}
use Rattle.rule_spec.specs.State.{State}
use Rattle.line_spec.specs.Line.{command_of}
use Rattle.session_spec.specs.Answers.{Setting}
use Rattle.session_spec.specs.Rounds.{Held, with_line, ends_round, is_sync, is_full}
use Rattle.session_laws.specs.Turns.{LineTold, FaultsRise}
use Rattle.session_serve.specs.Round.{Kept, IsKindOf, syncs, asks_of, with_one, Closes, LineServed, RoundCut}
use Rattle.session_serve.specs.declared.line_kind.LineKind.{LineKind}

-- by its kind a line adds what it adds, and ends what it ends
pub adds_so : (held : Held) (number : ℕ) (line : List ℕ) (kind : LineKind) → IsKindOf (command_of number line) kind → with_one held (length line) kind ≡ with_line held number line
adds_so held number line kind is = ap (λ (n : ℕ). record { lines = held.lines + 1; bytes = held.bytes + length line; asked = held.asked + n }) (sym is.1)

pub ends_so : (held : Held) (number : ℕ) (line : List ℕ) (kind : LineKind) → IsKindOf (command_of number line) kind
    → (syncs kind || is_full (with_one held (length line) kind)) ≡ ends_round held number line
ends_so held number line kind is =
    ap (λ h. syncs kind || is_full h) (adds_so held number line kind is) ∙ ap (λ b. b || is_full (with_line held number line)) (sym is.0)

pub line_served : (setting : Setting) (state next : State) (faults later : List ℕ) (number : ℕ) (line : List ℕ) (before now : Option (List ℕ)) (kept left : Kept) (grown : List ℕ) (kind : LineKind)
    → IsKindOf (command_of number line) kind → LineTold setting state number (kept.held.asked % setting.workers) line kept.text grown next (FaultsRise faults later)
    → Closes (syncs kind || is_full (with_one kept.held (length line) kind)) before now grown (with_one kept.held (length line) kind) left
    → LineServed setting state next faults later number line before now kept left
line_served setting state next faults later number line before now kept left grown kind is told closes = record {
  grown = grown;
  answer = told;
  closes = subst (λ (h : Held). Closes (ends_round kept.held number line) before now grown h left) (adds_so kept.held number line kind is)
      (subst (λ (e : Bool). Closes e before now grown (with_one kept.held (length line) kind) left) (ends_so kept.held number line kind is) closes);
}

pub round_cut : (setting : Setting) (state next : State) (faults later : List ℕ) (number : ℕ) (line : List ℕ) (before now : Option (List ℕ)) (kept : Kept) (grown : List ℕ) (kind : LineKind)
    → IsKindOf (command_of number line) kind → LineTold setting state number (kept.held.asked % setting.workers) line kept.text grown next (FaultsRise faults later)
    → (syncs kind || is_full (with_one kept.held (length line) kind)) ≡ true → AppendsPart before now grown
    → RoundCut setting state faults later number line before now kept
round_cut setting state next faults later number line before now kept grown kind is told ends part = record {
  grown = grown;
  next = next;
  answer = told;
  ends = sym (ends_so kept.held number line kind is) ∙ ends;
  part = part;
}

-- Lines that are read one after another.
use Rattle.std.proofs.Common.{◌≡◌, ℕ, suc, ◌+◌, List, [], ◌∷◌, ◌++◌, length, Result, Ok, Err, refl, ◌∙◌, inl, inr, subst, arith}
use Rattle.line_spec.specs.Line.{Command}
use Rattle.line_spec.specs.declared.line_fault.LineFault.{LineFault}
use Rattle.session_rounds.specs.Lines.{read_seen}
use Rattle.session_rounds.specs.Read.{OneRead, LinesRead}
use Rattle.session_rounds.specs.declared.read_line.ReadLine.{ReadLine}
use Rattle.session_seats.specs.Reading.{LineReads}

-- the same line before other ones
on : (number : ℕ) (line : List ℕ) (read : Result Command LineFault) (stops more : ℕ) (Rest Later : ℕ → Type 0) → ((left : ℕ) → Rest left → Later (left + more)) → OneRead number line read stops Rest → OneRead number line read (stops + more) Later
on number line (Ok command) stops more Rest Later rest one = (one.0, rest stops one.1)
on number line (Err fault) stops more Rest Later rest (inl one) = inl (one.0, rest stops one.1)
on number line (Err fault) stops more Rest Later rest (inr one) =
    inr (one.0, one.1, (one.2.0 + more, (let up : stops + more ≡ suc (one.2.0 + more) = omega (arith, one.2.1) in up), rest one.2.0 one.2.2))

-- a line before none
alone : (number : ℕ) (line : List ℕ) (read : Result Command LineFault) (stops : ℕ) → LineReads number line read stops → OneRead number line read stops (λ left. left ≡ 0)
alone number line (Ok command) stops reads = (reads.0, reads.1)
alone number line (Err fault) stops (inl reads) = inl (reads.0, reads.1)
alone number line (Err fault) stops (inr reads) = inr (reads.0, reads.1, (0, (let one : stops ≡ suc 0 = omega (arith, reads.2) in one), refl))

only : (number : ℕ) (line : List ℕ) (read : ReadLine) (stops : ℕ) → read.number ≡ number → LineReads number line (read_seen read.read) stops → LinesRead number (line ∷ []) (read ∷ []) stops
only number line read stops same reads = (same, alone number line (read_seen read.read) stops reads)

-- one line more at the end
pub one_read : (number next : ℕ) (lines : List (List ℕ)) (reads : List ReadLine) (stops : ℕ) (line : List ℕ) (read : ReadLine) (more : ℕ) → next ≡ number + length lines → read.number ≡ next
    → LinesRead number lines reads stops → LineReads next line (read_seen read.read) more → LinesRead number (lines ++ line ∷ []) (reads ++ read ∷ []) (stops + more)
one_read number next [] [] stops line read more place same so_far one =
    let here : next ≡ number = omega (arith, place) in
    let all : more ≡ stops + more = omega (arith, so_far) in
    subst (λ (n : ℕ). LinesRead number (line ∷ []) (read ∷ []) n) all
    (only number line read more (same ∙ here) (subst (λ (n : ℕ). LineReads n line (read_seen read.read) more) here one))
one_read number next [] (at ∷ reads) stops line read more place same so_far one = absurd so_far
one_read number next (first ∷ lines) [] stops line read more place same so_far one = absurd so_far
one_read number next (first ∷ lines) (at ∷ reads) stops line read more place same so_far one = (
  so_far.0,
  on number first (read_seen at.read) stops more (λ left. LinesRead (number + 1) lines reads left) (λ left. LinesRead (number + 1) (lines ++ line ∷ []) (reads ++ read ∷ []) left)
      (λ left rest. one_read (number + 1) next lines reads left line read more (omega (arith, place)) same rest one) so_far.1,
)

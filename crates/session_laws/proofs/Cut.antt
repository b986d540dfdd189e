-- Where a script is cut into rounds: what was read so far, and what comes.
use Rattle.std.proofs.Common.{◌≡◌, ℕ, ◌+◌, List, [], ◌∷◌, ◌++◌, true, false, refl, sym, ap, ◌∙◌, append_assoc}
use Rattle.session_spec.specs.Rounds.{Held, holds_nothing, with_line, ends_round, onto_first, rounds_from, rounds_of, onto_whole, whole_rounds_from, whole_rounds_of}

-- lines of an unfinished round, at the front of rounds that are whole
abbrev pub held_whole : List (List ℕ) → List (List (List ℕ)) → List (List (List ℕ))
held_whole begun [] = []
held_whole begun (round ∷ rounds) = (begun ++ round) ∷ rounds

-- the same where the script may end in that round
abbrev pub alone_open : List (List ℕ) → List (List (List ℕ))
alone_open [] = []
alone_open (line ∷ lines) = (line ∷ lines) ∷ []

abbrev pub held_open : List (List ℕ) → List (List (List ℕ)) → List (List (List ℕ))
held_open begun [] = alone_open begun
held_open begun (round ∷ rounds) = (begun ++ round) ∷ rounds

-- What was read is these whole rounds, and the lines of an unfinished one that holds so much; the next line has this
-- number.
pub record Cut (done : List (List ℕ)) (rounds : List (List (List ℕ))) (begun : List (List ℕ)) (held : Held) (number : ℕ) : Type 0 where
  pub whole : (later : List (List ℕ)) → whole_rounds_of (done ++ later) ≡ rounds ++ held_whole begun (whole_rounds_from held number later)
  pub all : (later : List (List ℕ)) → rounds_of (done ++ later) ≡ rounds ++ held_open begun (rounds_from held number later)

held_none : (rounds : List (List (List ℕ))) → rounds ≡ held_whole [] rounds
held_none [] = refl
held_none (round ∷ rounds) = refl

open_none : (rounds : List (List (List ℕ))) → rounds ≡ held_open [] rounds
open_none [] = refl
open_none (round ∷ rounds) = refl

pub cut_first : Cut [] [] [] holds_nothing 1
cut_first = record {
  whole = λ later. held_none (whole_rounds_from holds_nothing 1 later);
  all = λ later. open_none (rounds_from holds_nothing 1 later);
}

one_at_end : (begun : List (List ℕ)) (line : List ℕ) (rounds : List (List (List ℕ))) → held_whole begun (onto_whole line rounds) ≡ held_whole (begun ++ line ∷ []) rounds
one_at_end begun line [] = refl
one_at_end begun line (round ∷ rounds) = ap (λ r. r ∷ rounds) (sym (append_assoc begun (line ∷ []) round))

some_open : (begun : List (List ℕ)) (line : List ℕ) → (begun ++ line ∷ []) ∷ [] ≡ alone_open (begun ++ line ∷ [])
some_open [] line = refl
some_open (first ∷ begun) line = refl

one_at_open_end : (begun : List (List ℕ)) (line : List ℕ) (rounds : List (List (List ℕ))) → held_open begun (onto_first line rounds) ≡ held_open (begun ++ line ∷ []) rounds
one_at_open_end begun line [] = some_open begun line
one_at_open_end begun line (round ∷ rounds) = ap (λ r. r ∷ rounds) (sym (append_assoc begun (line ∷ []) round))

-- one more line, after which the round goes on
pub cut_on : (done : List (List ℕ)) (rounds : List (List (List ℕ))) (begun : List (List ℕ)) (held : Held) (number : ℕ) (line : List ℕ)
    → ends_round held number line ≡ false → Cut done rounds begun held number
    → Cut (done ++ line ∷ []) rounds (begun ++ line ∷ []) (with_line held number line) (number + 1)
cut_on done rounds begun held number line goes_on cut = record {
  whole = λ later. ap whole_rounds_of (append_assoc done (line ∷ []) later) ∙ cut.whole (line ∷ later)
      ∙ rw goes_on (ap (λ rs. rounds ++ rs) (one_at_end begun line (whole_rounds_from (with_line held number line) (number + 1) later)));
  all = λ later. ap rounds_of (append_assoc done (line ∷ []) later) ∙ cut.all (line ∷ later)
      ∙ rw goes_on (ap (λ rs. rounds ++ rs) (one_at_open_end begun line (rounds_from (with_line held number line) (number + 1) later)));
}

-- one more line, which ends the round
pub cut_end : (done : List (List ℕ)) (rounds : List (List (List ℕ))) (begun : List (List ℕ)) (held : Held) (number : ℕ) (line : List ℕ)
    → ends_round held number line ≡ true → Cut done rounds begun held number
    → Cut (done ++ line ∷ []) (rounds ++ (begun ++ line ∷ []) ∷ []) [] holds_nothing (number + 1)
cut_end done rounds begun held number line ends cut = record {
  whole = λ later. ap whole_rounds_of (append_assoc done (line ∷ []) later) ∙ cut.whole (line ∷ later)
      ∙ rw ends (ap (λ rs. rounds ++ (begun ++ line ∷ []) ∷ rs) (held_none (whole_rounds_from holds_nothing (number + 1) later)) ∙ sym (append_assoc rounds ((begun ++ line ∷ []) ∷ []) (held_whole [] (whole_rounds_from holds_nothing (number + 1) later))));
  all = λ later. ap rounds_of (append_assoc done (line ∷ []) later) ∙ cut.all (line ∷ later)
      ∙ rw ends (ap (λ rs. rounds ++ (begun ++ line ∷ []) ∷ rs) (open_none (rounds_from holds_nothing (number + 1) later)) ∙ sym (append_assoc rounds ((begun ++ line ∷ []) ∷ []) (held_open [] (rounds_from holds_nothing (number + 1) later))));
}

-- What a session may write that answers its lines one after another.
use Rattle.std.specs.Prelude.{◌≡◌, ◌≤◌, ℕ, List, All, true, false}
use Rattle.dnr_base.specs.Faults.{Count}
use Rattle.dnr_spec.specs.declared.status.Status.TheVariants.{Done, FileTooLong}
use Rattle.dnr_spec.specs.Lines.{lines_of, is_within_limits}
use Rattle.rule_spec.specs.State.{State}
use Rattle.load_spec.specs.Files.{Files}
use Rattle.session_spec.specs.Answers.{Setting}
use Rattle.session_spec.specs.InTurn.{rounds_in_turn}
use Rattle.session_spec.specs.Out.{Outside, Out}
use Rattle.session_spec.specs.Rounds.{rounds_of, whole_rounds_of, short_lines}
use Rattle.session_spec.specs.Said.{lines_text}

-- no count of faults is less than it was
abbrev pub NoneFell : List Count → Type 0
NoneFell counts = All (λ count. count.before ≤ count.now) counts

-- what is written where the lines of these rounds are answered in turn, from this state on
abbrev pub text_in_turn : Setting → State → List (List (List ℕ)) → List ℕ
text_in_turn setting first rounds = lines_text 1 (rounds_in_turn setting first 1 rounds)

-- The session may answer this script in turn: all of it, or, where it is too long, the rounds that are whole before what is
-- too long.
pub record MayAnswerInTurn (words : List (List ℕ)) (files : Files) (outside : Outside) (setting : Setting) (first : State) (script : List ℕ) : Type 0 where
  pub all : is_within_limits script ≡ true → Out words files outside Done (text_in_turn setting first (rounds_of (lines_of script)))
  pub short : is_within_limits script ≡ false → Out words files outside FileTooLong (text_in_turn setting first (whole_rounds_of (short_lines script)))

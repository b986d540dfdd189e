-- What one line is answered, in parts.
use Rattle.std.specs.Prelude.{◌≡◌, ◌≢◌, ℕ, List, [], ◌∷◌, ◌++◌, Bool, true, false, Result, cond}
use Rattle.dnr_base.specs.Faults.{Rose}
use Rattle.rule_spec.specs.State.{State}
use Rattle.update_spec.specs.declared.refusal.Refusal.{Refusal}
use Rattle.update_spec.specs.declared.refusal.Refusal.TheVariants as refusal
use Rattle.line_spec.specs.declared.line_fault.LineFault.{LineFault}
use Rattle.line_spec.specs.Line.{Command}
use Rattle.session_spec.specs.Answers.{Setting, Replies, RisesBy}
use Rattle.session_spec.specs.Said.{Answer, Said, is_failed, answer_line, said_line, count_failed, count_stopped}
use Rattle.session_laws.specs.Turns.{RiseBy}

-- how often the host failed in an answer
abbrev pub times_in : Answer → ℕ
times_in answer = cond (is_failed answer) 1 0

-- an answer was appended that fits this state, and the count of the host's faults rose with it
pub record AnswerTold (Fits : State → Answer → Type 0) (state : State) (number : ℕ) (before now : List ℕ) (was is : ℕ) : Type 0 where
  pub answer : Answer
  pub fits : Fits state answer
  pub appended : now ≡ before ++ answer_line number state.count answer
  pub rises : RisesBy (times_in answer) (record { before = was; now = is })

-- what a line says that asks for this was appended, and the counts of the finders rose so
pub record CommandTold (setting : Setting) (now : State) (number seat : ℕ) (read : Result Command LineFault) (text grown : List ℕ) (next : State) (was is : List ℕ) : Type 0 where
  pub told : Said
  pub says : Replies setting (now ∷ []) now seat read told next
  pub appended : grown ≡ text ++ said_line number told
  pub rises : RiseBy (λ place. count_failed place (told ∷ [])) was is
  pub calm : count_stopped (told ∷ []) ≡ 0

-- what a line says that asks no finder, and the state after it
pub record ReplyTold (setting : Setting) (now : State) (number : ℕ) (read : Result Command LineFault) (text grown : List ℕ) (next : State) : Type 0 where
  pub told : Said
  pub says : (seat : ℕ) → Replies setting (now ∷ []) now seat read told next
  pub appended : grown ≡ text ++ said_line number told
  pub quiet : (place : ℕ) → count_failed place (told ∷ []) ≡ 0
  pub calm : count_stopped (told ∷ []) ≡ 0

-- it is a cause that a line names
abbrev pub IsNamed : Refusal → Type 0
IsNamed cause = cause ≢ refusal.NoMemory

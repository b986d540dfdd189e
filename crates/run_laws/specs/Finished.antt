-- What stands written at the end of a run, as a beginning of what may be written whole.
use Rattle.std.specs.Prelude.{◌≡◌, ◌⊎◌, ℕ, List, [], ◌++◌, true, false, Some}
use Rattle.dnr_base.specs.Faults.{Count}
use Rattle.dnr_spec.specs.declared.status.Status.{Status}
use Rattle.dnr_spec.specs.declared.status.Status.TheVariants.{Done, Refused, FileTooLong}
use Rattle.dnr_spec.specs.Lines.{is_within_limits}
use Rattle.rule_spec.specs.State.{State}
use Rattle.load_spec.specs.Files.{Files}
use Rattle.session_spec.specs.Answers.{Setting, Serves}
use Rattle.session_spec.specs.Out.{Outside, IsBeginning, Out}

-- Behind what was written of these rounds the lines of those that come next may stand.
pub record GoesOn (hosts : List Count) (setting : Setting) (first : State) (rounds more : List (List (List ℕ))) (written : List ℕ) : Type 0 where
  pub rest : List ℕ
  pub serves : Serves hosts setting first (rounds ++ more) (written ++ rest)

-- A command that comes to its end may write these bytes: all that it is asked for, the one line that says what was refused,
-- or, where a file is too long, what it writes with that.
abbrev pub IsWhole : List (List ℕ) → Files → Outside → List ℕ → Type 0
IsWhole words files outside written =
    Out words files outside Done written ⊎ Out words files outside Refused written ⊎ Out words files outside FileTooLong written

-- nothing stands written, or a beginning of what may be written whole
abbrev pub StandsWritten : List (List ℕ) → Files → Outside → List ℕ → Type 0
StandsWritten words files outside written = (written ≡ []) ⊎ IsBeginning (IsWhole words files outside) written

-- it is a beginning of what the command may write where it ends so
abbrev pub EndsWith : List (List ℕ) → Files → Outside → Status → List ℕ → Type 0
EndsWith words files outside ended written = IsBeginning (Out words files outside ended) written

-- The script of this name is there, and what was written is a beginning of what the session may write of it whole: with Done,
-- or, where the script is too long, with FileTooLong.
pub record CanBeFinished (words : List (List ℕ)) (files : Files) (outside : Outside) (name written : List ℕ) : Type 0 where
  pub script : List ℕ
  pub held : files name ≡ Some script
  pub all : is_within_limits script ≡ true → EndsWith words files outside Done written
  pub short : is_within_limits script ≡ false → EndsWith words files outside FileTooLong written

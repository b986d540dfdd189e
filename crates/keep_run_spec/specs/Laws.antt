-- Laws of rules that are kept in a file.
use Rattle.std.specs.Prelude.{◌≡◌, ◌⊎◌, ℕ, List, ◌++◌, true, Some, IfSome}
use Rattle.dnr_base.specs.Faults.{Count}
use Rattle.dnr_spec.specs.Lines.{is_within_limits}
use Rattle.load_spec.specs.Files.{Files}
use Rattle.keep_spec.specs.Kept.{Kept}
use Rattle.keep_run_spec.specs.Answers.{Answered}
use Rattle.keep_run_spec.specs.Ends.{Around, HasRisen}

-- what first lines say is a beginning of what they say with others behind them
abbrev pub AnswersGoOn : Type 0
AnswersGoOn =
    (host : Count) (first : Kept) (lines later : List (List ℕ)) (last : Kept) (text : List ℕ) → Answered host first lines last text
    → (rest : List ℕ) × (end : Kept) × Answered host first (lines ++ later) end (text ++ rest)

-- something failed on the way
abbrev pub SomethingFailed : Around → Type 0
SomethingFailed around = HasRisen around.shelf ⊎ HasRisen around.sink ⊎ HasRisen around.host ⊎ HasRisen around.disk

-- the script, where it is there, is within the limits
abbrev pub HasShortScript : Files → List ℕ → Type 0
HasShortScript files name = IfSome (files name) (λ script. is_within_limits script ≡ true)

-- Lines that are answered in turn: each request on the state that the earlier lines leave. What a session says that
-- serves its script so is one of the things that any number of seats may say.
use Rattle.std.specs.Prelude.{◌≡◌, ℕ, zero, suc, ◌+◌, ◌%◌, ◌≤◌, List, [], ◌∷◌, ◌++◌}
use Rattle.std.specs.List.{AllZip}
use Rattle.dnr_base.specs.Faults.{Count}
use Rattle.rule_spec.specs.State.{State}
use Rattle.session_spec.specs.Answers.{Setting, Says, FirstAndRest, RisesBy}
use Rattle.session_spec.specs.Rounds.{Held, with_line}
use Rattle.session_spec.specs.Said.{Said, said_line, count_failed, count_stopped}

-- What lines say in turn, the states that they pass through, and what the round holds after them. Before them it held
-- this, and the first has this number.
abbrev pub TurnsSay : Setting → State → ℕ → Held → List (List ℕ) → List Said → List State → State → Held → Type 0
TurnsSay setting now number held [] said through last filled = (said ≡ []) × (through ≡ now ∷ []) × (last ≡ now) × (filled ≡ held)
TurnsSay setting now number held (line ∷ lines) said through last filled =
    FirstAndRest now said through (λ told next. Says setting (now ∷ []) now number (held.asked % setting.workers) line told next)
    (λ next others later. TurnsSay setting next (number + 1) (with_line held number line) lines others later last filled)

-- ---- one line

-- how often the host at each place failed, by what was told: the first reads lines, and each other is a seat's
abbrev pub times_of : List Said → ℕ → ℕ
times_of said zero = count_stopped said
times_of said (suc seat) = count_failed seat said

-- Each of these counts rose by so much at least, and there is nothing to count beyond the last.
abbrev pub RiseBy : (ℕ → ℕ) → List ℕ → List ℕ → Type 0
RiseBy times [] [] = (place : ℕ) → times place ≡ 0
RiseBy times [] (now ∷ later) = ⊥
RiseBy times (before ∷ others) [] = ⊥
RiseBy times (before ∷ others) (now ∷ later) =
    RisesBy (times zero) (record { before = before; now = now }) × RiseBy (λ place. times (suc place)) others later

-- the counts of faults of the hosts rose with what a line says
abbrev pub FaultsRise : List ℕ → List ℕ → Said → Type 0
FaultsRise before now told = RiseBy (times_of (told ∷ [])) before now

-- no count fell
abbrev pub NoneFell : List ℕ → List ℕ → Type 0
NoneFell before now = AllZip (λ b n. b ≤ n) before now

-- counts before and after
abbrev pub counts_between : List ℕ → List ℕ → List Count
counts_between [] now = []
counts_between (before ∷ others) [] = []
counts_between (before ∷ others) (now ∷ later) = record { before = before; now = now } ∷ counts_between others later

-- what a line says was appended to a text, and the counts of faults rose so
pub record LineTold (setting : Setting) (now : State) (number seat : ℕ) (line text grown : List ℕ) (next : State) (Rises : Said → Type 0) : Type 0 where
  pub told : Said
  pub says : Says setting (now ∷ []) now number seat line told next
  pub appended : grown ≡ text ++ said_line number told
  pub rises : Rises told

-- What every schedule keeps, in whatever order its events come.
use Rattle.std.specs.Prelude.{ℕ, ◌≡◌, ◌≤◌, ◌+◌, List, length, slice_get, Some}
use Rattle.swap_core.specs.declared.event.Event.{Event}
use Rattle.swap_core.specs.declared.event.Event.TheVariants.{Enter}
use Rattle.swap_core.specs.Schedule.{Machine, IsMachine, published, seen}

-- the reader enters at this place, and answers by what is published there
pub record Answers (start : Machine) (events : List Event) (reader place number : ℕ) : Type 0 where
  pub entered : slice_get events place ≡ Some (Enter reader)
  pub newest : number ≡ published start events place

-- an answer from a place on is at least what was published at that place, and at most what is at the end
abbrev pub AnswersLieBetween : Type 0
AnswersLieBetween =
    (start : Machine) (events : List Event) (reader from place number : ℕ) → from ≤ place → Answers start events reader place number
    → (published start events from ≤ number) × (number ≤ published start events (length events))

-- of two answers of a reader the later is not the smaller
abbrev pub AnswersNeverFall : Type 0
AnswersNeverFall =
    (start : Machine) (events : List Event) (reader first then earlier later : ℕ) → first ≤ then
    → Answers start events reader first earlier → Answers start events reader then later → earlier ≤ later

-- an answer is what its reader has seen behind it, and at least what the reader had seen at any place up to it
abbrev pub AnswersTellWhatIsSeen : Type 0
AnswersTellWhatIsSeen =
    (start : Machine) (events : List Event) (reader place number : ℕ) → Answers start events reader place number
    → (seen start events reader (place + 1) ≡ number)
    × (IsMachine start → (earlier : ℕ) → earlier ≤ place → seen start events reader earlier ≤ number)

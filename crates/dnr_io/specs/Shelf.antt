-- What a shelf holds under each name, where it tells.
use Rattle.std.specs.Prelude.{◌≡◌, ℕ, ◌<◌, List, length, Option, Some, IfSome, IsSome, IsSomeAnd}

-- what each name holds, if it holds anything
abbrev pub Names : Type 0
Names = List ℕ → Option (List ℕ)

-- the name holds these bytes
abbrev pub Holds : Option Names → List ℕ → List ℕ → Type 0
Holds files name bytes = IfSome files (λ held. held name ≡ Some bytes)

-- the name holds more bytes than the limit
abbrev pub HoldsMore : Option Names → List ℕ → ℕ → Type 0
HoldsMore files name limit = IfSome files (λ held. IsSomeAnd (held name) (λ bytes. limit < length bytes))

-- what is left to read is what the name holds
abbrev pub IsStarted : Option Names → List ℕ → Option (List ℕ) → Type 0
IsStarted files name left = IfSome files (λ held. IsSome left × (left ≡ held name))

-- what a shelf of real files counts: its faults, and how often a file was started
pub record ShelfCounts : Type 0 where
  pub faults : ℕ
  pub starts : ℕ

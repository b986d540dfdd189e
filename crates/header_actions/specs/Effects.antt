-- What is kept of the changes of one direction that took effect: how many, and the first on each header.
use Rattle.std.specs.Prelude.{◌≡◌, ℕ, ◌+◌, ◌==◌, List, [], ◌∷◌, ◌++◌, bytes_eq, Bool, true, false, not, ◌&&◌, nat_lt, Option, Some, None, option_map, Result, Ok, Err, find, count_by, if◌then◌else◌}
use Rattle.std.specs.List.{list_any}
use Rattle.std.specs.HashMap.{get_by}
use Rattle.dnr_base.specs.declared.no_memory.NoMemory.{NoMemory}
use Rattle.dnr_base.specs.declared.operation.Operation.{Operation}
use Rattle.dnr_base.specs.declared.direction.Direction.{Direction}
use Rattle.dnr_base.specs.declared.offered.Offered.{Offered}
use Rattle.dnr_spec.specs.Headers.{is_same_direction, forbids, may_follow, max_effective}
use Rattle.header_actions.specs.declared.effects.Effects.{Effects}

-- ---- by the definition

-- what a change does, and the age of its extension
abbrev pub First : Type 0
First = Operation × ℕ

-- the first of these changes on a header
abbrev pub first_on : Direction → List ℕ → List Offered → Option First
first_on direction name before =
    option_map (λ first. (first.operation, first.age)) (find (λ earlier. is_same_direction direction earlier.direction && bytes_eq name earlier.name) before)

abbrev pub count_on : Direction → List Offered → ℕ
count_on direction before = count_by (λ earlier. is_same_direction direction earlier.direction) before

-- the first change on its header lets an offer take effect
abbrev pub lets : Option First → Offered → Bool
lets None offer = true
lets (Some first) offer = may_follow first.0 (first.1 == offer.age) offer.operation

-- the first change on a header alone says what may follow
abbrev pub IsSettled : List Offered → Type 0
IsSettled before = (offer : Offered) → list_any (λ earlier. forbids earlier offer) before ≡ not (lets (first_on offer.direction offer.name before) offer)

-- the first change on a header, once this one took effect
abbrev pub with_first : Option First → Offered → Option First
with_first None offer = Some (offer.operation, offer.age)
with_first (Some first) offer = Some first

abbrev pub with_taken : List Offered → Offered → Bool → List Offered
with_taken before offer took = if took then before ++ offer ∷ [] else before

-- ---- what is kept

-- the first change that is kept for a header
abbrev pub first_kept : Effects → List ℕ → Option First
first_kept effects name = get_by (λ k. bytes_eq name k.now) effects.first

abbrev pub admits : ℕ → Option First → Offered → Bool
admits count first offer = nat_lt count max_effective && lets first offer

-- what is kept stands for these changes
pub record Keeps (effects : Effects) (direction : Direction) (before : List Offered) : Type 0 where
  pub count : effects.count ≡ count_on direction before
  pub first : (name : List ℕ) → first_kept effects name ≡ first_on direction name before

-- where no change of the header came before, this one is its first
abbrev pub FirstIsSet : Effects → Effects → Offered → Type 0
FirstIsSet old new offer =
    (name : List ℕ) → first_kept new name ≡ (if bytes_eq offer.name name then with_first (first_kept old offer.name) offer else first_kept old name)

pub record Remembers (old new : Effects) (offer : Offered) : Type 0 where
  pub count : new.count ≡ old.count
  pub first : FirstIsSet old new offer

pub record Takes (old new : Effects) (offer : Offered) : Type 0 where
  pub count : new.count ≡ old.count + 1
  pub first : FirstIsSet old new offer

-- an offer was considered: it was taken in where it takes effect, and else nothing changed
abbrev pub Goes : Effects → Effects → Offered → Result Bool NoMemory → Type 0
Goes old new offer (Ok true) = (admits old.count (first_kept old offer.name) offer ≡ true) × Takes old new offer
Goes old new offer (Ok false) = (admits old.count (first_kept old offer.name) offer ≡ false) × (new ≡ old)
Goes old new offer (Err e) = Unit {0}

-- What is published, and what each reader has seen, anywhere in a list of events. Places count from 0.
use Rattle.std.specs.Prelude.{ℕ, zero, suc, ◌+◌, ◌==◌, ◌<◌, ◌≤◌, min, Bool, true, false, if◌then◌else◌, List, get_or, take, slice_get, All, Option, None, Some, count_by, option_map, unwrap_or, ⊤}
use Rattle.swap_core.specs.declared.event.Event.{Event}
use Rattle.swap_core.specs.declared.event.Event.TheVariants.{Publish, Enter, Learn}

-- how many updates are published, and how many of them each reader has seen
pub record Machine : Type 0 where
  pub published : ℕ
  pub seen : List ℕ

-- the most that is ever published
abbrev pub max_published : ℕ
max_published = 1000000

-- what was seen was published
pub record IsMachine (machine : Machine) : Type 0 where
  pub bounded : machine.published ≤ max_published
  pub published_first : All (λ number. number ≤ machine.published) machine.seen

-- a reader that the event names is one of so many
abbrev pub IsReader : ℕ → Event → Type 0
IsReader readers Publish = ⊤
IsReader readers (Enter reader) = reader < readers
IsReader readers (Learn reader) = reader < readers

abbrev pub is_publish : Event → Bool
is_publish Publish = true
is_publish (Enter reader) = false
is_publish (Learn reader) = false

-- whether this reader sees, at the event, what is published
abbrev pub is_look : ℕ → Event → Bool
is_look reader Publish = false
is_look reader (Enter other) = other == reader
is_look reader (Learn other) = other == reader

-- how much is published once the events before a place are over
abbrev pub published : Machine → List Event → ℕ → ℕ
published start events place = min max_published (start.published + count_by is_publish (take place events))

abbrev pub looks_at : ℕ → Option Event → Bool
looks_at reader None = false
looks_at reader (Some event) = is_look reader event

-- the greatest place below this one at which the reader looks, if there is one
abbrev pub last_look : ℕ → List Event → ℕ → Option ℕ
last_look reader events zero = None
last_look reader events (suc place) = if looks_at reader (slice_get events place) then Some place else last_look reader events place

-- how much a reader has seen once the events before a place are over: what was published when it last looked
abbrev pub seen : Machine → List Event → ℕ → ℕ → ℕ
seen start events reader place = unwrap_or (option_map (published start events) (last_look reader events place)) (get_or start.seen reader 0)

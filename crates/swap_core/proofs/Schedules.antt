-- What one event more changes, and that nothing falls.
use Rattle.std.proofs.Common.{ℕ, zero, suc, ◌≡◌, ◌+◌, ◌≤◌, ◌==◌, Bool, true, false, if◌then◌else◌, List, [], ◌∷◌, get_or, take, slice_get, All, Option, Some, None, sum_by, option_map, unwrap_or, refl, ap, arith}
use Rattle.std.proofs.lemmas.List.Sums.{sum_by_more, sum_by-cons}
use Rattle.std.proofs.lemmas.List.Elements.{All-head, All-tail}
use Rattle.std.proofs.lemmas.Bool.Decides.{nat_tests}
use Rattle.std.proofs.lemmas.Option.{slice_get_within, get_or_from_slice_get}
use Rattle.swap_core.specs.declared.event.Event.{Event}
use Rattle.swap_core.specs.declared.event.Event.TheVariants.{Enter}
use Rattle.swap_core.specs.Schedule.{Machine, IsMachine, is_publish, is_look, looks_at, last_look, published, seen}

-- ---- one event more

pub published_more : (start machine : Machine) (events : List Event) (event : Event) (place : ℕ) → slice_get events place ≡ Some event
    → machine.published ≡ published start events place → published machine (event ∷ []) 1 ≡ published start events (place + 1)
published_more start machine events event place at now =
    let weight : Event → ℕ = λ e. if is_publish e then 1 else 0 in
    let more = sum_by_more weight events place event (slice_get_within events place event at) in
    let one = ap weight (get_or_from_slice_get events place event event at) in
    omega (arith, more, one, now)

newest : (before after : ℕ → ℕ) (looks : Bool) (last : Option ℕ) (place first now : ℕ) → after 0 ≡ before place → now ≡ unwrap_or (option_map before last) first
    → unwrap_or (option_map after (if looks then Some 0 else None)) now ≡ unwrap_or (option_map before (if looks then Some place else last)) first
newest before after true last place first now same is = same
newest before after false last place first now same is = is

pub seen_more : (start machine : Machine) (events : List Event) (event : Event) (place reader : ℕ) → slice_get events place ≡ Some event
    → machine.published ≡ published start events place → get_or machine.seen reader 0 ≡ seen start events reader place
    → seen machine (event ∷ []) reader 1 ≡ seen start events reader (suc place)
seen_more start machine events event place reader at now is =
    let same : published machine (event ∷ []) 0 ≡ published start events place = omega (arith, now) in
    rw at (newest (published start events) (published machine (event ∷ [])) (is_look reader event) (last_look reader events place) place (get_or start.seen reader 0) (get_or machine.seen reader 0) same is)

-- ---- nothing falls

sum_grows : {A : Type 0} (weight : A → ℕ) (xs : List A) (i j : ℕ) → i ≤ j → sum_by weight (take i xs) ≤ sum_by weight (take j xs)
sum_grows weight xs zero j le = omega arith
sum_grows weight xs (suc i) zero le = absurd (omega arith)
sum_grows weight [] (suc i) (suc j) le = omega arith
sum_grows weight (x ∷ xs) (suc i) (suc j) le =
    let rest = sum_grows weight xs i j (omega arith) in
    omega (arith, rest, sum_by-cons weight x (take i xs), sum_by-cons weight x (take j xs))

pub published_grows : (start : Machine) (events : List Event) (i j : ℕ) → i ≤ j → published start events i ≤ published start events j
published_grows start events i j le =
    let weight : Event → ℕ = λ e. if is_publish e then 1 else 0 in
    let more = sum_grows weight events i j le in
    omega (arith, more)

-- a reader that looks has then seen what is published
pub seen_there : (start : Machine) (events : List Event) (reader place : ℕ) → slice_get events place ≡ Some (Enter reader) → seen start events reader (suc place) ≡ published start events place
seen_there start events reader place at =
    let look : (reader == reader) ≡ true = grind (arith, nat_tests) in
    rw (at, look) refl

within : (numbers : List ℕ) (reader most : ℕ) → All (λ number. number ≤ most) numbers → get_or numbers reader 0 ≤ most
within [] reader most all = omega arith
within (number ∷ numbers) zero most all = All-head (λ n. n ≤ most) number numbers all
within (number ∷ numbers) (suc reader) most all = within numbers reader most (All-tail (λ n. n ≤ most) number numbers all)

at_most : (looks : Bool) (now : ℕ → ℕ) (last : Option ℕ) (place first : ℕ) → now place ≤ now (suc place) → unwrap_or (option_map now last) first ≤ now place
    → unwrap_or (option_map now (if looks then Some place else last)) first ≤ now (suc place)
at_most true now last place first grows le = grows
at_most false now last place first grows le = omega (arith, grows, le)

-- what was seen was published
pub seen_published : (start : Machine) (events : List Event) (reader place : ℕ) → IsMachine start → seen start events reader place ≤ published start events place
seen_published start events reader zero is =
    let first = within start.seen reader start.published is.published_first in
    let few = is.bounded in
    omega (arith, first, few)
seen_published start events reader (suc place) is =
    at_most (looks_at reader (slice_get events place)) (published start events) (last_look reader events place) place (get_or start.seen reader 0) (published_grows start events place (suc place) (omega arith)) (seen_published start events reader place is)

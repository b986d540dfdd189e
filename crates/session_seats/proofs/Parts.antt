-- The parts of a round, put together.
use Rattle.std.proofs.Common.{◌≡◌, ◌<◌, ◌+◌, ◌-◌, ◌++◌, ℕ, zero, suc, List, [], ◌∷◌, length, Option, Some, None, Result, Ok, Err, OnOk, refl, ◌∙◌, arith, All}
use Rattle.std.specs.Prelude.{IsSome, MatchOption}
use Rattle.std.specs.List.{AllZip}
use Rattle.std.proofs.lemmas.List.Elements.{All-nil, All-cons, All-head, All-rest}
use Rattle.generation.specs.Basis.{Basis}
use Rattle.update_spec.specs.Entries.{Entry}
use Rattle.session_laws.specs.Turns.{RiseBy, NoneFell}
use Rattle.session_rounds.specs.Rounds.{RoundAnswered}
use Rattle.session_rounds.specs.declared.read_line.ReadLine.{ReadLine}
use Rattle.session_spec.specs.Said.{count_failed}
use Rattle.session_seats.specs.Seats.{DeskSeen, AreSeats, AreSeatsFrom, HasBegun, HasEnded, HavePasses, IsTrusted, StaysSeat}

-- counts that rose so until then rose so until later
pub risen_to : (times : ℕ → ℕ) (before now later : List ℕ) → RiseBy times before now → NoneFell now later → RiseBy times before later
risen_to times [] [] [] rises fell = rises
risen_to times [] [] (l ∷ later) rises fell = absurd fell
risen_to times [] (n ∷ now) later rises fell = absurd rises
risen_to times (b ∷ before) [] later rises fell = absurd rises
risen_to times (b ∷ before) (n ∷ now) [] rises fell = absurd fell
risen_to times (b ∷ before) (n ∷ now) (l ∷ later) rises fell =
    (omega (arith, rises.0, fell.0), risen_to (λ place. times (suc place)) before now later rises.1 fell.1)

-- a round that was answered was so after further faults, too
pub answered_to : {T E : Type 0} (result : Result T E) (opening : Basis) (seats : ℕ) (reads : List ReadLine) (floor end : List Entry) (before now : List ℕ) (was is later : List ℕ)
    → OnOk result (RoundAnswered opening seats reads floor end before now was is) → OnOk result (NoneFell is later) → OnOk result (RoundAnswered opening seats reads floor end before now was later)
answered_to (Err e) opening seats reads floor end before now was is later answered fell = tt
answered_to (Ok x) opening seats reads floor end before now was is later answered fell = record {
  said = answered.said;
  says = answered.says;
  text = answered.text;
  order = answered.order;
  rises = risen_to (λ seat. count_failed seat answered.said) was is later answered.rises fell;
}

-- ---- seats

pub have_begun : (floor : List Entry) (before now : List DeskSeen) → AllZip (HasBegun floor) before now → All (λ d. d.answers ≡ []) now
have_begun floor [] [] zip = All-nil (λ (d : DeskSeen). d.answers ≡ [])
have_begun floor [] (n ∷ now) zip = absurd zip
have_begun floor (b ∷ before) [] zip = absurd zip
have_begun floor (b ∷ before) (n ∷ now) zip = All-cons (λ (d : DeskSeen). d.answers ≡ []) n now zip.0.fresh (have_begun floor before now zip.1)

pub have_passed_none : (floor : List Entry) (before now : List DeskSeen) → AllZip (HasBegun floor) before now → All (λ d. d.unasked ≡ []) now
have_passed_none floor [] [] zip = All-nil (λ (d : DeskSeen). d.unasked ≡ [])
have_passed_none floor [] (n ∷ now) zip = absurd zip
have_passed_none floor (b ∷ before) [] zip = absurd zip
have_passed_none floor (b ∷ before) (n ∷ now) zip = All-cons (λ (d : DeskSeen). d.unasked ≡ []) n now zip.0.unasked (have_passed_none floor before now zip.1)

-- the same seats, each at its place
still_from : (R : DeskSeen → DeskSeen → Type 0) (seat count : ℕ) (before now : List DeskSeen) → ((b n : DeskSeen) → R b n → StaysSeat b n) → AllZip R before now → AreSeatsFrom seat count before → AreSeatsFrom seat count now
still_from R seat count [] [] stays zip all = tt
still_from R seat count [] (n ∷ now) stays zip all = absurd zip
still_from R seat count (b ∷ before) [] stays zip all = absurd zip
still_from R seat count (b ∷ before) (n ∷ now) stays zip all =
    let same = stays b n zip.0 in (same.seat ∙ all.0, same.seats ∙ all.1, still_from R (seat + 1) count before now stays zip.1 all.2)

pub still_seats : (R : DeskSeen → DeskSeen → Type 0) (count : ℕ) (before now : List DeskSeen) → ((b n : DeskSeen) → R b n → StaysSeat b n) → AllZip R before now → AreSeats count before → AreSeats count now
still_seats R count before now stays zip all = still_from R 0 count before now stays zip all

-- one seat more
pub one_seat_more : (seat count : ℕ) (desks : List DeskSeen) (desk : DeskSeen) → desk.seat ≡ seat + length desks → desk.seats ≡ count → AreSeatsFrom seat count desks → AreSeatsFrom seat count (desks ++ desk ∷ [])
one_seat_more seat count [] desk here many all = (omega (arith, here), many, tt)
one_seat_more seat count (first ∷ desks) desk here many all = (all.0, all.1, one_seat_more (seat + 1) count desks desk (omega (arith, here)) many all.2)

-- of so many passes one less is left behind one seat more
pub one_taken : {X : Type 0} (taken : Option X) (all seat old new : ℕ) → old ≡ all - seat → MatchOption taken ((old ≡ 0) × (new ≡ 0)) (λ _. new + 1 ≡ old) → new ≡ all - (seat + 1)
one_taken None all seat old new left cases = omega (arith, cases)
one_taken (Some x) all seat old new left cases = omega (arith, cases)

-- and the seat has one while there are any
pub one_pass_more : (count : ℕ) (desks : List DeskSeen) (desk : DeskSeen) → (length desks < count → IsSome desk.pass) → HavePasses count desks → HavePasses count (desks ++ desk ∷ [])
one_pass_more zero [] desk has all = tt
one_pass_more (suc count) [] desk has all = (has (omega arith), tt)
one_pass_more zero (first ∷ desks) desk has all = tt
one_pass_more (suc count) (first ∷ desks) desk has all = (all.0, one_pass_more count desks desk (λ less. has (omega (arith, less))) all.1)

pub all_trusted : (opening : Basis) (reads : List ReadLine) (end : List Entry) (before now : List DeskSeen) → AllZip (HasEnded opening reads end) before now → All (IsTrusted opening reads end) now
all_trusted opening reads end [] [] zip = All-nil (IsTrusted opening reads end)
all_trusted opening reads end [] (n ∷ now) zip = absurd zip
all_trusted opening reads end (b ∷ before) [] zip = absurd zip
all_trusted opening reads end (b ∷ before) (n ∷ now) zip = All-cons (IsTrusted opening reads end) n now zip.0.trusted (all_trusted opening reads end before now zip.1)

may_begin_from : (seat count : ℕ) (desks : List DeskSeen) → 0 < count → All (λ d. d.answers ≡ []) desks → AreSeatsFrom seat count desks → All (λ d. (d.answers ≡ []) × (0 < d.seats)) desks
may_begin_from seat count [] some fresh seats = All-nil (λ (d : DeskSeen). (d.answers ≡ []) × (0 < d.seats))
may_begin_from seat count (d ∷ desks) some fresh seats =
    All-cons (λ (d : DeskSeen). (d.answers ≡ []) × (0 < d.seats)) d desks (All-head (λ (d : DeskSeen). d.answers ≡ []) d desks fresh, omega (arith, some, seats.1))
    (may_begin_from (seat + 1) count desks some (All-rest (λ (d : DeskSeen). d.answers ≡ []) d desks (d ∷ desks) refl fresh) seats.2)

pub may_begin : (count : ℕ) (desks : List DeskSeen) → 0 < count → All (λ d. d.answers ≡ []) desks → AreSeats count desks → All (λ d. (d.answers ≡ []) × (0 < d.seats)) desks
may_begin count desks some fresh seats = may_begin_from 0 count desks some fresh seats

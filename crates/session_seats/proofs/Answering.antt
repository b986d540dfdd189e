-- A round, from what its parts do to what is written of it.
use Rattle.std.proofs.Common.{◌≡◌, ◌<◌, ◌≤◌, ◌∙◌, ◌++◌, ℕ, List, [], ◌∷◌, length, get_or, replicate, Option, Result, Ok, Err, OnOk, refl, sym, ap, subst, arith, length-append, All}
use Rattle.std.specs.List.{AllZip}
use Rattle.std.specs.Io.KnownBytes.{Appends}
use Rattle.std.proofs.lemmas.List.{get_or-replicate, length-replicate}
use Rattle.std.proofs.lemmas.List.Elements.{All-nil, All-cons, All-head, All-rest}
use mathlib.Core.List.{IsPrefix}
use Rattle.dnr_io.specs.Sink.{AppendsPart}
use Rattle.generation.specs.Basis.{Basis}
use Rattle.update_spec.specs.Entries.{Entry}
use Rattle.session_laws.specs.Turns.{NoneFell}
use Rattle.session_rounds.specs.Rounds.{Settled, RoundAnswered}
use Rattle.session_rounds.specs.declared.read_line.ReadLine.{ReadLine}
use Rattle.session_rounds.proofs.Whole.{numbers_from}
use Rattle.session_seats.specs.Rounds.{AreWithin, WritesRound, CutsRound}
use Rattle.session_seats.specs.Seats.{DeskSeen, AreSeats, HasBegun, HasAnswered, HasAnsweredAll, HasEnded, HasPassedOverAll, HasWorked, IsTrusted, asking, places_of, share, unasking}
use Rattle.session_seats.specs.Reading.{ReadRound}
use Rattle.session_seats.specs.Said.{Said}
use Rattle.session_seats.specs.Writing.{OfficeSeen, HasWritten, WriterSaysAll}
use Rattle.session_seats.specs.declared.round_line.RoundLine.{RoundLine}
use Rattle.session_seats.proofs.Parts.{answered_to, have_begun, still_seats, all_trusted, may_begin}

-- ---- the work of a round

pub may_work : (floor : List Entry) (count : ℕ) (before now : List DeskSeen) → 0 < count → AllZip (HasBegun floor) before now → AreSeats count before → All (λ d. (d.answers ≡ []) × (0 < d.seats)) now
may_work floor count before now some begun seats =
    may_begin count now some (have_begun floor before now begun) (still_seats (HasBegun floor) count before now (λ b n one. one.stays) begun seats)

pub all_answered : (opening : Basis) (round : ReadRound) (before now : List DeskSeen) → AllZip (HasWorked opening round) before now → All (HasAnswered opening round.reads) now
all_answered opening round [] [] zip = All-nil (HasAnswered opening round.reads)
all_answered opening round [] (n ∷ now) zip = absurd zip
all_answered opening round (b ∷ before) [] zip = absurd zip
all_answered opening round (b ∷ before) (n ∷ now) zip = All-cons (HasAnswered opening round.reads) n now zip.0.answered (all_answered opening round before now zip.1)

-- a seat that had answered nothing has answered all of its share
answered_all : (opening : Basis) (round : ReadRound) (before now : DeskSeen) → before.answers ≡ [] → HasWorked opening round before now → HasAnsweredAll round now
answered_all opening round before now fresh worked work =
    let stays = worked.served.stays in
    (worked.served.all work).1 ∙ ap (λ (said : List Said). places_of said ++ asking round.reads (share before.seats before.seat round.dealt)) fresh
    ∙ ap (λ (n : ℕ). asking round.reads (share n before.seat round.dealt)) (sym stays.seats) ∙ ap (λ (n : ℕ). asking round.reads (share now.seats n round.dealt)) (sym stays.seat)

pub all_answered_all : (opening : Basis) (round : ReadRound) (before now : List DeskSeen) → All (λ d. d.answers ≡ []) before → AllZip (HasWorked opening round) before now → All (HasAnsweredAll round) now
all_answered_all opening round [] [] fresh zip = All-nil (HasAnsweredAll round)
all_answered_all opening round [] (n ∷ now) fresh zip = absurd zip
all_answered_all opening round (b ∷ before) [] fresh zip = absurd zip
all_answered_all opening round (b ∷ before) (n ∷ now) fresh zip =
    All-cons (HasAnsweredAll round) n now (answered_all opening round b n (All-head (λ (d : DeskSeen). d.answers ≡ []) b before fresh) zip.0)
    (all_answered_all opening round before now (All-rest (λ (d : DeskSeen). d.answers ≡ []) b before (b ∷ before) refl fresh) zip.1)

-- and has passed over the others
passed_over_all : (opening : Basis) (round : ReadRound) (before now : DeskSeen) → before.unasked ≡ [] → HasWorked opening round before now → HasPassedOverAll round now
passed_over_all opening round before now fresh worked going =
    let stays = worked.served.stays in
    (worked.served.unasked going).1 ∙ ap (λ (places : List ℕ). places ++ unasking round.reads (share before.seats before.seat round.dealt)) fresh
    ∙ ap (λ (n : ℕ). unasking round.reads (share n before.seat round.dealt)) (sym stays.seats) ∙ ap (λ (n : ℕ). unasking round.reads (share now.seats n round.dealt)) (sym stays.seat)

pub all_passed_over : (opening : Basis) (round : ReadRound) (before now : List DeskSeen) → All (λ d. d.unasked ≡ []) before → AllZip (HasWorked opening round) before now → All (HasPassedOverAll round) now
all_passed_over opening round [] [] fresh zip = All-nil (HasPassedOverAll round)
all_passed_over opening round [] (n ∷ now) fresh zip = absurd zip
all_passed_over opening round (b ∷ before) [] fresh zip = absurd zip
all_passed_over opening round (b ∷ before) (n ∷ now) fresh zip =
    All-cons (HasPassedOverAll round) n now (passed_over_all opening round b n (All-head (λ (d : DeskSeen). d.unasked ≡ []) b before fresh) zip.0)
    (all_passed_over opening round before now (All-rest (λ (d : DeskSeen). d.unasked ≡ []) b before (b ∷ before) refl fresh) zip.1)

pub seats_worked : (opening : Basis) (round : ReadRound) (floor : List Entry) (count : ℕ) (before middle now : List DeskSeen) → AllZip (HasBegun floor) before middle → AllZip (HasWorked opening round) middle now → AreSeats count before
    → AreSeats count now
seats_worked opening round floor count before middle now begun worked seats =
    still_seats (HasWorked opening round) count middle now (λ b n one. one.served.stays) worked (still_seats (HasBegun floor) count before middle (λ b n one. one.stays) begun seats)

pub seats_ended : (opening : Basis) (reads : List ReadLine) (end : List Entry) (count : ℕ) (before now : List DeskSeen) → AllZip (HasEnded opening reads end) before now → AreSeats count before → AreSeats count now
seats_ended opening reads end count before now ended seats = still_seats (HasEnded opening reads end) count before now (λ b n one. one.stays) ended seats

-- a writer that goes on from these has written after them
pub written_from : (opening : Basis) (first list : List Entry) (lines : List RoundLine) (office : OfficeSeen) → list ≡ first → HasWritten opening list lines office → HasWritten opening first lines office
written_from opening first list lines office same wrote = subst (λ (l : List Entry). HasWritten opening l lines office) same wrote

-- ---- what is handed on to be said

pub trusted_of : (opening : Basis) (reads : List ReadLine) (list end : List Entry) (before now : List DeskSeen) → end ≡ list → AllZip (HasEnded opening reads end) before now
    → All (IsTrusted opening reads list) now
trusted_of opening reads list end before now is ended =
    subst (λ (l : List Entry). All (IsTrusted opening reads l) now) is (all_trusted opening reads end before now ended)

pub says_from : (opening : Basis) (first floor end : List Entry) (lines : List RoundLine) (texts : List (List ℕ)) → floor ≡ first → WriterSaysAll opening first lines texts end → WriterSaysAll opening floor lines texts end
says_from opening first floor end lines texts from says = subst (λ (l : List Entry). WriterSaysAll opening l lines texts end) (sym from) says

pub no_longer : (list other : List Entry) → IsPrefix list other → length list ≤ length other
no_longer list other begins = omega (arith, ap length begins.1, length-append list begins.0)

pub copies_within : (least most number count : ℕ) (numbers : List ℕ) → numbers ≡ replicate count number → number ≡ least → least ≤ most → AreWithin least most numbers
copies_within least most number count numbers same is le = λ place inside.
    let long : length numbers ≡ count = ap length same ∙ length-replicate count number in
    let at : get_or numbers place 0 ≡ number = ap (λ ns. get_or ns place 0) same ∙ get_or-replicate count place number 0 (omega (arith, inside, long)) in
    (omega (arith, at, is), omega (arith, at, is, le))

-- ---- what a round says

told_whole : {T E : Type 0} (result : Result T E) (opening : Basis) (floor end : List Entry) (seats : ℕ) (reads : List ReadLine) (lasts before now was is : List ℕ)
    → IsPrefix floor end → OnOk result (Settled opening floor end seats 0 floor reads end lasts before now was is) → OnOk result (RoundAnswered opening seats reads floor end before now was is)
told_whole (Err e) opening floor end seats reads lasts before now was is begins settled = tt
told_whole (Ok x) opening floor end seats reads lasts before now was is begins settled = record {
  said = settled.said;
  says = settled.says;
  text = settled.text;
  order = λ seat. numbers_from opening floor end seats 0 floor reads settled.said end seat (get_or lasts seat 0) begins settled.says (settled.order seat);
  rises = settled.rises;
}

-- a round that was settled so was answered, and is so after further faults, too
pub round_said : {T E : Type 0} (result : Result T E) (opening : Basis) (count seats : ℕ) (reads : List ReadLine) (first floor end : List Entry) (lasts before now was middle is later : List ℕ)
    → seats ≡ count → floor ≡ first → middle ≡ was → IsPrefix floor end
    → OnOk result (Settled opening floor end seats 0 floor reads end lasts before now middle is) → OnOk result (NoneFell is later)
    → OnOk result (RoundAnswered opening count reads first end before now was later)
round_said result opening count seats reads first floor end lasts before now was middle is later many from counted begins settled fell =
    let whole = told_whole result opening floor end seats reads lasts before now middle is begins settled in
    let by_count = subst (λ (n : ℕ). OnOk result (RoundAnswered opening n reads floor end before now middle is)) many whole in
    let by_floor = subst (λ (l : List Entry). OnOk result (RoundAnswered opening count reads l end before now middle is)) from by_count in
    let by_counts = subst (λ (cs : List ℕ). OnOk result (RoundAnswered opening count reads first end before now cs is)) counted by_floor in
    answered_to result opening count reads first end before now was is later by_counts fell

-- ---- what is written of it

pub writes_round : (opening : Basis) (seats : ℕ) (reads : List ReadLine) (floor end : List Entry) (before now : Option (List ℕ)) (from text bytes : List ℕ) (was is : List ℕ) → from ≡ [] → bytes ≡ text
    → RoundAnswered opening seats reads floor end from text was is → Appends before now bytes → WritesRound opening seats reads floor end before now was is
writes_round opening seats reads floor end before now from text bytes was is none same answered written = record {
  text = text;
  answered = subst (λ (t : List ℕ). RoundAnswered opening seats reads floor end t text was is) none answered;
  written = subst (λ (t : List ℕ). Appends before now t) same written;
}

pub cuts_round : (opening : Basis) (seats : ℕ) (reads : List ReadLine) (floor end : List Entry) (before now : Option (List ℕ)) (from text bytes : List ℕ) (was is : List ℕ) → from ≡ [] → bytes ≡ text
    → RoundAnswered opening seats reads floor end from text was is → AppendsPart before now bytes → CutsRound opening seats reads floor before now was is
cuts_round opening seats reads floor end before now from text bytes was is none same answered part = record {
  text = text;
  end = end;
  answered = subst (λ (t : List ℕ). RoundAnswered opening seats reads floor end t text was is) none answered;
  part = subst (λ (t : List ℕ). AppendsPart before now t) same part;
}

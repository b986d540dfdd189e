-- A seat that serves the lines of its share, one after another.
use Rattle.std.proofs.Common.{◌≡◌, ◌<◌, ◌≤◌, ◌-◌, ◌+◌, ◌++◌, ℕ, zero, suc, List, [], ◌∷◌, length, drop, get_or, min, leb, Bool, true, false, cond, not, ◌&&◌, Option, Some, None, Result, refl, sym, ap, ◌∙◌, subst, ⊎_elim, arith, append-nil, append_assoc}
use Rattle.std.specs.Prelude.{IsTrue, IsFalse}
use Rattle.std.proofs.lemmas.Bool.{cases_Bool, true≢false, leb-true, leb-false}
use Rattle.std.proofs.lemmas.List.{map_push}
use Rattle.std.proofs.lemmas.List.Elements.{filter-append}
use Rattle.dnr_base.specs.Faults.{Rose}
use Rattle.generation.specs.Basis.{Basis}
use Rattle.line_spec.specs.Line.{Command}
use Rattle.line_spec.specs.declared.line_fault.LineFault.{LineFault}
use Rattle.published.specs.Pass.{PassSeen}
use Rattle.session_rounds.specs.Lines.{is_asking}
use Rattle.session_rounds.specs.declared.read_line.ReadLine.{ReadLine}
use Rattle.session_seats.specs.Said.{Said}
use Rattle.session_seats.specs.Told.{SaysMore}
use Rattle.update_spec.specs.Entries.{Entry}
use Rattle.session_seats.specs.Seats.{DeskSeen, IsLater, HadNoCopy, StaysSeat, IsAtWork, HasServed, HasPassedOver, HasReadOver, asks_at, asking, is_at_work, share, places_of, unasking}

-- ---- passes

pub later_same : (pass : Option PassSeen) → IsLater pass pass
later_same None = tt
later_same (Some p) = omega arith

pub later_on : (a b c : Option PassSeen) → IsLater a b → IsLater b c → IsLater a c
later_on None None None p q = tt
later_on None None (Some c) p q = absurd q
later_on None (Some b) c p q = absurd p
later_on (Some a) None c p q = absurd p
later_on (Some a) (Some b) None p q = absurd q
later_on (Some a) (Some b) (Some c) p q = omega (arith, p, q)

no_copy_on : (a b c : Option PassSeen) → HadNoCopy a b → IsLater b c → HadNoCopy a c
no_copy_on None b c p q = tt
no_copy_on (Some a) None c p q = absurd p
no_copy_on (Some a) (Some b) None p q = absurd q
no_copy_on (Some a) (Some b) (Some c) p q = omega (arith, p, q)

no_copy_from : (a b c : Option PassSeen) → IsLater a b → HadNoCopy b c → HadNoCopy a c
no_copy_from None b c p q = tt
no_copy_from (Some a) None c p q = absurd p
no_copy_from (Some a) (Some b) None p q = absurd q
no_copy_from (Some a) (Some b) (Some c) p q = omega (arith, p, q)

-- the pass of a seat has missed no fewer copies
pub later_of : (view pass now : Option PassSeen) (was next : PassSeen) → pass ≡ view → pass ≡ Some was → now ≡ Some next → was.missed ≤ next.missed → IsLater view now
later_of view pass now was next same is grown later =
    subst (λ (p : Option PassSeen). IsLater view p) (sym grown) (subst (λ (p : Option PassSeen). IsLater p (Some next)) (sym is ∙ same) later)

pub later_as : (view pass : Option PassSeen) → pass ≡ view → IsLater view pass
later_as view pass same = subst (λ (p : Option PassSeen). IsLater view p) (sym same) (later_same view)

-- there was no copy to enter, since there is no pass
pub no_copy_at : (view now : Option PassSeen) → view ≡ None → HadNoCopy view now
no_copy_at view now none = subst (λ (p : Option PassSeen). HadNoCopy p now) (sym none) tt

-- and as it counted
pub no_copy_of : (view pass now : Option PassSeen) (was next : PassSeen) → pass ≡ view → pass ≡ Some was → now ≡ Some next → Rose was.missed next.missed → HadNoCopy view now
no_copy_of view pass now was next same is grown rose =
    subst (λ (p : Option PassSeen). HadNoCopy view p) (sym grown) (subst (λ (p : Option PassSeen). HadNoCopy p (Some next)) (sym is ∙ same) rose)

-- ---- places

-- whether the line at a place asks a seat
pub asks_there : (reads : List ReadLine) (place : ℕ) (line : ReadLine) → place < length reads → line ≡ get_or reads place line → asks_at reads place ≡ is_asking line
asks_there [] place line inside there = absurd (omega arith)
asks_there (first ∷ reads) zero line inside there = ap is_asking (sym there)
asks_there (first ∷ reads) (suc place) line inside there = asks_there reads place line (omega arith) there

pub asks_nowhere : (reads : List ReadLine) (place : ℕ) → length reads ≤ place → asks_at reads place ≡ false
asks_nowhere [] place beyond = refl
asks_nowhere (first ∷ reads) zero beyond = absurd (omega arith)
asks_nowhere (first ∷ reads) (suc place) beyond = asks_nowhere reads place (omega arith)

pub asking_none : (reads : List ReadLine) (place : ℕ) → asks_at reads place ≡ false → asking reads (place ∷ []) ≡ []
asking_none reads place not = ap (λ (b : Bool). cond b (place ∷ []) []) not

pub asking_one : (reads : List ReadLine) (place : ℕ) → asks_at reads place ≡ true → asking reads (place ∷ []) ≡ place ∷ []
asking_one reads place is = ap (λ (b : Bool). cond b (place ∷ []) []) is

asking_by : (b : Bool) (x : ℕ) (xs ys zs : List ℕ) → zs ≡ xs ++ ys → cond b (x ∷ zs) zs ≡ cond b (x ∷ xs) xs ++ ys
asking_by true x xs ys zs is = ap (λ (l : List ℕ). x ∷ l) is
asking_by false x xs ys zs is = is

pub asking_both : (reads : List ReadLine) (xs ys : List ℕ) → asking reads (xs ++ ys) ≡ asking reads xs ++ asking reads ys
asking_both reads [] ys = refl
asking_both reads (x ∷ xs) ys = asking_by (asks_at reads x) x (asking reads xs) (asking reads ys) (asking reads (xs ++ ys)) (asking_both reads xs ys)

unasking_both : (reads : List ReadLine) (xs ys : List ℕ) → unasking reads (xs ++ ys) ≡ unasking reads xs ++ unasking reads ys
unasking_both reads xs ys = filter-append (λ (place : ℕ). not (asks_at reads place)) xs ys

unasking_none : (reads : List ReadLine) (place : ℕ) → asks_at reads place ≡ true → unasking reads (place ∷ []) ≡ []
unasking_none reads place is = ap (λ (b : Bool). cond (not b) (place ∷ []) []) is

unasking_one : (reads : List ReadLine) (place : ℕ) → asks_at reads place ≡ false → unasking reads (place ∷ []) ≡ place ∷ []
unasking_one reads place none = ap (λ (b : Bool). cond (not b) (place ∷ []) []) none

-- a line that asks one is not passed over
none_more : (reads : List ReadLine) (place : ℕ) (before now : List ℕ) → asks_at reads place ≡ true → now ≡ before → now ≡ before ++ unasking reads (place ∷ [])
none_more reads place before now asks same = same ∙ sym (append-nil before) ∙ ap (λ (l : List ℕ). before ++ l) (sym (unasking_none reads place asks))

-- a share begins behind as many places as it leaves out
pub share_behind : (seats before : ℕ) (places : List ℕ) → share seats before places ≡ share seats 0 (drop before places)
share_behind seats zero [] = refl
share_behind seats zero (place ∷ places) = refl
share_behind seats (suc before) [] = refl
share_behind seats (suc before) (place ∷ places) = share_behind seats before places

-- from the place at a turn on it is that place, and what is behind so many
pub share_turn : (seats turn : ℕ) (places : List ℕ) → 0 < seats → turn < length places → share seats 0 (drop turn places) ≡ get_or places turn 0 ∷ share seats 0 (drop (turn + seats) places)
share_turn seats turn [] some inside = absurd (omega arith)
share_turn seats zero (place ∷ places) some inside =
    let less : zero + seats ≡ suc (seats - 1) = omega arith in
    ap (λ (l : List ℕ). place ∷ l) (share_behind seats (seats - 1) places) ∙ ap (λ (n : ℕ). place ∷ share seats 0 (drop n (place ∷ places))) (sym less)
share_turn seats (suc turn) (place ∷ places) some inside =
    let more : suc turn + seats ≡ suc (turn + seats) = omega arith in
    share_turn seats turn places some (omega arith) ∙ ap (λ (n : ℕ). get_or places turn 0 ∷ share seats 0 (drop n (place ∷ places))) (sym more)

nothing_behind : (n : ℕ) (places : List ℕ) → length places ≤ n → drop n places ≡ []
nothing_behind zero [] all = refl
nothing_behind (suc n) [] all = refl
nothing_behind zero (place ∷ places) all = absurd (omega arith)
nothing_behind (suc n) (place ∷ places) all = nothing_behind n places (omega arith)

-- nothing is left behind the last place
pub share_ends : (seats turn : ℕ) (places : List ℕ) → length places ≤ turn → share seats 0 (drop turn places) ≡ []
share_ends seats turn places all = ap (share seats 0) (nothing_behind turn places all)

-- the same, where the next turn stands still at the end of its type
pub share_next : (seats turn most next : ℕ) (places : List ℕ) → 0 < seats → turn < length places → length places ≤ most → next ≡ min (turn + seats) most
    → share seats 0 (drop turn places) ≡ get_or places turn 0 ∷ share seats 0 (drop next places)
share_next seats turn most next places some inside fits is =
    share_turn seats turn places some inside ∙ ap (λ (l : List ℕ). get_or places turn 0 ∷ l) (⊎_elim (λ (within : leb (turn + seats) most ≡ true).
    let less = leb-true (turn + seats) most within in
    let same : turn + seats ≡ next = omega (arith, is, less) in
    ap (λ (n : ℕ). share seats 0 (drop n places)) same)
    (λ (beyond : leb (turn + seats) most ≡ false).
    let more = leb-false (turn + seats) most beyond in
    share_ends seats (turn + seats) places (omega (arith, fits, more)) ∙ sym (share_ends seats next places (omega (arith, is, fits, more))))
    (cases_Bool (leb (turn + seats) most)))

-- ---- a seat

pub stays_same : (desk : DeskSeen) → StaysSeat desk desk
stays_same desk = record { seat = refl; seats = refl }

stays_on : (a b c : DeskSeen) → StaysSeat a b → StaysSeat b c → StaysSeat a c
stays_on a b c one two = record { seat = two.seat ∙ one.seat; seats = two.seats ∙ one.seats }

never_lost : (a b : DeskSeen) → b.ready ≡ a.ready → IsTrue a.ready → IsFalse b.ready → HadNoCopy a.pass b.pass
never_lost a b same is not = absurd (true≢false (sym is ∙ (sym same ∙ not)))

-- it has served no line yet
pub served_none : (reads : List ReadLine) (desk : DeskSeen) → HasServed reads [] desk desk
served_none reads desk = record {
  stays = stays_same desk;
  later = later_same desk.pass;
  lost = never_lost desk desk refl;
  all = λ work. (work, sym (append-nil (places_of desk.answers)));
  unasked = λ going. (going, sym (append-nil desk.unasked));
}

-- and some lines, and then others
pub served_both : (reads : List ReadLine) (xs ys : List ℕ) (a b c : DeskSeen) → HasServed reads xs a b → HasServed reads ys b c → HasServed reads (xs ++ ys) a c
served_both reads xs ys a b c one two = record {
  stays = stays_on a b c one.stays two.stays;
  later = later_on a.pass b.pass c.pass one.later two.later;
  lost = λ is not.
      ⊎_elim (λ (ready : b.ready ≡ true). no_copy_from a.pass b.pass c.pass one.later (two.lost ready not)) (λ (lost : b.ready ≡ false). no_copy_on a.pass b.pass c.pass (one.lost is lost) two.later) (cases_Bool b.ready);
  all = λ work.
      let second = two.all work in
      let first = one.all second.0 in (
        first.0,
        second.1 ∙ ap (λ (l : List ℕ). l ++ asking reads ys) first.1 ∙ append_assoc (places_of a.answers) (asking reads xs) (asking reads ys) ∙ ap (λ (l : List ℕ). places_of a.answers ++ l) (sym (asking_both reads xs ys)),
      );
  unasked = λ going.
      let second = two.unasked going in
      let first = one.unasked second.0 in (
        first.0,
        second.1 ∙ ap (λ (l : List ℕ). l ++ unasking reads ys) first.1 ∙ append_assoc a.unasked (unasking reads xs) (unasking reads ys) ∙ ap (λ (l : List ℕ). a.unasked ++ l) (sym (unasking_both reads xs ys)),
      );
}

-- a line that asks no seat is passed over
pub served_unasked : (reads : List ReadLine) (place : ℕ) (before now : DeskSeen) → asks_at reads place ≡ false → HasPassedOver place before now → HasServed reads (place ∷ []) before now
served_unasked reads place before now none over =
    let ready : now.ready ≡ before.ready = ap (λ (d : DeskSeen). d.ready) over.rest in
    record {
      stays = record { seat = ap (λ (d : DeskSeen). d.seat) over.rest; seats = ap (λ (d : DeskSeen). d.seats) over.rest };
      later = subst (IsLater before.pass) (sym (ap (λ (d : DeskSeen). d.pass) over.rest)) (later_same before.pass);
      lost = never_lost before now ready;
      all = λ work. (
        record { ready = sym ready ∙ work.ready; going = (over.going work.going).0 },
        ap (λ (d : DeskSeen). places_of d.answers) over.rest ∙ sym (append-nil (places_of before.answers)) ∙ ap (λ (l : List ℕ). places_of before.answers ++ l) (sym (asking_none reads place none)),
      );
      unasked = λ going. ((over.going going).0, (over.going going).1 ∙ ap (λ (l : List ℕ). before.unasked ++ l) (sym (unasking_one reads place none)));
    }

-- also where it is read first
pub served_over : (reads : List ReadLine) (place : ℕ) (asks : Bool) (before read now : DeskSeen) → asks_at reads place ≡ asks → HasReadOver asks before read → HasPassedOver place read now → HasServed reads (place ∷ []) before now
served_over reads place asks before read now same first over =
    let ready : now.ready ≡ before.ready = ap (λ (d : DeskSeen). d.ready) over.rest ∙ ap (λ (d : DeskSeen). d.ready) first.rest in
    let none : IsFalse now.stopped → asks_at reads place ≡ false = λ going. same ∙ (first.going (over.going going).0).1 in
    record {
      stays = record {
        seat = ap (λ (d : DeskSeen). d.seat) over.rest ∙ ap (λ (d : DeskSeen). d.seat) first.rest;
        seats = ap (λ (d : DeskSeen). d.seats) over.rest ∙ ap (λ (d : DeskSeen). d.seats) first.rest;
      };
      later = subst (IsLater before.pass) (sym (ap (λ (d : DeskSeen). d.pass) over.rest ∙ ap (λ (d : DeskSeen). d.pass) first.rest)) (later_same before.pass);
      lost = never_lost before now ready;
      all = λ work. (
        record { ready = sym ready ∙ work.ready; going = (first.going (over.going work.going).0).0 },
        ap (λ (d : DeskSeen). places_of d.answers) over.rest ∙ ap (λ (d : DeskSeen). places_of d.answers) first.rest ∙ sym (append-nil (places_of before.answers))
            ∙ ap (λ (l : List ℕ). places_of before.answers ++ l) (sym (asking_none reads place (none work.going))),
      );
      unasked = λ going. (
        (first.going (over.going going).0).0,
        (over.going going).1 ∙ ap (λ (d : DeskSeen). d.unasked ++ place ∷ []) first.rest ∙ ap (λ (l : List ℕ). before.unasked ++ l) (sym (unasking_one reads place (none going))),
      );
    }

-- whether it is at work
both_so : (ready stopped : Bool) → (ready && not stopped) ≡ true → (ready ≡ true) × (stopped ≡ false)
both_so true false is = (refl, refl)
both_so true true is = absurd (cc is)
both_so false stopped is = absurd (cc is)

not_both : (ready stopped : Bool) → (ready && not stopped) ≡ false → ready ≡ true → stopped ≡ false → ⊥
not_both true false idle is_ready goes = cc idle
not_both true true idle is_ready goes = cc goes
not_both false stopped idle is_ready goes = cc is_ready

pub works : (desk : DeskSeen) → is_at_work desk ≡ true → IsAtWork desk
works desk is = let parts = both_so desk.ready desk.stopped is in record { ready = parts.0; going = parts.1 }

pub idles : (desk : DeskSeen) → is_at_work desk ≡ false → ¬ IsAtWork desk
idles desk is work = not_both desk.ready desk.stopped is work.ready work.going

-- a line that asks one leaves it as it is where it is not at work
pub served_idle : (reads : List ReadLine) (place : ℕ) (desk : DeskSeen) → asks_at reads place ≡ true → ¬ IsAtWork desk → HasServed reads (place ∷ []) desk desk
served_idle reads place desk asks idle = record {
  stays = stays_same desk;
  later = later_same desk.pass;
  lost = never_lost desk desk refl;
  all = λ work. absurd (idle work);
  unasked = λ going. (going, none_more reads place desk.unasked desk.unasked asks refl);
}

-- there was no copy to enter
pub served_without : (reads : List ReadLine) (place : ℕ) (before now : DeskSeen) → asks_at reads place ≡ true → StaysSeat before now → IsLater before.pass now.pass → HadNoCopy before.pass now.pass → IsFalse now.ready → IsFalse before.stopped
    → now.unasked ≡ before.unasked → HasServed reads (place ∷ []) before now
served_without reads place before now asks stays later none lost going same = record {
  stays = stays;
  later = later;
  lost = λ is not. none;
  all = λ work. absurd (true≢false (sym work.ready ∙ lost));
  unasked = λ still. (going, none_more reads place before.unasked now.unasked asks same);
}

-- memory ran out
pub served_in_part : (reads : List ReadLine) (places : List ℕ) (before now : DeskSeen) → StaysSeat before now → IsLater before.pass now.pass → now.ready ≡ before.ready → IsTrue now.stopped → HasServed reads places before now
served_in_part reads places before now stays later same stopped = record {
  stays = stays;
  later = later;
  lost = never_lost before now same;
  all = λ work. absurd (true≢false (sym stopped ∙ work.going));
  unasked = λ going. absurd (true≢false (sym stopped ∙ going));
}

-- an answer more
pub served_one : (reads : List ReadLine) (place : ℕ) (before now : DeskSeen) (said : Said) → asks_at reads place ≡ true → said.place ≡ place → StaysSeat before now → IsLater before.pass now.pass → now.ready ≡ before.ready → IsFalse before.stopped
    → now.answers ≡ before.answers ++ said ∷ [] → now.unasked ≡ before.unasked → HasServed reads (place ∷ []) before now
served_one reads place before now said asks here stays later ready going more same = record {
  stays = stays;
  later = later;
  lost = never_lost before now ready;
  all = λ work. (
    record { ready = sym ready ∙ work.ready; going = going },
    ap places_of more ∙ map_push (λ (s : Said). s.place) before.answers said ∙ ap (λ (p : ℕ). places_of before.answers ++ p ∷ []) here
        ∙ ap (λ (l : List ℕ). places_of before.answers ++ l) (sym (asking_one reads place asks)),
  );
  unasked = λ still. (going, none_more reads place before.unasked now.unasked asks same);
}

-- the same of what was kept
pub served_more : (opening : Basis) (reads : List ReadLine) (place number : ℕ) (read : Result Command LineFault) (seen : List Entry) (before now : DeskSeen) → asks_at reads place ≡ true → SaysMore opening place number read seen before.answers now.answers
    → StaysSeat before now → IsLater before.pass now.pass → now.ready ≡ before.ready → IsFalse before.stopped → now.unasked ≡ before.unasked → HasServed reads (place ∷ []) before now
served_more opening reads place number read seen before now asks more stays later ready going same =
    served_one reads place before now more.said asks more.says.here stays later ready going more.more same

-- ---- its share

-- What it has served of its share, and what is left of it from this turn on.
pub record ServesShare (reads : List ReadLine) (dealt : List ℕ) (turn : ℕ) (before now : DeskSeen) : Type 0 where
  pub done : List ℕ
  pub rest : done ++ share before.seats 0 (drop turn dealt) ≡ share before.seats before.seat dealt
  pub served : HasServed reads done before now

pub share_begins : (reads : List ReadLine) (dealt : List ℕ) (desk : DeskSeen) → ServesShare reads dealt desk.seat desk desk
share_begins reads dealt desk = record { done = []; rest = sym (share_behind desk.seats desk.seat dealt); served = served_none reads desk }

pub share_on : (reads : List ReadLine) (dealt : List ℕ) (turn most next place : ℕ) (before now later : DeskSeen) → 0 < before.seats → turn < length dealt → length dealt ≤ most → next ≡ min (turn + before.seats) most → place ≡ get_or dealt turn 0
    → HasServed reads (place ∷ []) now later → ServesShare reads dealt turn before now → ServesShare reads dealt next before later
share_on reads dealt turn most next place before now later some inside fits is there one so_far = record {
  done = so_far.done ++ place ∷ [];
  rest =
      append_assoc so_far.done (place ∷ []) (share before.seats 0 (drop next dealt)) ∙ ap (λ (p : ℕ). so_far.done ++ p ∷ share before.seats 0 (drop next dealt)) there
      ∙ ap (λ (l : List ℕ). so_far.done ++ l) (sym (share_next before.seats turn most next dealt some inside fits is)) ∙ so_far.rest;
  served = served_both reads so_far.done (place ∷ []) before now later so_far.served one;
}

pub share_served : (reads : List ReadLine) (dealt : List ℕ) (turn : ℕ) (before now : DeskSeen) → length dealt ≤ turn → ServesShare reads dealt turn before now → HasServed reads (share before.seats before.seat dealt) before now
share_served reads dealt turn before now all so_far =
    subst (λ (places : List ℕ). HasServed reads places before now)
    (sym (append-nil so_far.done) ∙ ap (λ (l : List ℕ). so_far.done ++ l) (sym (share_ends before.seats turn dealt all)) ∙ so_far.rest) so_far.served

-- a seat to which nothing is dealt has served its share
pub share_empty : (reads : List ReadLine) (dealt : List ℕ) (desk : DeskSeen) → length dealt ≤ desk.seat → HasServed reads (share desk.seats desk.seat dealt) desk desk
share_empty reads dealt desk few = share_served reads dealt desk.seat desk desk few (share_begins reads dealt desk)

use Rattle.std.proofs.Common.{◌≤◌, ◌%◌, length, map, string_bytes, refl, sym, ap, subst, ◌∙◌, arith}
use Rattle.std.proofs.lemmas.List.{length-map}
use Rattle.session_laws.proofs.Rises.{as_long, none_fell_on, none_fell_yet}
use Rattle.session_rounds.proofs.Steps.{none_settled, all_settled}
use Rattle.session_seats.specs.Reading.{seen_line}
use Rattle.session_seats.specs.Seats.{IsTrusted}
use Rattle.session_seats.specs.Writing.{texts_with}
use Rattle.session_seats.proofs.Desks.{taken_at, seen_there}
use Rattle.session_seats.proofs.Offices.{as_many}
use Rattle.session_seats.proofs.Settled.{within_all, within_set, still_below, below_at, set_long}
use Rattle.session_seats.proofs.Telling.{seen_written, seat_told, reply_told, set_same}
use Rattle.session_serve.proofs.Told.{turn_inside, one_asked}
use Rattle.session_seats.proofs.settling.settle.Goals as goal
use Rattle.session_seats.proofs.settling.settle.Goals.{then-asks, else-asks}

pub loop-place-init : goal.loop-place-init
loop-place-init g c = record {
  settled = none_settled g.P.Pair.opening c.args.floor.now c.args.office.now.list (length c.args.desks.now) c.args.round.now.reads (texts_with c.args.round.now.lines c.args.office.now.texts) c.args.latest.now (string_bytes c.args.into.now)
      c.args.counted.now
      (seen_written g.P.Pair.opening c.args.floor.now c.args.round.now c.lines-lines.result.now c.args.office.now.texts c.args.office.now.list c.lines-lines.ensures.value c.lines-lines.ensures.reads c.lines-lines.ensures.taken c.requires.written);
  few = omega arith;
  within = c.requires.within;
  latest = c.requires.latest;
  finders = c.requires.finders;
  counted = c.requires.counted;
  later = none_fell_yet (map g.H.RegexHost.faults c.args.finders.now);
}

pub said_to-said-requires-clause-trusted : goal.said_to-said-requires-clause-trusted
said_to-said-requires-clause-trusted g c =
    let inside = turn_inside c.loop-place.asked (length c.args.desks.now) c.requires.some in
    subst (IsTrusted g.P.Pair.opening c.args.round.now.reads c.args.office.now.list) (sym c.index-desks-seat.is)
    (c.requires.trusted (c.loop-place.asked % length c.args.desks.now) c.index-desks-seat.result inside)

pub said_to-said-requires-clause-inside : goal.said_to-said-requires-clause-inside
said_to-said-requires-clause-inside g c =
    (seen_there c.args.round.now c.lines-lines.result.now c.loop-place.place c.index-lines-place.result c.lines-lines.ensures.value c.lines-lines.ensures.reads c.loop-place-test.true c.index-lines-place.is).0

pub said_to-said-requires-clause-there : goal.said_to-said-requires-clause-there
said_to-said-requires-clause-there g c =
    (seen_there c.args.round.now c.lines-lines.result.now c.loop-place.place c.index-lines-place.result c.lines-lines.ensures.value c.lines-lines.ensures.reads c.loop-place-test.true c.index-lines-place.is).1

pub bounds-counted-seat : goal.bounds-counted-seat
bounds-counted-seat g c =
    let inside = turn_inside c.loop-place.asked (length c.args.desks.now) c.requires.some in
    omega (arith, inside, as_long c.loop-place.counted (map g.H.RegexHost.faults c.loop-place.finders) c.loop-place.invariant.counted, length-map c.loop-place.finders g.H.RegexHost.faults, c.loop-place.invariant.finders)

pub say_line-requires-clause-taken : goal.say_line-requires-clause-taken
say_line-requires-clause-taken g c =
    taken_at c.lines-lines.result.now c.loop-place.place c.index-lines-place.result (rw (← c.lines-lines.ensures.value) at c.lines-lines.ensures.taken) c.loop-place-test.true c.index-lines-place.is

pub say_line-requires-clause-inside : goal.say_line-requires-clause-inside
say_line-requires-clause-inside g c =
    omega (arith, c.loop-place-test.true, ap length c.lines-lines.ensures.value, as_many g.P.Pair.opening c.args.floor.now c.args.round.now.lines c.args.office.now.texts c.args.office.now.list c.requires.written)

pub say_line-requires-clause-above : goal.say_line-requires-clause-above
say_line-requires-clause-above g c =
    let inside = turn_inside c.loop-place.asked (length c.args.desks.now) c.requires.some in
    (c.loop-place.invariant.within (c.loop-place.asked % length c.args.desks.now) (omega (arith, inside, c.loop-place.invariant.latest))).0

pub say_line-requires-clause-below : goal.say_line-requires-clause-below
say_line-requires-clause-below g c =
    let inside = turn_inside c.loop-place.asked (length c.args.desks.now) c.requires.some in
    (c.loop-place.invariant.within (c.loop-place.asked % length c.args.desks.now) (omega (arith, inside, c.loop-place.invariant.latest))).1

pub say_line-requires-clause-counted : goal.say_line-requires-clause-counted
say_line-requires-clause-counted g c =
    let inside = turn_inside c.loop-place.asked (length c.args.desks.now) c.requires.some in
    below_at g.H.RegexHost.faults c.loop-place.counted c.loop-place.finders (c.loop-place.asked % length c.args.desks.now) c.index-finders-seat.result (omega (arith, inside, c.loop-place.invariant.finders)) c.loop-place.invariant.counted

pub returns-in_err-asks-clause-later : goal.returns-in_err-asks-clause-later
returns-in_err-asks-clause-later g c =
    let inside = turn_inside c.loop-place.asked (length c.args.desks.now) c.requires.some in
    none_fell_on (map g.H.RegexHost.faults c.args.finders.now) (map g.H.RegexHost.faults c.loop-place.finders) _ c.loop-place.invariant.later
    (one_asked g.H.RegexHost.faults c.loop-place.finders (c.loop-place.asked % length c.args.desks.now) c.index-finders-seat.result c.say_line.new.finder (omega (arith, inside, c.loop-place.invariant.finders)) c.in_err-asks.ensures.later)

pub overflow_add-asked : goal.overflow_add-asked
overflow_add-asked g c = omega (arith, c.loop-place.invariant.few, c.loop-place-test.true, c.loop-place.auto.place-end)

pub loop-place-preserved : goal.loop-place-preserved
loop-place-preserved g c =
    let inv = c.loop-place.invariant in
    let seat = c.loop-place.asked % length c.args.desks.now in
    let inside = turn_inside c.loop-place.asked (length c.args.desks.now) c.requires.some in
    let known = as_long c.loop-place.counted (map g.H.RegexHost.faults c.loop-place.finders) inv.counted in
    let many = as_many g.P.Pair.opening c.args.floor.now c.args.round.now.lines c.args.office.now.texts c.args.office.now.list c.requires.written in
    let told = c.in_ok-asks.ensures in
    let least = (inv.within seat (omega (arith, inside, inv.latest))).0 in
    let within = within_set (length c.args.floor.now) (length c.args.office.now.list) c.loop-place.latest seat c.say_line.new.latest (omega (arith, least, told.latest.0)) told.latest.1 inv.within in
    let later = none_fell_on (map g.H.RegexHost.faults c.args.finders.now) (map g.H.RegexHost.faults c.loop-place.finders) _ inv.later
    (one_asked g.H.RegexHost.faults c.loop-place.finders seat c.index-finders-seat.result c.say_line.new.finder (omega (arith, inside, inv.finders)) told.later) in
    elim c.if-asks.branch [
      | then-asks w ↦
          rw w.asked-is (record {
            settled = seat_told g.P.Pair.opening c.args.floor.now c.args.office.now.list (length c.args.desks.now) c.args.round.now c.lines-lines.result.now (texts_with c.args.round.now.lines c.args.office.now.texts) c.args.latest.now (string_bytes c.args.into.now)
                c.args.counted.now c.loop-place.place c.loop-place.asked seat c.loop-place.latest (string_bytes c.loop-place.into) (string_bytes c.say_line.new.into) c.loop-place.counted c.say_line.new.latest c.say_line.new.counted
                c.index-lines-place.result c.lines-lines.ensures.value c.lines-lines.ensures.reads c.loop-place-test.true c.index-lines-place.is (told.asks ∙ w.if-asks.true) refl (omega (arith, inside, inv.latest))
                (omega (arith, inside, known, length-map c.loop-place.finders g.H.RegexHost.faults, inv.finders)) (told.told w.if-asks.true) inv.settled;
            few = omega (arith, inv.few);
            within = within;
            latest = set_long c.loop-place.latest seat c.say_line.new.latest ∙ inv.latest;
            finders = set_long c.loop-place.finders seat c.say_line.new.finder ∙ inv.finders;
            counted = still_below g.H.RegexHost.faults c.loop-place.counted c.loop-place.finders seat c.say_line.new.counted c.say_line.new.finder told.counted inv.counted;
            later = later;
          })
      | else-asks w ↦
          let still = told.still w.if-asks.false in
          let settled = reply_told g.P.Pair.opening c.args.floor.now c.args.office.now.list (length c.args.desks.now) c.args.round.now c.lines-lines.result.now c.args.office.now.texts c.args.latest.now (string_bytes c.args.into.now)
          c.args.counted.now c.loop-place.place c.loop-place.asked c.loop-place.latest (string_bytes c.loop-place.into) (string_bytes c.say_line.new.into) c.loop-place.counted (string_bytes c.loop-place.into)
          c.index-lines-place.result c.lines-lines.ensures.value c.lines-lines.ensures.reads many c.loop-place-test.true c.index-lines-place.is (told.asks ∙ w.if-asks.false) (told.text w.if-asks.false) inv.settled in
          rw w.asked-is (record {
            settled = rw (set_same c.loop-place.latest seat c.say_line.new.latest still.0, set_same c.loop-place.counted seat c.say_line.new.counted still.1) settled;
            few = omega (arith, inv.few);
            within = within;
            latest = set_long c.loop-place.latest seat c.say_line.new.latest ∙ inv.latest;
            finders = set_long c.loop-place.finders seat c.say_line.new.finder ∙ inv.finders;
            counted = still_below g.H.RegexHost.faults c.loop-place.counted c.loop-place.finders seat c.say_line.new.counted c.say_line.new.finder told.counted inv.counted;
            later = later;
          })
    ]

pub returns-clause-settled : goal.returns-clause-settled
returns-clause-settled g c =
    let inv = c.loop-place.invariant in
    let reads : length c.args.round.now.reads ≤ c.loop-place.place = omega (arith, c.loop-place-test.false, ap length c.lines-lines.ensures.value, ap length c.lines-lines.ensures.reads, length-map c.args.round.now.lines seen_line) in
    all_settled g.P.Pair.opening c.args.floor.now c.args.office.now.list (length c.args.desks.now) c.args.round.now.reads (texts_with c.args.round.now.lines c.args.office.now.texts) c.args.latest.now (string_bytes c.args.into.now)
    c.args.counted.now c.loop-place.place c.loop-place.asked c.loop-place.latest (string_bytes c.loop-place.into) c.loop-place.counted reads
    (within_all (length c.args.floor.now) (length c.args.office.now.list) c.loop-place.latest inv.within) inv.settled

pub returns-clause-counted : goal.returns-clause-counted
returns-clause-counted g c = c.loop-place.invariant.counted

pub returns-clause-later : goal.returns-clause-later
returns-clause-later g c = c.loop-place.invariant.later

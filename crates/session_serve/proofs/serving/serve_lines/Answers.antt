use Rattle.std.proofs.Common.{◌≡◌, Err, ◌∷◌, ◌+◌, length, map, ap, sym, ◌∙◌, rules, arith, refl, subst}
use Rattle.dnr_io.specs.Lines.{ahead}
use Rattle.session_laws.proofs.Rises.{none_fell_on, none_fell_yet}
use Rattle.session_serve.specs.Round.{setting_with, LineServed, StopsAtLine}
use Rattle.session_serve.proofs.SoFar.{started, one_line_more, ended_too, none_ended, stops_reading, stops_serving, all_served, last_round_cut, nothing_served, stop_said, same_setting}
use Rattle.session_serve.proofs.serving.serve_lines.Goals as goal

pub returns-in_err-lines-clause-served : goal.returns-in_err-lines-clause-served
returns-in_err-lines-clause-served g c =
    stop_said _ _ _ _ _ _ _ _ _ c.from_residual.ensures.1 (λ e same. nothing_served (setting_with c.args.session (length c.args.finders.now)) c.args.session.state (g.O.Sink.taken c.args.out.now)
    (g.H.RegexHost.faults c.args.checker.now ∷ map g.H.RegexHost.faults c.args.finders.now) (g.S.Source.left c.args.source.now) (g.S.Source.left c.args.source.now) e same)

pub returns-in_err-lines-clause-later : goal.returns-in_err-lines-clause-later
returns-in_err-lines-clause-later g c = none_fell_yet (g.H.RegexHost.faults c.args.checker.now ∷ map g.H.RegexHost.faults c.args.finders.now)

pub loop-round-init : goal.loop-round-init
loop-round-init g c = record {
  so_far = started (setting_with c.args.session (length c.args.finders.now)) c.args.session.state (g.O.Sink.taken c.args.out.now)
      (g.H.RegexHost.faults c.args.checker.now ∷ map g.H.RegexHost.faults c.args.finders.now) (g.S.Source.left c.args.source.now) c.in_ok-lines.lines c.new-round.result
      c.in_ok-lines.ensures c.new-round.ensures;
  suffixes = refl;
  updates = refl;
  follows = refl;
  seats = refl;
  here = search rules;
  few = search rules;
  ended = search rules;
  lf = λ live. none_ended (g.S.Source.left c.args.source.now) c.in_ok-lines.lines c.in_ok-lines.ensures;
  fell = none_fell_yet (g.H.RegexHost.faults c.args.checker.now ∷ map g.H.RegexHost.faults c.args.finders.now);
  told = refl;
  starts = refl;
  read = omega arith;
  wrote = omega arith;
}

pub returns-in_err-next-clause-served : goal.returns-in_err-next-clause-served
returns-in_err-next-clause-served g c =
    let was = c.loop-round.invariant in
    let next = c.in_err-next.ensures in
    stop_said _ _ _ _ _ _ _ _ _ c.from_residual-in_err-next.ensures.1 (λ e same. stops_reading (setting_with c.args.session (length c.args.finders.now)) c.args.session.state
    (g.O.Sink.taken c.args.out.now) (g.O.Sink.taken c.loop-round.out) (g.H.RegexHost.faults c.args.checker.now ∷ map g.H.RegexHost.faults c.args.finders.now)
    (g.H.RegexHost.faults c.loop-round.checker ∷ map g.H.RegexHost.faults c.loop-round.finders) (g.S.Source.left c.args.source.now)
    (ahead c.loop-round.lines (g.S.Source.left c.loop-round.source)) (g.S.Source.left c.next.new.source) c.loop-round.lines.count c.loop-round.round c.loop-round.session.state
    c.in_err-next.field-0.0 e same was.fell was.few (λ is. next.too_long (ap Err is)) (λ is. next.stopped (ap Err is)) (λ is. was.lf (next.going (ap Err is))) was.so_far)

pub loop-round-preserved : goal.loop-round-preserved
loop-round-preserved g c =
    let was = c.loop-round.invariant in
    let next = c.in_ok-next.ensures in
    let one = c.in_ok-serve_line.ensures in
    let counted = next.counted c.if-branch.true in
    let setting = same_setting c.loop-round.session c.args.session (length c.loop-round.finders) (length c.args.finders.now) was.suffixes was.updates was.follows was.seats in
    record {
      so_far = one_line_more (setting_with c.args.session (length c.args.finders.now)) c.args.session.state (g.O.Sink.taken c.args.out.now) (g.O.Sink.taken c.loop-round.out) (g.O.Sink.taken c.serve_line.new.out)
          (g.H.RegexHost.faults c.args.checker.now ∷ map g.H.RegexHost.faults c.args.finders.now) (g.H.RegexHost.faults c.loop-round.checker ∷ map g.H.RegexHost.faults c.loop-round.finders)
          (g.H.RegexHost.faults c.serve_line.new.checker ∷ map g.H.RegexHost.faults c.serve_line.new.finders) (g.S.Source.left c.args.source.now)
          (ahead c.loop-round.lines (g.S.Source.left c.loop-round.source)) (ahead c.next.new.self (g.S.Source.left c.next.new.source)) c.loop-round.lines.count c.next.new.self.count (c.loop-round.number + 1)
          c.loop-round.round c.serve_line.new.self c.next.new.line.items c.loop-round.session.state c.serve_line.new.session.state
          was.fell (omega (arith, was.here)) counted.1 was.so_far (next.line c.if-branch.true) (rw setting at (rw c.deref.ensures.value at one.served));
      suffixes = one.suffixes ∙ was.suffixes;
      updates = one.updates ∙ was.updates;
      follows = one.follows ∙ was.follows;
      seats = one.seats ∙ was.seats;
      here = omega (arith, was.here, counted.1);
      few = omega (arith, counted.0, counted.1);
      ended = next.last (search rules);
      lf = λ live. ended_too (setting_with c.args.session (length c.args.finders.now)) c.args.session.state (g.O.Sink.taken c.args.out.now) (g.O.Sink.taken c.loop-round.out)
          (g.H.RegexHost.faults c.args.checker.now ∷ map g.H.RegexHost.faults c.args.finders.now) (g.H.RegexHost.faults c.loop-round.checker ∷ map g.H.RegexHost.faults c.loop-round.finders) (g.S.Source.left c.args.source.now)
          (ahead c.loop-round.lines (g.S.Source.left c.loop-round.source)) (ahead c.next.new.self (g.S.Source.left c.next.new.source)) c.loop-round.lines.count c.loop-round.round c.loop-round.session.state
          was.so_far (was.lf ((next.live live).0)) (next.lf live);
      fell = none_fell_on (g.H.RegexHost.faults c.args.checker.now ∷ map g.H.RegexHost.faults c.args.finders.now) (g.H.RegexHost.faults c.loop-round.checker ∷ map g.H.RegexHost.faults c.loop-round.finders) (g.H.RegexHost.faults c.serve_line.new.checker ∷ map g.H.RegexHost.faults c.serve_line.new.finders) was.fell one.later;
      told = next.told ∙ was.told;
      starts = next.starts ∙ was.starts;
      read = omega (arith, was.read, next.cause.later);
      wrote = omega (arith, was.wrote, one.cause.later);
    }

pub returns-in_err-serve_line-clause-served : goal.returns-in_err-serve_line-clause-served
returns-in_err-serve_line-clause-served g c =
    let was = c.loop-round.invariant in
    let next = c.in_ok-next.ensures in
    let one = c.in_err-serve_line.ensures in
    let counted = next.counted c.if-branch.true in
    let setting = same_setting c.loop-round.session c.args.session (length c.loop-round.finders) (length c.args.finders.now) was.suffixes was.updates was.follows was.seats in
    stop_said _ _ _ _ _ _ _ _ _ c.from_residual-in_err-serve_line.ensures.1 (λ e same. rw same (
    stops_serving (setting_with c.args.session (length c.args.finders.now)) c.args.session.state (g.O.Sink.taken c.args.out.now) (g.O.Sink.taken c.loop-round.out) (g.O.Sink.taken c.serve_line.new.out)
    (g.H.RegexHost.faults c.args.checker.now ∷ map g.H.RegexHost.faults c.args.finders.now) (g.H.RegexHost.faults c.loop-round.checker ∷ map g.H.RegexHost.faults c.loop-round.finders)
    (g.H.RegexHost.faults c.serve_line.new.checker ∷ map g.H.RegexHost.faults c.serve_line.new.finders) (g.S.Source.left c.args.source.now)
    (ahead c.loop-round.lines (g.S.Source.left c.loop-round.source)) (ahead c.next.new.self (g.S.Source.left c.next.new.source)) (g.S.Source.left c.next.new.source) c.loop-round.lines.count c.next.new.self.count (c.loop-round.number + 1)
    c.loop-round.round c.next.new.line.items c.loop-round.session.state c.in_err-serve_line.field-0.0
    was.fell one.later (omega (arith, was.here)) counted.1 (omega (arith, counted.0, counted.1)) was.so_far (next.line c.if-branch.true) (rw setting at (rw c.deref.ensures.value at one.stops))))

pub returns-in_err-serve_line-clause-later : goal.returns-in_err-serve_line-clause-later
returns-in_err-serve_line-clause-later g c = none_fell_on (g.H.RegexHost.faults c.args.checker.now ∷ map g.H.RegexHost.faults c.args.finders.now) (g.H.RegexHost.faults c.loop-round.checker ∷ map g.H.RegexHost.faults c.loop-round.finders) (g.H.RegexHost.faults c.serve_line.new.checker ∷ map g.H.RegexHost.faults c.serve_line.new.finders) c.loop-round.invariant.fell c.in_err-serve_line.ensures.later

pub returns-in_err-write-clause-served : goal.returns-in_err-write-clause-served
returns-in_err-write-clause-served g c =
    let was = c.loop-round.invariant in
    let next = c.in_ok-next.ensures in
    stop_said _ _ _ _ _ _ _ _ _ c.from_residual-in_err-write.ensures.1 (λ e same. last_round_cut (setting_with c.args.session (length c.args.finders.now)) c.args.session.state
    (g.O.Sink.taken c.args.out.now) (g.O.Sink.taken c.loop-round.out) (g.O.Sink.taken c.write.new.out)
    (g.H.RegexHost.faults c.args.checker.now ∷ map g.H.RegexHost.faults c.args.finders.now) (g.H.RegexHost.faults c.loop-round.checker ∷ map g.H.RegexHost.faults c.loop-round.finders)
    (g.S.Source.left c.args.source.now) (ahead c.loop-round.lines (g.S.Source.left c.loop-round.source)) (g.S.Source.left c.next.new.source) c.loop-round.lines.count c.loop-round.round c.loop-round.session.state
    e same was.few (next.end c.if-branch.false).0 was.so_far c.in_err-write.ensures.part)

pub returns-clause-served : goal.returns-clause-served
returns-clause-served g c =
    let was = c.loop-round.invariant in
    let next = c.in_ok-next.ensures in
    all_served (setting_with c.args.session (length c.args.finders.now)) c.args.session.state
    (g.O.Sink.taken c.args.out.now) (g.O.Sink.taken c.loop-round.out) (g.O.Sink.taken c.write.new.out)
    (g.H.RegexHost.faults c.args.checker.now ∷ map g.H.RegexHost.faults c.args.finders.now) (g.H.RegexHost.faults c.loop-round.checker ∷ map g.H.RegexHost.faults c.loop-round.finders)
    (g.S.Source.left c.args.source.now) (ahead c.loop-round.lines (g.S.Source.left c.loop-round.source)) (g.S.Source.left c.next.new.source) c.loop-round.lines.count c.loop-round.round c.loop-round.session.state
    was.few (next.end c.if-branch.false).0 was.so_far c.in_ok-write.ensures.written

use Rattle.std.proofs.Common.{◌≡◌, Err, ◌+◌, [], ap, sym, ◌∙◌, rules, arith, refl}
use Rattle.std.specs.Io.KnownBytes.{prepend_known}
use Rattle.std.specs.Prelude.{IsTrue}
use Rattle.dnr_io.specs.Lines.{ahead}
use Rattle.keep_run_spec.specs.Ends.{between}
use Rattle.keep_run.specs.Lines.{EndsLines}
use Rattle.keep_run.proofs.Answered.{begun, started, answered_more}
use Rattle.keep_run.proofs.Kept.{agreed_safe}
use Rattle.keep_run.proofs.Stopped.{sound_on, stop_so, ends_reading, ends_early, ends_whole, ends_at_line}
use Rattle.keep_run.proofs.lines.answer_lines.Goals as goal

pub returns-in_err-lines-clause-ends : goal.returns-in_err-lines-clause-ends
returns-in_err-lines-clause-ends g c = λ told.
    stop_so (EndsLines (g.S.Source.left c.args.source.now) (g.O.Sink.taken c.args.out.now) (g.O.Sink.taken c.args.out.now)
    (between (g.H.RegexHost.faults c.args.host.now) (g.H.RegexHost.faults c.args.host.now)) c.args.keep.now (g.D.Disk.images c.args.disk.now)) _
    c.from_residual.result c.from_residual.ensures.1
    (λ why same. rw same (ends_early c.args.keep.now (g.O.Sink.taken c.args.out.now) (g.O.Sink.taken c.args.out.now) (g.H.RegexHost.faults c.args.host.now) (g.H.RegexHost.faults c.args.host.now)
    (g.S.Source.left c.args.source.now) (prepend_known [] (g.S.Source.left c.args.source.now)) 0 c.args.keep.now (g.D.Disk.images c.args.disk.now)
    (begun c.args.keep.now (g.O.Sink.taken c.args.out.now) (g.H.RegexHost.faults c.args.host.now) (g.S.Source.left c.args.source.now))
    (agreed_safe (g.D.Disk.images c.args.disk.now) c.args.keep.now (c.requires.agrees told))))

pub loop-memo-init : goal.loop-memo-init
loop-memo-init g c = record {
  so_far = started c.args.keep.now (g.O.Sink.taken c.args.out.now) (g.H.RegexHost.faults c.args.host.now) (g.S.Source.left c.args.source.now) c.in_ok-lines.lines c.in_ok-lines.ensures;
  agrees = c.requires.agrees;
  kept_live = c.requires.live;
  name = refl;
  here = search rules;
  few = search rules;
  ended = search rules;
  later = omega arith;
  sound = λ told sound. sound;
  tells = refl;
  read = omega arith;
  wrote = omega arith;
  broke = omega arith;
}

pub returns-in_err-next-clause-ends : goal.returns-in_err-next-clause-ends
returns-in_err-next-clause-ends g c = λ told.
    let was = c.loop-memo.invariant in
    let next = c.in_err-next.ensures in
    stop_so (EndsLines (g.S.Source.left c.args.source.now) (g.O.Sink.taken c.args.out.now) (g.O.Sink.taken c.loop-memo.out)
    (between (g.H.RegexHost.faults c.args.host.now) (g.H.RegexHost.faults c.loop-memo.host)) c.args.keep.now (g.D.Disk.images c.loop-memo.disk)) _
    c.from_residual-in_err-next.result c.from_residual-in_err-next.ensures.1
    (λ why same. rw same (ends_reading c.args.keep.now (g.O.Sink.taken c.args.out.now) (g.O.Sink.taken c.loop-memo.out) (g.H.RegexHost.faults c.args.host.now) (g.H.RegexHost.faults c.loop-memo.host)
    (g.S.Source.left c.args.source.now) (ahead c.loop-memo.lines (g.S.Source.left c.loop-memo.source)) c.loop-memo.lines.count c.loop-memo.keep (g.D.Disk.images c.loop-memo.disk) was.so_far
    (agreed_safe (g.D.Disk.images c.loop-memo.disk) c.loop-memo.keep (was.agrees (was.tells ∙ told))) c.in_err-next.field-0.0 (λ is. next.too_long (ap Err is))))

pub loop-memo-preserved : goal.loop-memo-preserved
loop-memo-preserved g c =
    let was = c.loop-memo.invariant in
    let next = c.in_ok-next.ensures in
    let one = c.in_ok-answer_line.ensures in
    let counted = next.counted c.if-branch.true in
    record {
      so_far = answered_more c.args.keep.now (g.O.Sink.taken c.args.out.now) (g.O.Sink.taken c.loop-memo.out) (g.O.Sink.taken c.answer_line.new.out)
          (g.H.RegexHost.faults c.args.host.now) (g.H.RegexHost.faults c.loop-memo.host) (g.H.RegexHost.faults c.answer_line.new.host)
          (g.S.Source.left c.args.source.now) (ahead c.loop-memo.lines (g.S.Source.left c.loop-memo.source)) (ahead c.next.new.self (g.S.Source.left c.next.new.source))
          c.loop-memo.lines.count c.next.new.self.count (c.loop-memo.number + 1) c.loop-memo.keep c.answer_line.new.keep c.next.new.line.items
          (omega (arith, was.here)) counted.1 was.so_far (next.line c.if-branch.true) (rw c.deref.ensures.value at one.written);
      agrees = λ told. one.agrees (sym one.tells ∙ told);
      kept_live = one.live;
      name = one.name ∙ was.name;
      here = omega (arith, was.here, counted.1);
      few = omega (arith, counted.0, counted.1);
      ended = next.last (search rules);
      later = omega (arith, was.later, one.later);
      sound = λ told sound. sound_on c.args.keep.now.name c.loop-memo.keep.name (g.D.Disk.images c.loop-memo.disk) (g.D.Disk.images c.answer_line.new.disk) was.name (one.sound (was.tells ∙ told)) (was.sound told sound);
      tells = one.tells ∙ was.tells;
      read = omega (arith, was.read, next.cause.later);
      wrote = omega (arith, was.wrote, one.write_fault.later);
      broke = omega (arith, was.broke, one.disk_fault.later);
    }

pub returns-in_err-answer_line-clause-ends : goal.returns-in_err-answer_line-clause-ends
returns-in_err-answer_line-clause-ends g c = λ told.
    let was = c.loop-memo.invariant in
    let next = c.in_ok-next.ensures in
    let one = c.in_err-answer_line.ensures in
    let counted = next.counted c.if-branch.true in
    stop_so (EndsLines (g.S.Source.left c.args.source.now) (g.O.Sink.taken c.args.out.now) (g.O.Sink.taken c.answer_line.new.out)
    (between (g.H.RegexHost.faults c.args.host.now) (g.H.RegexHost.faults c.answer_line.new.host)) c.args.keep.now (g.D.Disk.images c.answer_line.new.disk)) _
    c.from_residual-in_err-answer_line.result c.from_residual-in_err-answer_line.ensures.1
    (λ why same. rw same (ends_at_line c.args.keep.now (g.O.Sink.taken c.args.out.now) (g.O.Sink.taken c.loop-memo.out) (g.O.Sink.taken c.answer_line.new.out)
    (g.H.RegexHost.faults c.args.host.now) (g.H.RegexHost.faults c.loop-memo.host) (g.H.RegexHost.faults c.answer_line.new.host)
    (g.S.Source.left c.args.source.now) (ahead c.loop-memo.lines (g.S.Source.left c.loop-memo.source)) (ahead c.next.new.self (g.S.Source.left c.next.new.source))
    c.loop-memo.lines.count (c.loop-memo.number + 1) c.loop-memo.keep c.next.new.line.items (g.D.Disk.images c.answer_line.new.disk)
    (omega (arith, was.here)) one.later was.so_far (next.line c.if-branch.true) c.in_err-answer_line.field-0.0 (rw c.deref.ensures.value at one.stops (was.tells ∙ told))))

pub returns-in_err-answer_line-clause-sound : goal.returns-in_err-answer_line-clause-sound
returns-in_err-answer_line-clause-sound g c = λ told sound.
    let was = c.loop-memo.invariant in
    sound_on c.args.keep.now.name c.loop-memo.keep.name (g.D.Disk.images c.loop-memo.disk) (g.D.Disk.images c.answer_line.new.disk) was.name
    (c.in_err-answer_line.ensures.sound (was.tells ∙ told)) (was.sound told sound)

pub returns-clause-ends : goal.returns-clause-ends
returns-clause-ends g c = λ told.
    let was = c.loop-memo.invariant in
    ends_whole c.args.keep.now (g.O.Sink.taken c.args.out.now) (g.O.Sink.taken c.loop-memo.out) (g.H.RegexHost.faults c.args.host.now) (g.H.RegexHost.faults c.loop-memo.host)
    (g.S.Source.left c.args.source.now) (ahead c.loop-memo.lines (g.S.Source.left c.loop-memo.source)) c.loop-memo.lines.count c.loop-memo.keep (g.D.Disk.images c.loop-memo.disk) was.so_far
    (agreed_safe (g.D.Disk.images c.loop-memo.disk) c.loop-memo.keep (was.agrees (was.tells ∙ told))) was.few (c.in_ok-next.ensures.end c.if-branch.false).0

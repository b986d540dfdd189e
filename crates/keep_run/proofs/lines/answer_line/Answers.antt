use Rattle.std.proofs.Common.{sym, subst, string_bytes}
use Rattle.std.specs.Prelude.{IsTrue}
use Rattle.keep_run_spec.specs.Ends.{between}
use Rattle.keep_run.specs.declared.stop.KeepStop.{KeepStop}
use Rattle.keep_run.specs.Lines.{StopsAtLine}
use Rattle.keep_run.proofs.Kept.{agreed_safe}
use Rattle.keep_run.proofs.Stopped.{err_so}
use Rattle.keep_run.proofs.lines.answer_line.Goals as goal

pub returns-in_err-write_all-clause-stops : goal.returns-in_err-write_all-clause-stops
returns-in_err-write_all-clause-stops g c =
    let stops = StopsAtLine (between (g.H.RegexHost.faults c.args.host.now) (g.H.RegexHost.faults c.answer.new.host)) c.args.keep.now c.args.number c.args.line.now
    (g.D.Disk.images c.answer.new.disk) (g.O.Sink.taken c.args.out.now) (g.O.Sink.taken c.write_all.new.sink) in
    err_so _ (λ (why : KeepStop). IsTrue (g.D.Disk.tells c.args.disk.now) → stops why) c.from_residual-in_err-write_all.result c.from_residual-in_err-write_all.ensures.1
    (λ why same told. subst stops (sym same) (
      c.answer.new.keep,
      record {
        text = string_bytes c.in_ok-text.text;
        told = c.in_ok-text.ensures.told;
        taken = rw c.as_bytes.ensures.value at c.in_err-write_all.ensures.part;
      },
      agreed_safe (g.D.Disk.images c.answer.new.disk) c.answer.new.keep (c.in_ok-text.ensures.agrees told),
    ))

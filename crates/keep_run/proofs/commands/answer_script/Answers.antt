use Rattle.std.proofs.Common.{◌≡◌, ◌∙◌, inl, ap, refl, arith, length, subst}
use Rattle.std.specs.Io.KnownBytes.{Appends}
use Rattle.dnr_io.specs.Sink.{AppendsPart}
use Rattle.keep_run_spec.specs.Ends.{between}
use Rattle.keep_run_spec.specs.Output.{kept_line}
use Rattle.keep_run.specs.Ends.{EndsOpened}
use Rattle.keep_run.proofs.Kept.{agreed_safe}
use Rattle.keep_run.proofs.Ended.{opened_ends, none_answered}
use Rattle.keep_run.proofs.Stopped.{stop_so}
use Rattle.keep_run.proofs.commands.answer_script.Goals as goal

pub returns-in_err-text-clause-ends : goal.returns-in_err-text-clause-ends
returns-in_err-text-clause-ends g c = λ told.
    stop_so (EndsOpened (g.F.Source.files c.args.shelf.now) c.args.script.now (g.O.Sink.taken c.args.out.now) (g.O.Sink.taken c.args.out.now)
    (between (g.H.RegexHost.faults c.args.host.now) (g.H.RegexHost.faults c.args.host.now)) c.args.keep (g.D.Disk.images c.args.disk.now) (g.D.Disk.images c.args.disk.now)) _
    c.from_residual.result c.from_residual.ensures.1
    (λ why same. rw same (inl (refl, λ image left. left)))

pub returns-in_err-write_all-clause-ends : goal.returns-in_err-write_all-clause-ends
returns-in_err-write_all-clause-ends g c = λ told.
    let line : c.as_bytes.result.now ≡ kept_line (length c.args.keep.list) = c.as_bytes.ensures.value ∙ c.in_ok-text.ensures ∙ ap kept_line c.requires.count in
    stop_so (EndsOpened (g.F.Source.files c.args.shelf.now) c.args.script.now (g.O.Sink.taken c.args.out.now) (g.O.Sink.taken c.write_all.new.sink)
    (between (g.H.RegexHost.faults c.args.host.now) (g.H.RegexHost.faults c.args.host.now)) c.args.keep (g.D.Disk.images c.args.disk.now) (g.D.Disk.images c.args.disk.now)) _
    c.from_residual-in_err-write_all.result c.from_residual-in_err-write_all.ensures.1
    (λ why same. rw same (none_answered (g.F.Source.files c.args.shelf.now) c.args.script.now (AppendsPart (g.O.Sink.taken c.args.out.now) (g.O.Sink.taken c.write_all.new.sink))
    (g.H.RegexHost.faults c.args.host.now) (g.H.RegexHost.faults c.args.host.now) c.args.keep (g.D.Disk.images c.args.disk.now) (omega arith)
    (subst (AppendsPart (g.O.Sink.taken c.args.out.now) (g.O.Sink.taken c.write_all.new.sink)) line c.in_err-write_all.ensures.part)
    (agreed_safe (g.D.Disk.images c.args.disk.now) c.args.keep (c.requires.agrees told))))

pub returns-in-Ok-clause-ends : goal.returns-in-Ok-clause-ends
returns-in-Ok-clause-ends g c = λ told.
    let line : c.as_bytes.result.now ≡ kept_line (length c.args.keep.list) = c.as_bytes.ensures.value ∙ c.in_ok-text.ensures ∙ ap kept_line c.requires.count in
    opened_ends (g.F.Source.files c.args.shelf.now) c.args.script.now (g.F.Source.left c.start.new.self) (g.O.Sink.taken c.args.out.now) (g.O.Sink.taken c.write_all.new.sink) (g.O.Sink.taken c.answer_lines.new.out)
    (between (g.H.RegexHost.faults c.args.host.now) (g.H.RegexHost.faults c.answer_lines.new.host)) c.args.keep (g.D.Disk.images c.args.disk.now) (g.D.Disk.images c.answer_lines.new.disk)
    c.in-Ok.ensures.started (subst (Appends (g.O.Sink.taken c.args.out.now) (g.O.Sink.taken c.write_all.new.sink)) line c.in_ok-write_all.ensures.written)
    c.answer_lines.result (c.answer_lines.ensures.ends told)

pub returns-clause-ends : goal.returns-clause-ends
returns-clause-ends g c = λ told.
    let line : c.as_bytes.result.now ≡ kept_line (length c.args.keep.list) = c.as_bytes.ensures.value ∙ c.in_ok-text.ensures ∙ ap kept_line c.requires.count in
    none_answered (g.F.Source.files c.args.shelf.now) c.args.script.now (Appends (g.O.Sink.taken c.args.out.now) (g.O.Sink.taken c.write_all.new.sink))
    (g.H.RegexHost.faults c.args.host.now) (g.H.RegexHost.faults c.args.host.now) c.args.keep (g.D.Disk.images c.args.disk.now) (omega arith)
    (subst (Appends (g.O.Sink.taken c.args.out.now) (g.O.Sink.taken c.write_all.new.sink)) line c.in_ok-write_all.ensures.written)
    (agreed_safe (g.D.Disk.images c.args.disk.now) c.args.keep (c.requires.agrees told))

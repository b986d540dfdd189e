use Rattle.std.proofs.Common.{◌≡◌, ◌∙◌, Err, inl, inr, sym, ap, refl, arith, subst, string_bytes}
use Rattle.std.specs.declared.string.String.{String}
use Rattle.std.specs.declared.alloc.Global.{Global}
use Rattle.dnr_spec.specs.declared.status.Status.{Status}
use Rattle.keep_run_spec.specs.Output as output
use Rattle.keep_run.specs.Ends.{around, images, EndsSo}
use Rattle.keep_run.specs.Seen.{keeping_seen}
use Rattle.keep_run.proofs.Ended.{opened_is, ends_opened, ends_silently, ends_by_disk, ends_refused, made}
use Rattle.keep_run.proofs.Stopped.{sound_on}
use Rattle.keep_run.proofs.commands.keep_rules.Goals as goal

pub returns-in-Ok-clause-allowed : goal.returns-in-Ok-clause-allowed
returns-in-Ok-clause-allowed g c = λ told.
    let opened = c.in-Ok.ensures in
    let script = c.answer_script.ensures in
    let first = opened_is c.in-Ok.keep c.args.keeping.extension.now (g.D.Disk.seen c.args.disk.now) opened.name (opened.list told) (opened.place told) opened.live in
    subst (λ (s : Status). EndsSo (g.F.Source.files c.args.shelf.now) (keeping_seen c.args.keeping) (around (g.F.Source.faults c.args.shelf.now) (g.F.Source.faults c.answer_script.new.shelf) (g.O.Sink.faults c.args.out.now) (g.O.Sink.faults c.answer_script.new.out) (g.H.RegexHost.faults c.args.host.now) (g.H.RegexHost.faults c.answer_script.new.host) (g.D.Disk.faults c.args.disk.now) (g.D.Disk.faults c.answer_script.new.disk)) (images (g.D.Disk.seen c.args.disk.now) (g.D.Disk.images c.args.disk.now) (g.D.Disk.images c.answer_script.new.disk)) (g.O.Sink.taken c.args.out.now) (g.O.Sink.taken c.answer_script.new.out) s) (sym c.ended.ensures.status)
    (ends_opened (g.F.Source.files c.args.shelf.now) (keeping_seen c.args.keeping) (around (g.F.Source.faults c.args.shelf.now) (g.F.Source.faults c.answer_script.new.shelf) (g.O.Sink.faults c.args.out.now) (g.O.Sink.faults c.answer_script.new.out) (g.H.RegexHost.faults c.args.host.now) (g.H.RegexHost.faults c.answer_script.new.host) (g.D.Disk.faults c.args.disk.now) (g.D.Disk.faults c.answer_script.new.disk)) (images (g.D.Disk.seen c.args.disk.now) (g.D.Disk.images c.args.disk.now) (g.D.Disk.images c.answer_script.new.disk)) (g.O.Sink.taken c.args.out.now) (g.O.Sink.taken c.answer_script.new.out) (g.H.RegexHost.faults c.args.host.now) (g.H.RegexHost.faults c.open.new.host) (g.H.RegexHost.faults c.answer_script.new.host)
    c.in-Ok.keep (g.D.Disk.images c.open.new.disk) c.open.ensures.host.later first (c.open.ensures.afterwards told) refl c.answer_script.result
    script.read_fault.failed script.write_fault.failed (λ is. let rose = script.disk_fault.failed is in omega (arith, c.open.ensures.cause.later, rose))
    (script.ends (c.open.ensures.told ∙ told)))

pub returns-in-Ok-clause-sound : goal.returns-in-Ok-clause-sound
returns-in-Ok-clause-sound g c = λ told sound.
    sound_on c.args.keeping.extension.now c.in-Ok.keep.name (g.D.Disk.images c.open.new.disk) (g.D.Disk.images c.answer_script.new.disk) c.in-Ok.ensures.name
    (c.answer_script.ensures.sound (c.open.ensures.told ∙ told)) (c.open.ensures.sound told sound)

pub returns-in-Err-DiskFault-clause-allowed : goal.returns-in-Err-DiskFault-clause-allowed
returns-in-Err-DiskFault-clause-allowed g c = λ told.
    ends_by_disk (g.F.Source.files c.args.shelf.now) (keeping_seen c.args.keeping) (around (g.F.Source.faults c.args.shelf.now) (g.F.Source.faults c.args.shelf.now) (g.O.Sink.faults c.args.out.now) (g.O.Sink.faults c.args.out.now) (g.H.RegexHost.faults c.args.host.now) (g.H.RegexHost.faults c.open.new.host) (g.D.Disk.faults c.args.disk.now) (g.D.Disk.faults c.open.new.disk)) (images (g.D.Disk.seen c.args.disk.now) (g.D.Disk.images c.args.disk.now) (g.D.Disk.images c.open.new.disk)) (g.O.Sink.taken c.args.out.now) (g.O.Sink.taken c.args.out.now) refl (c.open.ensures.afterwards told) (c.in-Err-DiskFault.ensures.cause.failed (ap Err c.in-Err-DiskFault.field-0-is))

pub returns-in-Err-NoMemory-clause-allowed : goal.returns-in-Err-NoMemory-clause-allowed
returns-in-Err-NoMemory-clause-allowed g c = λ told.
    ends_silently (g.F.Source.files c.args.shelf.now) (keeping_seen c.args.keeping) (around (g.F.Source.faults c.args.shelf.now) (g.F.Source.faults c.args.shelf.now) (g.O.Sink.faults c.args.out.now) (g.O.Sink.faults c.args.out.now) (g.H.RegexHost.faults c.args.host.now) (g.H.RegexHost.faults c.open.new.host) (g.D.Disk.faults c.args.disk.now) (g.D.Disk.faults c.open.new.disk)) (images (g.D.Disk.seen c.args.disk.now) (g.D.Disk.images c.args.disk.now) (g.D.Disk.images c.open.new.disk)) (g.O.Sink.taken c.args.out.now) (g.O.Sink.taken c.args.out.now) refl (c.open.ensures.afterwards told)

pub returns-in-Err-KeepTooLong-clause-allowed : goal.returns-in-Err-KeepTooLong-clause-allowed
returns-in-Err-KeepTooLong-clause-allowed g c = λ told.
    let line = made (λ (text : String Global). string_bytes text ≡ output.too_long_line c.args.keeping.file.now) c.too_long_line.result c.too_long_line.ensures in
    ends_refused (g.F.Source.files c.args.shelf.now) (keeping_seen c.args.keeping) (around (g.F.Source.faults c.args.shelf.now) (g.F.Source.faults c.args.shelf.now) (g.O.Sink.faults c.args.out.now) (g.O.Sink.faults c.refuse.new.out) (g.H.RegexHost.faults c.args.host.now) (g.H.RegexHost.faults c.open.new.host) (g.D.Disk.faults c.args.disk.now) (g.D.Disk.faults c.open.new.disk)) (images (g.D.Disk.seen c.args.disk.now) (g.D.Disk.images c.args.disk.now) (g.D.Disk.images c.open.new.disk)) (g.O.Sink.taken c.args.out.now) (g.O.Sink.taken c.refuse.new.out) (c.open.ensures.afterwards told) c.too_long_line.result c.refuse.result
    (λ text is. inl (c.in-Err-KeepTooLong.ensures.too_long (ap Err c.in-Err-KeepTooLong.field-0-is) told, line text is)) c.refuse.ensures

pub returns-in-Err-BadRecord-clause-allowed : goal.returns-in-Err-BadRecord-clause-allowed
returns-in-Err-BadRecord-clause-allowed g c = λ told.
    let line = made (λ (text : String Global). string_bytes text ≡ output.bad_record_line c.args.keeping.file.now c.in-Err-BadRecord.place) c.bad_record_line.result c.bad_record_line.ensures in
    ends_refused (g.F.Source.files c.args.shelf.now) (keeping_seen c.args.keeping) (around (g.F.Source.faults c.args.shelf.now) (g.F.Source.faults c.args.shelf.now) (g.O.Sink.faults c.args.out.now) (g.O.Sink.faults c.refuse-in-Err-BadRecord.new.out) (g.H.RegexHost.faults c.args.host.now) (g.H.RegexHost.faults c.open.new.host) (g.D.Disk.faults c.args.disk.now) (g.D.Disk.faults c.open.new.disk)) (images (g.D.Disk.seen c.args.disk.now) (g.D.Disk.images c.args.disk.now) (g.D.Disk.images c.open.new.disk)) (g.O.Sink.taken c.args.out.now) (g.O.Sink.taken c.refuse-in-Err-BadRecord.new.out) (c.open.ensures.afterwards told) c.bad_record_line.result c.refuse-in-Err-BadRecord.result
    (λ text is. inr (inl (c.in-Err-BadRecord.place, c.in-Err-BadRecord.ensures.bad c.in-Err-BadRecord.place (ap Err c.in-Err-BadRecord.field-0-is) told, line text is))) c.refuse-in-Err-BadRecord.ensures

pub returns-in-Err-HostFault-clause-allowed : goal.returns-in-Err-HostFault-clause-allowed
returns-in-Err-HostFault-clause-allowed g c = λ told.
    let line = made (λ (text : String Global). string_bytes text ≡ output.host_line c.args.keeping.file.now) c.host_line.result c.host_line.ensures in
    ends_refused (g.F.Source.files c.args.shelf.now) (keeping_seen c.args.keeping) (around (g.F.Source.faults c.args.shelf.now) (g.F.Source.faults c.args.shelf.now) (g.O.Sink.faults c.args.out.now) (g.O.Sink.faults c.refuse-in-Err-HostFault.new.out) (g.H.RegexHost.faults c.args.host.now) (g.H.RegexHost.faults c.open.new.host) (g.D.Disk.faults c.args.disk.now) (g.D.Disk.faults c.open.new.disk)) (images (g.D.Disk.seen c.args.disk.now) (g.D.Disk.images c.args.disk.now) (g.D.Disk.images c.open.new.disk)) (g.O.Sink.taken c.args.out.now) (g.O.Sink.taken c.refuse-in-Err-HostFault.new.out) (c.open.ensures.afterwards told) c.host_line.result c.refuse-in-Err-HostFault.result
    (λ text is. inr (inr (c.in-Err-HostFault.ensures.host.failed (ap Err c.in-Err-HostFault.field-0-is), line text is))) c.refuse-in-Err-HostFault.ensures

use Rattle.std.proofs.Common.{map, string_bytes}
use Rattle.keep_run_spec.specs.Words.{keeping_of}
use Rattle.keep_run.specs.Ends.{around, images}
use Rattle.keep_run.specs.Seen.{keeping_seen}
use Rattle.keep_run.proofs.Ran.{of_words, completes}
use Rattle.keep_run.proofs.commands.run_keep.Goals as goal

pub returns-in-Some-clause-complete : goal.returns-in-Some-clause-complete
returns-in-Some-clause-complete g c = λ told.
    of_words _ (keeping_of (map string_bytes c.args.words.now)) (keeping_seen c.in-Some.keeping) c.in-Some.ensures
    (completes (g.F.Source.files c.args.shelf.now) (keeping_seen c.in-Some.keeping) (around (g.F.Source.faults c.args.shelf.now) (g.F.Source.faults c.keep_rules.new.shelf) (g.O.Sink.faults c.args.out.now) (g.O.Sink.faults c.keep_rules.new.out) (g.H.RegexHost.faults c.args.host.now) (g.H.RegexHost.faults c.keep_rules.new.host) (g.D.Disk.faults c.args.disk.now) (g.D.Disk.faults c.keep_rules.new.disk)) (images (g.D.Disk.seen c.args.disk.now) (g.D.Disk.images c.args.disk.now) (g.D.Disk.images c.keep_rules.new.disk)) (g.O.Sink.taken c.args.out.now) (g.O.Sink.taken c.keep_rules.new.out) c.keep_rules.result
    (g.met.D.Disk.seen_is_image c.args.disk.now told) (c.keep_rules.ensures.allowed told))

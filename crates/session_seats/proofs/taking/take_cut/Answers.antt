use Rattle.std.proofs.Common.{length, ap}
use Rattle.session_seats.specs.Reading.{seen_line}
use Rattle.session_seats.proofs.SoFar.{ends_as_taken, held_as_taken, reads_as_taken}
use Rattle.session_seats.proofs.taking.take_cut.Goals as goal

pub returns-clause-ends : goal.returns-clause-ends
returns-clause-ends g c =
    ends_as_taken c.take.result c.args.round.now.held c.args.line.number c.args.line.bytes _ (g.H.RegexHost.faults c.args.checker.now) (g.H.RegexHost.faults c.take_line.new.checker) (seen_line c.in_ok-taken.taken)
    (ap length c.bytes-count.ensures) c.in_ok-taken.ensures.taken.has c.take.ensures.ends

pub returns-clause-held : goal.returns-clause-held
returns-clause-held g c =
    held_as_taken c.take.result c.args.round.now.held c.take.new.self.held c.args.line.number c.args.line.bytes _ (g.H.RegexHost.faults c.args.checker.now) (g.H.RegexHost.faults c.take_line.new.checker) (seen_line c.in_ok-taken.taken)
    (ap length c.bytes-count.ensures) c.in_ok-taken.ensures.taken.has c.take.ensures.held

pub returns-clause-reads : goal.returns-clause-reads
returns-clause-reads g c =
    reads_as_taken c.take.result c.args.line.number c.args.line.bytes (g.H.RegexHost.faults c.args.checker.now) (g.H.RegexHost.faults c.take_line.new.checker) (seen_line c.in_ok-taken.taken) c.args.round.now.reads c.take.new.self.reads
    c.in_ok-taken.ensures.taken.has c.take.ensures.appended

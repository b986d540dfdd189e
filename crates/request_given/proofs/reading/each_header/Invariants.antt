use Rattle.request_given.specs.Reads.{header_at}
use Rattle.request_given.proofs.Each.{AreReadSoFar}
use Rattle.request_given.proofs.reading.each_header.Given as goal

abbrev pub invariant-loop-header : goal.invariant-loop-header
invariant-loop-header l = AreReadSoFar (header_at l.part) l.headers l.read.items l.header-index

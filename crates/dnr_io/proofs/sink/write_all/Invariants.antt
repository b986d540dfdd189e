use Rattle.std.proofs.Common.{◌≡◌, ◌≤◌, ◌++◌, List, ℕ, length, is_some}
use Rattle.std.specs.Io.KnownBytes.{Appends}
use Rattle.dnr_io.proofs.sink.write_all.Given as goal

-- what was sent so far, and what is left of the bytes
abbrev pub invariant-loop-rest : goal.invariant-loop-rest
invariant-loop-rest g l = record {
  sent : List ℕ;
  taken : Appends (g.K.Sink.taken l.fn.sink) (g.K.Sink.taken l.sink) sent;
  split : l.fn.bytes ≡ sent ++ l.rest;
  later : g.K.Sink.faults l.fn.sink ≤ g.K.Sink.faults l.sink;
  told : is_some (g.K.Sink.taken l.sink) ≡ is_some (g.K.Sink.taken l.fn.sink);
}

abbrev pub decreases-loop-rest : goal.decreases-loop-rest
decreases-loop-rest g l = length l.rest

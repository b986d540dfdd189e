use Rattle.std.proofs.Common.{◌≡◌, map, take}
use Rattle.session_seats.proofs.rounds.counts_of.Given as goal

abbrev pub invariant-loop-host : goal.invariant-loop-host
invariant-loop-host g l = l.counts.items ≡ map g.H.RegexHost.faults (take l.host-index l.hosts)

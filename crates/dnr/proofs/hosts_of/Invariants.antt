use Rattle.std.proofs.Common.{◌≡◌, ◌+◌, length}
use Rattle.dnr.proofs.hosts_of.Given as goal

abbrev pub invariant-loop : goal.invariant-loop
invariant-loop l = length l.hosts.items ≡ l.counter + 1

use Rattle.std.proofs.Common.{◌≡◌, length}
use Rattle.session_tests.proofs.runs.hosts.Given as goal

abbrev pub invariant-loop-place : goal.invariant-loop-place
invariant-loop-place l = length l.hosts.items ≡ l.place

use Rattle.std.proofs.Common.{◌≡◌, ◌+◌, ◌==◌, false, drop}
use Rattle.url_view.specs.Plain as spec
use Rattle.url_view.proofs.bytes.path_len.Given as goal

abbrev pub invariant-loop-place : goal.invariant-loop-place
invariant-loop-place l =
    spec.path_len false l.bytes ≡ l.place + spec.path_len (l.before == 47) (drop l.place l.bytes)

use Rattle.std.proofs.Common.{◌≡◌, length}
use Rattle.list_spec.specs.LineKind as lines
use Rattle.abp_parse.proofs.hiding.hides.Given as goal

abbrev pub invariant-loop-here : goal.invariant-loop-here
invariant-loop-here l = lines.hides l.text ≡ lines.hides l.rest

abbrev pub decreases-loop-here : goal.decreases-loop-here
decreases-loop-here l = length l.rest

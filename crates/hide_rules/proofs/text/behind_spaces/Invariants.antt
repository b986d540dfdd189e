use Rattle.std.proofs.Common.{◌≡◌, length}
use Rattle.hide_spec.specs.HidingLine as spec
use Rattle.hide_rules.proofs.text.behind_spaces.Given as goal

abbrev pub invariant-loop-first : goal.invariant-loop-first
invariant-loop-first l = spec.behind_spaces l.text ≡ spec.behind_spaces l.rest

abbrev pub decreases-loop-first : goal.decreases-loop-first
decreases-loop-first l = length l.rest

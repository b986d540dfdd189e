use Rattle.std.proofs.Common.{take}
use Rattle.dnr_spec.specs.Order as spec
use Rattle.precedence.specs.Best.{Keeps}
use Rattle.precedence.proofs.winners.across.Given as goal

abbrev pub invariant-loop-place : goal.invariant-loop-place
invariant-loop-place l = Keeps spec.prevails (take l.place l.list) l.best

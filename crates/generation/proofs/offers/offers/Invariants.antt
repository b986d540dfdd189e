use Rattle.std.proofs.Common.{◌≡◌, ◌-◌, drop, length}
use Rattle.generation.specs.Choice.{offers_by_all}
use Rattle.generation.proofs.offers.offers.Given as goal

abbrev pub invariant-loop-back : goal.invariant-loop-back
invariant-loop-back l = l.offers.items ≡ offers_by_all (drop (length l.kepts - l.back) l.kepts)

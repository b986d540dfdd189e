use Rattle.std.proofs.Common.{◌≡◌, ◌++◌, drop}
use Rattle.std.specs.List.{flat_map}
use Rattle.generation.specs.Choice.{offers_by_live}
use Rattle.generation.proofs.offers.add_lives.Given as goal

abbrev pub invariant-loop-live : goal.invariant-loop-live
invariant-loop-live l = l.fn.offers.items ++ flat_map (offers_by_live l.kept) l.lives ≡ l.offers.items ++ flat_map (offers_by_live l.kept) (drop l.live-index l.lives)

use Rattle.std.proofs.Common.{◌≡◌, drop, fold}
use Rattle.std.specs.List.{filter_map}
use Rattle.generation.specs.Choice.{decision_in, deciding_in, goes_before}
use Rattle.generation.specs.Kept.{better_of}
use Rattle.generation.proofs.decision.deciding.Given as goal

abbrev pub invariant-loop-kept : goal.invariant-loop-kept
invariant-loop-kept l = deciding_in l.kepts ≡ fold (better_of goes_before) l.best (filter_map decision_in (drop l.kept-index l.kepts))

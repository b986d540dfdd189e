use Rattle.std.proofs.Common.{◌≡◌, take}
use Rattle.rule_prune.specs.Filters as spec
use Rattle.rule_prune.proofs.outdone.Search.nearest.Given as goal

abbrev pub invariant-loop-other : goal.invariant-loop-other
invariant-loop-other l =
    l.best ≡ spec.nearest (spec.keeps l.self.rules.now l.self.gone.now l.self.place) l.fn.so_far (take l.other-index l.places)

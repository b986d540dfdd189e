use Rattle.std.proofs.Common.{◌≡◌, ◌++◌, drop, map}
use Rattle.rule_spec.specs.Scan.{offered}
use Rattle.generation.proofs.offers.offered.Given as goal

abbrev pub invariant-loop-offer : goal.invariant-loop-offer
invariant-loop-offer l = map offered l.offers ≡ l.list.items ++ map offered (drop l.offer-index l.offers)

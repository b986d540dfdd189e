use Rattle.std.proofs.Common.{◌≡◌, map, take}
use Rattle.dnr_spec.specs.Domains.{lower_case}
use Rattle.domain_set.proofs.set.DomainSet.of_domains.Given as goal

abbrev pub invariant-loop-entry : goal.invariant-loop-entry
invariant-loop-entry l = l.entries.items ≡ map lower_case (take l.entry-index l.list)

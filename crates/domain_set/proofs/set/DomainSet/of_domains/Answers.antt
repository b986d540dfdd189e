use Rattle.std.proofs.Common.{◌≡◌, map, arith}
use Rattle.std.proofs.lemmas.Grind.{common_steps}
use Rattle.dnr_spec.specs.Domains.{lower_case}
use Rattle.domain_set.proofs.Lowered.{domains_of-lower}
use Rattle.domain_set.proofs.set.DomainSet.of_domains.Goals as goal

pub of_entries-requires : goal.of_entries-requires
of_entries-requires c =
    let all : c.loop-entry.entries.items ≡ map lower_case c.args.list.now = grind (arith, common_steps) in
    rw all (domains_of-lower c.args.list.now c.requires)

use Rattle.std.proofs.Common.{rules, arith, ltb}
use Rattle.std.proofs.lemmas.Bool.Decides.{nat_tests}
use Rattle.std.proofs.lemmas.List.Sorted.{IsPartitionPoint-from_clause, IsPartitionedBy-ltb}
use Rattle.rule_ids.specs.declared.known_rule.KnownRule.{KnownRule}
use Rattle.rule_ids.proofs.known.start_of.Goals as goal

pub returns-clause-below : goal.returns-clause-below
returns-clause-below c k one within =
    let test = (IsPartitionPoint-from_clause (λ (one : KnownRule). ltb one.id c.args.id) c.args.known.now c.partition_point.result c.partition_point.ensures.partitioned
    (IsPartitionedBy-ltb (λ (one : KnownRule). one.id) c.args.known.now c.args.id c.requires) (λ a r q called. search rules)).0 k one (omega arith) within in
    grind (arith, nat_tests, test)

pub returns-clause-behind : goal.returns-clause-behind
returns-clause-behind c k one from within =
    let test = (IsPartitionPoint-from_clause (λ (one : KnownRule). ltb one.id c.args.id) c.args.known.now c.partition_point.result c.partition_point.ensures.partitioned
    (IsPartitionedBy-ltb (λ (one : KnownRule). one.id) c.args.known.now c.args.id c.requires) (λ a r q called. search rules)).1 k one from within in
    grind (arith, nat_tests, test)

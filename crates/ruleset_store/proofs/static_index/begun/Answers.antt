use Rattle.std.proofs.Common.{ℕ, rules, arith, leb}
use Rattle.std.proofs.lemmas.Bool.Decides.{nat_tests}
use Rattle.std.proofs.lemmas.List.Sorted.{IsPartitionPoint-from_clause, IsPartitionedBy-leb}
use Rattle.ruleset_store.proofs.static_index.begun.Goals as goal

pub returns-clause-below : goal.returns-clause-below
returns-clause-below c k within =
    let test = (IsPartitionPoint-from_clause (λ (start : ℕ). leb start c.args.place) c.args.starts.now c.partition_point.result c.partition_point.ensures.partitioned
    (IsPartitionedBy-leb (λ (start : ℕ). start) c.args.starts.now c.args.place c.requires) (λ a r q called. search rules)).0 k 0 (omega arith) within in
    grind (arith, nat_tests, test)

pub returns-clause-behind : goal.returns-clause-behind
returns-clause-behind c k from within =
    let test = (IsPartitionPoint-from_clause (λ (start : ℕ). leb start c.args.place) c.args.starts.now c.partition_point.result c.partition_point.ensures.partitioned
    (IsPartitionedBy-leb (λ (start : ℕ). start) c.args.starts.now c.args.place c.requires) (λ a r q called. search rules)).1 k 0 from within in
    grind (arith, nat_tests, test)

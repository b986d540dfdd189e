use Rattle.std.proofs.Common.{rules, arith, nat_lt}
use Rattle.std.proofs.lemmas.Bool.{ltb-true}
use Rattle.std.proofs.lemmas.List.Sorted.{IsPartitionPoint-from_clause, IsPartitionedBy-ltb}
use Rattle.key_table.specs.declared.entry.Entry.{Entry}
use Rattle.key_table.proofs.bucket.tag_start.Goals as goal

pub returns-clause-below : goal.returns-clause-below
returns-clause-below c k entry inside =
    ltb-true _ _ ((IsPartitionPoint-from_clause (λ (e : Entry). nat_lt e.tag c.args.tag) c.args.entries.now c.partition_point.result c.partition_point.ensures.partitioned
    (IsPartitionedBy-ltb (λ (e : Entry). e.tag) c.args.entries.now c.args.tag c.requires) (λ a r q called. search rules)).0 k entry (omega arith) inside)

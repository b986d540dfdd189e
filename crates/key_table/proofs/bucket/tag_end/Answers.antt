use Rattle.std.proofs.Common.{rules}
use Rattle.std.proofs.Math.Dec.{leb}
use Rattle.std.proofs.lemmas.Bool.{leb-false}
use Rattle.std.proofs.lemmas.List.Sorted.{IsPartitionPoint-from_clause, IsPartitionedBy-leb}
use Rattle.key_table.specs.declared.entry.Entry.{Entry}
use Rattle.key_table.proofs.bucket.tag_end.Goals as goal

pub returns-clause-above : goal.returns-clause-above
returns-clause-above c k entry from inside =
    leb-false _ _ ((IsPartitionPoint-from_clause (λ (e : Entry). leb e.tag c.args.tag) c.args.entries.now c.partition_point.result c.partition_point.ensures.partitioned
    (IsPartitionedBy-leb (λ (e : Entry). e.tag) c.args.entries.now c.args.tag c.requires) (λ a r q called. search rules)).1 k entry from inside)

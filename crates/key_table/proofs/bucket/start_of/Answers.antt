use Rattle.std.proofs.Common.{rules, arith, ◌∷◌}
use Rattle.std.specs.Ordering.{nat_cmp, is_lt}
use Rattle.std.specs.Cmp.Lexicographic.{slice_cmp}
use Rattle.std.proofs.lemmas.List.Sorted.{IsPartitionPoint-from_clause}
use Rattle.key_table.specs.Kept.{rank_in}
use Rattle.key_table.proofs.Search.{below_first}
use Rattle.key_table.proofs.bucket.start_of.Goals as goal

pub returns-clause-below : goal.returns-clause-below
returns-clause-below c k entry inside =
    (IsPartitionPoint-from_clause (λ entry. is_lt (slice_cmp nat_cmp (rank_in c.args.texts.now entry) (c.args.tag ∷ c.args.asked.now))) c.args.entries.now c.partition_point.result c.partition_point.ensures.partitioned
    (below_first c.args.texts.now (c.args.tag ∷ c.args.asked.now) c.args.entries.now c.requires) (λ a r q called. search rules)).0 k entry (omega arith) inside

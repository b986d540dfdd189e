use Rattle.std.proofs.Common.{rules, ◌∷◌}
use Rattle.std.specs.Ordering.{nat_cmp, is_le}
use Rattle.std.specs.Cmp.Lexicographic.{slice_cmp}
use Rattle.std.proofs.lemmas.List.Sorted.{IsPartitionPoint-from_clause}
use Rattle.key_table.specs.Kept.{rank_in}
use Rattle.key_table.proofs.Search.{above_last}
use Rattle.key_table.proofs.bucket.end_of.Goals as goal

pub returns-clause-above : goal.returns-clause-above
returns-clause-above c k entry from inside =
    (IsPartitionPoint-from_clause (λ entry. is_le (slice_cmp nat_cmp (rank_in c.args.texts.now entry) (c.args.tag ∷ c.args.asked.now))) c.args.entries.now c.partition_point.result c.partition_point.ensures.partitioned
    (above_last c.args.texts.now (c.args.tag ∷ c.args.asked.now) c.args.entries.now c.requires) (λ a r q called. search rules)).1 k entry from inside

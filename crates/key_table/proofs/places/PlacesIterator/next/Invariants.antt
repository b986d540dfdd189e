use Rattle.std.proofs.Common.{◌≡◌, length}
use Rattle.key_table.specs.Kept.{pairs_in}
use Rattle.key_table.specs.Bucket.{IsBucket}
use Rattle.key_table.specs.Hash.{tag_of}
use Rattle.key_table.specs.Pairs.{near_of}
use Rattle.key_table.proofs.places.PlacesIterator.next.Given as goal

abbrev pub invariant-loop-first : goal.invariant-loop-first
invariant-loop-first l = record {
  bucket : IsBucket l.self-inside.texts.now l.self-inside.asked l.self-inside.bucket;
  tag : l.self-inside.tag ≡ tag_of l.self-inside.asked;
  left : near_of l.self-inside.asked l.self-inside.shown (pairs_in l.self-inside.texts.now l.self-inside.bucket.entries.now)
      ≡ near_of l.initial.self-inside.asked l.initial.self-inside.shown (pairs_in l.initial.self-inside.texts.now l.initial.self-inside.bucket.entries.now);
}

abbrev pub decreases-loop-first : goal.decreases-loop-first
decreases-loop-first l = length l.self-inside.bucket.entries.now

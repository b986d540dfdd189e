use Rattle.std.proofs.Common.{◌≡◌, take}
use Rattle.std.specs.Prelude.{filter}
use Rattle.update_spec.specs.Judge.{has_id}
use Rattle.update_spec.specs.Update.{without_ids}
use Rattle.rule_ids.specs.Counted.{counts_of}
use Rattle.rule_segments.specs.Segments.{live_in}
use Rattle.rule_segments.proofs.segment.Segment.removal.Given as goal

abbrev pub invariant-loop-id : goal.invariant-loop-id
invariant-loop-id l = record {
  ids : l.gone.items ≡ filter (has_id (live_in l.self)) (take l.id-index l.remove);
  counts : l.counts ≡ counts_of (without_ids (take l.id-index l.remove) (live_in l.self));
}

use Rattle.key_table.specs.Kept.{IsRising}
use Rattle.key_table.proofs.Search.{tags_rise, entries_in_order, pairs_in_order}
use Rattle.key_table.proofs.draft.Draft.finish.Goals as goal

pub starts_of-requires : goal.starts_of-requires
starts_of-requires c = rw c.deref-2.ensures.value (tags_rise c.deref.result.now c.sort.new.entries.items c.in_ok-sort.ensures.sorted)

pub new-requires : goal.new-requires
new-requires c = record {
  kept = record {
    all = entries_in_order _ _ _ c.sort.ensures.moved c.self.invariant;
    rising = (let sorted : IsRising c.deref.result.now c.sort.new.entries.items = c.in_ok-sort.ensures.sorted in rw c.deref.ensures.value at sorted);
    cut = rw c.deref-2.ensures.value at c.in_ok-starts.ensures;
  };
  marked = rw c.deref-3.ensures.value at c.in_ok-marks.ensures;
  none_longer = rw c.deref-4.ensures.value at c.longest_of-longest.ensures;
}

pub returns : goal.returns
returns c = rw (c.new.ensures, ← c.self.view_is) (pairs_in_order _ _ _ c.sort.ensures.moved)

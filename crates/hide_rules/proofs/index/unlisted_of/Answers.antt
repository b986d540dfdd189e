use Rattle.std.proofs.Common.{map}
use Rattle.hide_rules.specs.Seen.{hiding_seen}
use Rattle.hide_rules.proofs.Filed.{unlisted_more}
use Rattle.hide_rules.proofs.Pages.{item_seen, within_seen}
use Rattle.hide_rules.proofs.index.unlisted_of.Goals as goal

pub loop-place-preserved : goal.loop-place-preserved
loop-place-preserved c =
    unlisted_more (map hiding_seen c.args.lines.now) c.loop-place.place (hiding_seen c.index-lines-place.result) c.loop-place.unlisted.items c.push_unlisted.new.unlisted.items
    (within_seen c.args.lines.now c.loop-place.place c.loop-place-test.true) (item_seen c.args.lines.now c.loop-place.place c.index-lines-place.result c.index-lines-place.is) c.loop-place.invariant c.in_ok-push_unlisted.ensures

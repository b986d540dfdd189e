use Rattle.hide_rules.proofs.Filed.{files_none, files_next}
use Rattle.hide_rules.proofs.listings.file_place.Goals as goal

pub loop-entry-init : goal.loop-entry-init
loop-entry-init c = files_none c.args.place c.args.listings.now

pub loop-entry-preserved : goal.loop-entry-preserved
loop-entry-preserved c =
    files_next c.args.place c.args.entries.now c.loop-entry.entry-index c.entry-item.result c.args.listings.now c.loop-entry.listings c.file_entry.new.listings c.loop-entry-test.true c.entry-item.is c.loop-entry.invariant c.in_ok-file_entry.ensures

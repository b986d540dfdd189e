use Rattle.std.proofs.Common.{sym, ◌∙◌, ap}
use Rattle.std.specs.Prelude.{slice_set}
use Rattle.rule_ids.specs.Counted.{counts_of}
use Rattle.live_rules.proofs.Slots.{cleared_at, gone_at, cleared_past, gone_past}
use Rattle.live_rules.proofs.live.clear.Goals as goal

pub returns-then-place-slots-clause-slots : goal.returns-then-place-slots-clause-slots
returns-then-place-slots-clause-slots c =
    ap (slice_set c.args.slots.now c.args.place) c.clear.ensures.slot
    ∙ sym (cleared_at c.args.id c.args.place c.args.slots.now c.index-slots-place.result c.if-place-slots.true)

pub returns-then-place-slots-clause-counts : goal.returns-then-place-slots-clause-counts
returns-then-place-slots-clause-counts c =
    c.clear.ensures.counts
    ∙ ap counts_of (sym (gone_at c.args.id c.args.place c.args.slots.now c.index-slots-place.result c.if-place-slots.true))

pub returns-clause-slots : goal.returns-clause-slots
returns-clause-slots c = sym (cleared_past c.args.id c.args.place c.args.slots.now c.if-place-slots.false)

pub returns-clause-counts : goal.returns-clause-counts
returns-clause-counts c =
    c.none.ensures ∙ ap counts_of (sym (gone_past c.args.id c.args.place c.args.slots.now c.if-place-slots.false))

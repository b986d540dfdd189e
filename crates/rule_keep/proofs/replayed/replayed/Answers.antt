use Rattle.std.proofs.Common.{rules, ◌≡◌, true, sym, subst}
use Rattle.ruleset_store.specs.Seen.{update_seen}
use Rattle.keep_spec.specs.Kept.{empty_extension}
use Rattle.live_rules.specs.Laws.{alone}
use Rattle.rule_keep.proofs.Replays.{replayed_more, all_kept, all_found}
use Rattle.rule_keep.proofs.replayed.replayed.Goals as goal

pub loop-payload-preserved : goal.loop-payload-preserved
loop-payload-preserved g c =
    let laws = c.made_updates_are_accepted.ensures in
    let yes : c.in_ok-make-in-Ok.field-0 ≡ true = search rules in
    record {
      so_far = replayed_more laws.accepted laws.left c.args.name.now c.args.bytes.now (g.U.Updates.stands c.loop-payload.updates) (g.U.Updates.stands c.add.new.self)
          c.loop-payload.place c.loop-payload.count c.loop-payload.live c.make.new.live c.in-Some.payload.now (update_seen c.in-Ok.update)
          c.loop-payload.invariant.so_far c.in-Some.ensures c.in-Ok.ensures.read (c.in_ok-make-in-Ok.ensures yes) c.in_ok-add-in-Ok.ensures;
      calm = search rules;
    }

pub returns-clause-replayed : goal.returns-clause-replayed
returns-clause-replayed g c =
    let so_far = c.loop-payload.invariant.so_far in
    all_found c.args.name.now c.args.bytes.now so_far.list c.loop-payload.place (alone (empty_extension c.args.name.now) c.loop-payload.live c.loop-payload.count)
    so_far.so_far c.in_default.ensures

pub returns-clause-updates : goal.returns-clause-updates
returns-clause-updates g c =
    let so_far = c.loop-payload.invariant.so_far in
    subst (g.U.Updates.stands c.loop-payload.updates)
    (sym (all_kept c.args.name.now c.args.bytes.now so_far.list c.loop-payload.place (alone (empty_extension c.args.name.now) c.loop-payload.live c.loop-payload.count)
    so_far.so_far c.in_default.ensures))
    so_far.stands

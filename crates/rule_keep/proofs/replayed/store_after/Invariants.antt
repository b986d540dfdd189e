use Rattle.std.proofs.Common.{◌≡◌, []}
use Rattle.update_spec.specs.Update.{dynamic}
use Rattle.ruleset_store.specs.Seen.{update_seen}
use Rattle.live_rules.specs.Laws.{alone}
use Rattle.keep_spec.specs.Kept.{empty_extension}
use Rattle.rule_keep.proofs.replayed.store_after.Given as goal

abbrev pub invariant-loop : goal.invariant-loop
invariant-loop l = record {
  store : l.store ≡ alone (empty_extension l.name) [] l.counter;
  nothing : update_seen l.nothing ≡ dynamic l.name [] [];
}

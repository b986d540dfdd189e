use Rattle.std.proofs.Common.{◌≡◌, take}
use Rattle.update_spec.specs.Update.{without_ids}
use Rattle.live_rules.proofs.live.LiveRules.remove_all.Given as goal

abbrev pub invariant-loop-id : goal.invariant-loop-id
invariant-loop-id l = l.self ≡ without_ids (take l.id-index l.ids) l.fn.self

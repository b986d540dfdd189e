use Rattle.std.proofs.Common.{◌≡◌, ◌++◌, take, false, All}
use Rattle.update_spec.specs.Judge.{has_id}
use Rattle.live_rules.proofs.live.LiveRules.add_all.Given as goal

abbrev pub invariant-loop-shared : goal.invariant-loop-shared
invariant-loop-shared l = record {
  rules : l.self ≡ l.fn.self ++ take l.shared-index l.rules;
  others : All (λ rule. has_id l.fn.self rule.id ≡ false) (take l.shared-index l.rules);
}

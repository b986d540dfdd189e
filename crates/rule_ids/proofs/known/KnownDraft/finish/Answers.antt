use Rattle.std.proofs.Common.{◌<◌, ◌^◌}
use Rattle.std.proofs.lemmas.List.Sorted.{All-permutation}
use Rattle.rule_ids.specs.declared.known_rule.KnownRule.{KnownRule}
use Rattle.rule_ids.proofs.known.KnownDraft.finish.Goals as goal

pub invariant_of-result : goal.invariant_of-result
invariant_of-result c = record {
  rising = c.in_ok-known.ensures.rising;
  small = All-permutation (λ (one : KnownRule). one.id < 2 ^ 32) c.self.inside.known.items c.in_ok-known.known.items c.in_ok-known.ensures.same c.self.invariant;
}

use Rattle.std.proofs.Common.{ℕ, List, arith, sym, subst}
use Rattle.std.specs.List.Sorted.{IsNonDecreasingBy}
use Rattle.ruleset_store.specs.StaticIndex.{lists_of}
use Rattle.ruleset_store.proofs.Lists.{starts_rise}
use Rattle.ruleset_store.proofs.static_index.StaticIndex.of.Goals as goal

pub invariant_of-result : goal.invariant_of-result
invariant_of-result c = record {
  rising = subst (λ (starts : List ℕ). IsNonDecreasingBy (λ (n : ℕ). n) starts) (sym c.in_ok-starts.ensures) (starts_rise 0 (lists_of c.args.sets.now));
  few = omega arith;
}

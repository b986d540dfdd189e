use Rattle.std.proofs.Common.{◌≡◌, ◌++◌, drop, filter}
use Rattle.std.specs.Prelude.{nat_le}
use Rattle.generation.proofs.sorted.not_outdone.Given as goal

abbrev pub invariant-loop-live : goal.invariant-loop-live
invariant-loop-live l =
    filter (λ live. nat_le l.allowed live.rule.priority) l.lives ≡ l.list.items ++ filter (λ live. nat_le l.allowed live.rule.priority) (drop l.live-index l.lives)

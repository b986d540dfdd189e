use Rattle.std.proofs.Common.{ℕ, ◌≤◌, List, subst}
use Rattle.std.specs.List.{Contains, sum_by}
use Rattle.std.specs.List.Sorted.{IsStrictlySortedBy}
use Rattle.std.proofs.lemmas.List.Sorted.{Contains-permutation, sum_by-IsPermutation}
use Rattle.generation.specs.Hits.{hit_cmp}
use Rattle.generation.proofs.Once.{kept_once, lighter_once, once_is, sorted_once}
use Rattle.generation.proofs.hits.sort_once.Goals as goal

pub returns-clause-sorted : goal.returns-clause-sorted
returns-clause-sorted c =
    subst (IsStrictlySortedBy hit_cmp) (once_is c.sort_unstable.new.self.items c.dedup.new.self.items c.dedup.ensures.filtered)
    (sorted_once c.sort_unstable.new.self.items c.sort_unstable.ensures.sorted)

pub returns-clause-all : goal.returns-clause-all
returns-clause-all c hit has =
    subst (λ (l : List (ℕ × ℕ)). Contains l hit) (once_is c.sort_unstable.new.self.items c.dedup.new.self.items c.dedup.ensures.filtered)
    (kept_once c.sort_unstable.new.self.items hit (Contains-permutation c.args.hits.now.items c.sort_unstable.new.self.items hit c.sort_unstable.ensures.permutation has))

pub returns-clause-few : goal.returns-clause-few
returns-clause-few c weight =
    subst (λ (n : ℕ). sum_by weight c.dedup.new.self.items ≤ n) (sum_by-IsPermutation weight c.args.hits.now.items c.sort_unstable.new.self.items c.sort_unstable.ensures.permutation)
    (subst (λ (l : List (ℕ × ℕ)). sum_by weight l ≤ sum_by weight c.sort_unstable.new.self.items) (once_is c.sort_unstable.new.self.items c.dedup.new.self.items c.dedup.ensures.filtered)
    (lighter_once weight c.sort_unstable.new.self.items))

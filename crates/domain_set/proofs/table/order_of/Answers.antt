use Rattle.std.proofs.Common.{List, ℕ, subst}
use Rattle.std.specs.List.Sorted.{IsPermutation}
use Rattle.domain_set.proofs.Found.{is_order}
use Rattle.domain_set.proofs.table.order_of.Goals as goal

pub returns : goal.returns
returns c =
    is_order c.args.entries.now c.sort.new.places.items
    (subst (λ (l : List ℕ). IsPermutation l c.sort.new.places.items) c.in_ok-order.ensures c.in_ok-sort.ensures.moved) c.in_ok-sort.ensures.sorted

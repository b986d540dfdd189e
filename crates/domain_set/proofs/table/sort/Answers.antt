use Rattle.std.proofs.Common.{rules, ◌≡◌}
use Rattle.std.specs.Ordering.{is_lt, nat_cmp}
use Rattle.std.specs.Cmp.Lexicographic.{slice_cmp}
use Rattle.std.proofs.lemmas.Cmp.{nat_list_cmp_total}
use Rattle.std.proofs.lemmas.Fn.{always_returns_same}
use Rattle.std.proofs.lemmas.List.Sorted.{ranks_by}
use Rattle.domain_set.specs.Table.{text_at}
use Rattle.domain_set.proofs.table.sort.Goals as goal

pub returns-clause-sorted : goal.returns-clause-sorted
returns-clause-sorted c =
    let list = c.args.entries.now in
    c.in_ok-sort_by.ensures.sorted (λ x y. is_lt (slice_cmp nat_cmp (text_at list x) (text_at list y))) (ranks_by nat_list_cmp_total (text_at list))
    (always_returns_same _ (λ a r. is_lt r ≡ is_lt (slice_cmp nat_cmp (text_at list a.0.now) (text_at list a.1.0.now))) _ (λ a r f' k. search rules))

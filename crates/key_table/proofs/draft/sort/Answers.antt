use Rattle.std.proofs.Common.{rules, ◌≡◌, List, ℕ, Result, Ok, Err, OnOk}
use Rattle.std.specs.Ordering.{is_lt}
use Rattle.std.proofs.lemmas.Cmp.{nat_list_cmp_total}
use Rattle.std.proofs.lemmas.Fn.{always_returns_same}
use Rattle.std.proofs.lemmas.List.Sorted.{ranks_by}
use Rattle.key_table.specs.Kept.{is_below, rank_in}
use Rattle.key_table.proofs.draft.sort.Goals as goal

on_ok : {E : Type 0} (r : Result (Unit {0}) E) (P Q : Type 0) → (P → Q) → OnOk r P → OnOk r Q
on_ok (Ok x) P Q f p = f p
on_ok (Err e) P Q f p = tt

pub returns-clause-sorted : goal.returns-clause-sorted
returns-clause-sorted c =
    let texts : List ℕ = c.args.texts.now in
    on_ok c.sort_by.result _ _
    (λ sorted. sorted (λ x y. is_below (rank_in texts x) (rank_in texts y)) (ranks_by nat_list_cmp_total (rank_in texts))
    (always_returns_same _ (λ a r. is_lt r ≡ is_below (rank_in texts a.0.now) (rank_in texts a.1.0.now)) _ (λ a r f' k. search rules)))
    c.sort_by.ensures.sorted

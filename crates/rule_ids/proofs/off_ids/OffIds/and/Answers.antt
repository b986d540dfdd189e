use Rattle.std.proofs.Common.{ℕ, List, ◌++◌, ◌≡◌, ap, ◌∙◌}
use Rattle.std.proofs.lemmas.List.Sorted.{IsPermutation-append_left, IsPermutation-trans}
use Rattle.rule_ids.proofs.off_ids.OffIds.and.Goals as goal

pub invariant_of-result : goal.invariant_of-result
invariant_of-result c =
    let others : List ℕ = c.args.others.now in
    let ids : c.in_ok-ids.ids.items ≡ c.self.inside.ids.items ++ others = c.in_ok-ids.ensures ∙ ap (λ (ids : List ℕ). ids ++ others) c.as_slice.ensures.value in
    let rising : c.in_ok-joined.field-0.items ≡ c.self.inside.rising.items ++ others = c.in_ok-joined.ensures ∙ ap (λ (ids : List ℕ). ids ++ others) c.as_slice-2.ensures.value in
    let both = IsPermutation-append_left others c.self.inside.ids.items c.self.inside.rising.items c.self.invariant.same in
    record {
      same = IsPermutation-trans c.in_ok-ids.ids.items c.in_ok-joined.field-0.items c.in_ok-rising.rising.items (rw (ids, rising) both) c.in_ok-rising.ensures.same;
      rising = c.in_ok-rising.ensures.rising;
    }

use Rattle.std.proofs.Common.{ℕ}
use Rattle.std.specs.Prelude.{◌==◌}
use Rattle.std.proofs.lemmas.List.Sorted.{list_any-IsPermutation}
use Rattle.rule_ids.proofs.off_ids.OffIds.has.Goals as goal

pub returns : goal.returns
returns c =
    let same = list_any-IsPermutation (λ (other : ℕ). c.args.id == other) c.self.inside.ids.items c.self.inside.rising.items c.self.invariant.same in
    cc (c.is_among.ensures, c.as_slice.ensures.value, c.self.view_is)

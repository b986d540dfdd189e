use Rattle.std.proofs.Common.{◌≡◌, ◌<◌, ◌+◌, ◌++◌, ◌∷◌, [], take, length, sym, ap, ◌∙◌, arith}
use Rattle.std.proofs.lemmas.Grind.{common_steps, take_at_read}
use Rattle.suffix_list.proofs.list.SuffixList.build.Goals as goal

pub loop-place-preserved : goal.loop-place-preserved
loop-place-preserved c =
    let within : c.loop-place.place < length c.deref-rule-items.result.now = omega arith in
    let more : take (c.loop-place.place + 1) c.deref-rule-items.result.now ≡ take c.loop-place.place c.deref-rule-items.result.now ++ c.rule-item.result ∷ [] = (take_at_read c.deref-rule-items.result.now c.loop-place.place c.rule-item.result within).1 ∙ ap (λ r. take c.loop-place.place c.deref-rule-items.result.now ++ r ∷ []) (sym c.rule-item.is) in
    let len : c.loop-place.place ≡ length (take c.loop-place.place c.deref-rule-items.result.now) = grind (arith, common_steps, within) in
    rw more (c.in_ok-add.ensures (take c.loop-place.place c.deref-rule-items.result.now) len c.loop-place.invariant)

use Rattle.std.proofs.Common.{◌∙◌, ◌++◌, ◌∷◌, [], ap, sym}
use Rattle.domain_set.proofs.Found.{one_more}
use Rattle.domain_set.proofs.table.places_of.Goals as goal

pub loop-place-preserved : goal.loop-place-preserved
loop-place-preserved c =
    c.in_ok-push.ensures.items ∙ ap (λ list. list ++ c.loop-place.place ∷ []) c.loop-place.invariant ∙ sym (one_more c.loop-place.place)

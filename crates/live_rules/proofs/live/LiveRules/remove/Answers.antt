use Rattle.std.proofs.Common.{◌∷◌, [], ℕ, List, Option, unwrap_or, ◌∙◌, ap}
use Rattle.rule_spec.specs.Rule.{Rule}
use Rattle.update_spec.specs.Update.{without_ids}
use Rattle.rule_ids.specs.Counted.{counts_of}
use Rattle.live_rules.specs.Slots.{there, gone}
use Rattle.live_rules.proofs.Found.{removed_is, removed_live, written_back}
use Rattle.live_rules.proofs.live.LiveRules.remove.Goals as goal

pub invariant_of-self : goal.invariant_of-self
invariant_of-self c =
    let slots = c.self.inside.slots.items in
    let place_is = c.unwrap_or-place.ensures ∙ ap (λ (o : Option ℕ). unwrap_or o 0) c.remove.ensures.value in
    let left_is = written_back c.args.id c.unwrap_or-place.result c.self.inside.slots.len slots c.deref_mut.result.now c.clear-gone.new.slots c.deref_mut.ensures.value
    c.deref_mut.ensures.len c.clear-gone.ensures.slots in
    let gone_is = c.clear-gone.ensures.counts ∙ ap (λ (l : List (Option Rule)). counts_of (gone c.args.id c.unwrap_or-place.result l)) c.deref_mut.ensures.value in
    removed_live slots c.self.inside.places c.self.inside.counts c.self.invariant c.args.id c.unwrap_or-place.result place_is _ c.remove.new.self c.clear-gone.result
    c.without-self-inside.result left_is c.remove.ensures.updates gone_is c.without-self-inside.ensures

pub returns : goal.returns
returns c =
    let slots = c.self.inside.slots.items in
    let place_is = c.unwrap_or-place.ensures ∙ ap (λ (o : Option ℕ). unwrap_or o 0) c.remove.ensures.value in
    ap there (written_back c.args.id c.unwrap_or-place.result c.self.inside.slots.len slots c.deref_mut.result.now c.clear-gone.new.slots c.deref_mut.ensures.value
    c.deref_mut.ensures.len c.clear-gone.ensures.slots)
    ∙ removed_is slots c.self.inside.places c.self.inside.counts c.self.invariant c.args.id c.unwrap_or-place.result place_is
    ∙ ap (without_ids (c.args.id ∷ [])) c.self.view_is

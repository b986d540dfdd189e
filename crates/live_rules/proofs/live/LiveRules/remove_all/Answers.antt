use Rattle.std.proofs.Common.{◌∷◌, [], ℕ, List, take, sym, ◌∙◌, ap}
use Rattle.std.specs.Prelude.{slice_index_or}
use Rattle.std.proofs.lemmas.List.{take_more}
use Rattle.update_spec.specs.Update.{without_ids}
use Rattle.live_rules.proofs.Slots.{without_push, without_none}
use Rattle.live_rules.proofs.live.LiveRules.remove_all.Goals as goal

pub loop-id-init : goal.loop-id-init
loop-id-init c = sym (without_none c.args.self.now)

pub loop-id-preserved : goal.loop-id-preserved
loop-id-preserved c =
    let ids = c.args.ids.now in
    let at = c.loop-id.id-index in
    let id = slice_index_or ids at 0 in
    c.remove.ensures
    ∙ ap (without_ids (id ∷ [])) c.loop-id.invariant
    ∙ sym (without_push (take at ids) id c.args.self.now)
    ∙ ap (λ (l : List ℕ). without_ids l c.args.self.now) (sym (take_more ids at 0 c.loop-id-test.true))

use Rattle.std.proofs.Common.{◌≡◌, ℕ, ◌+◌, List, [], ◌∷◌, ◌++◌, Bool, true, false, cond, get_or, take, sym, ap, ◌∙◌, append-nil, Vec, Global}
use Rattle.std.specs.Prelude.{filter}
use Rattle.std.proofs.lemmas.Grind.{take_at_read}
use Rattle.std.proofs.lemmas.List.Elements.{filter_more}
use Rattle.rule_spec.specs.Rule.{Rule}
use Rattle.update_spec.specs.Judge.{has_id}
use Rattle.update_spec.specs.Update.{without_ids}
use Rattle.rule_ids.specs.Counted.{counts_of, less}
use Rattle.rule_ids.specs.declared.counts.Counts.{Counts}
use Rattle.rule_segments.specs.Segments.{Segment, live_in, of_id}
use Rattle.rule_segments.proofs.Removed.{counts_less, live_apart, none_removed, nothing_less}
use Rattle.rule_segments.proofs.segment.Segment.removal.Goals as goal
use Rattle.rule_segments.proofs.segment.Segment.removal.Goals.{then-has_live+in_ok-push, else-has_live}

pub loop-id-init : goal.loop-id-init
loop-id-init c = record {
  ids = c.new-gone.ensures.items;
  counts = c.self.invariant ∙ ap (λ (s : Segment). counts_of (live_in s)) c.self.view_is ∙ ap counts_of (sym (none_removed (live_in c.args.self.now)));
}

pub loop-id-preserved : goal.loop-id-preserved
loop-id-preserved c =
    let live : List Rule = live_in c.args.self.now in
    let done : List ℕ = take c.loop-id.id-index c.args.remove.now in
    let x : ℕ = get_or c.args.remove.now c.loop-id.id-index 0 in
    let more : take (c.loop-id.id-index + 1) c.args.remove.now ≡ done ++ x ∷ [] = (take_at_read c.args.remove.now c.loop-id.id-index 0 c.loop-id-test.true).1 in
    let kept : filter (has_id live) (take (c.loop-id.id-index + 1) c.args.remove.now) ≡ filter (has_id live) done ++ cond (has_id live x) (x ∷ []) [] =
    filter_more (has_id live) c.args.remove.now c.loop-id.id-index 0 c.loop-id-test.true in
    elim c.if-has_live.branch [
      | then-has_live+in_ok-push w ↦ (
          let is : has_id live x ≡ true = sym c.has_live.ensures ∙ w.if-has_live.true in
          record {
            ids = ap (λ (gone : Vec ℕ Global). gone.items) w.gone-is ∙ w.in_ok-push.ensures.items ∙ ap (λ (ids : List ℕ). ids ++ x ∷ []) c.loop-id.invariant.ids
                ∙ ap (λ (b : Bool). filter (has_id live) done ++ cond b (x ∷ []) []) (sym is) ∙ sym kept;
            counts = w.counts-is ∙ w.without-counts.ensures
                ∙ ap (λ (n : Counts). less n w.counts_of_id.result) c.loop-id.invariant.counts
                ∙ ap (less (counts_of (without_ids done live))) (w.counts_of_id.ensures ∙ ap (λ (rules : List Rule). counts_of (of_id x rules)) w.known.ensures)
                ∙ counts_less c.args.self.now.removed done x c.args.self.now.rules (live_apart c.args.self.now.removed c.args.self.now.rules x is) (c.requires c.loop-id.id-index c.loop-id-test.true)
                ∙ ap (λ (ids : List ℕ). counts_of (without_ids ids live)) (sym more);
          })
      | else-has_live w ↦ (
          let is : has_id live x ≡ false = sym c.has_live.ensures ∙ w.if-has_live.false in
          record {
            ids = ap (λ (gone : Vec ℕ Global). gone.items) w.gone-is ∙ c.loop-id.invariant.ids ∙ sym (append-nil (filter (has_id live) done))
                ∙ ap (λ (b : Bool). filter (has_id live) done ++ cond b (x ∷ []) []) (sym is) ∙ sym kept;
            counts = w.counts-is ∙ c.loop-id.invariant.counts ∙ ap counts_of (sym (nothing_less done x live is)) ∙ ap (λ (ids : List ℕ). counts_of (without_ids ids live)) (sym more);
          })
    ]

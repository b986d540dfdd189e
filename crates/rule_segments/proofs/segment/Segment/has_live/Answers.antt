use Rattle.std.proofs.Common.{ℕ, List, Bool, ◌≡◌, not, ◌&&◌, true, false, sym, ap, ◌∙◌}
use Rattle.rule_spec.specs.Rule.{Rule}
use Rattle.rule_spec.specs.State.{has_number}
use Rattle.update_spec.specs.Judge.{has_id}
use Rattle.rule_segments.specs.Segments.{Segment}
use Rattle.rule_segments.proofs.Removed.{has_live}
use Rattle.rule_segments.proofs.segment.Segment.has_live.Goals as goal

pub returns-then-not-has : goal.returns-then-not-has
returns-then-not-has c =
    let off : has_number c.args.self.now.removed c.args.id ≡ false =
    sym (c.has.ensures ∙ ap (λ (ids : List ℕ). has_number ids c.args.id) c.deref.ensures ∙ ap (λ (s : Segment). has_number s.removed c.args.id) c.self.view_is) ∙ c.if-not-has.true in
    c.has_id.ensures ∙ ap (λ (rules : List Rule). has_id rules c.args.id) c.known.ensures
    ∙ ap (λ (b : Bool). not b && has_id c.args.self.now.rules c.args.id) (sym off)
    ∙ has_live c.args.self.now.removed c.args.self.now.rules c.args.id

pub returns-else-not-has : goal.returns-else-not-has
returns-else-not-has c =
    let off : has_number c.args.self.now.removed c.args.id ≡ true =
    sym (c.has.ensures ∙ ap (λ (ids : List ℕ). has_number ids c.args.id) c.deref.ensures ∙ ap (λ (s : Segment). has_number s.removed c.args.id) c.self.view_is) ∙ c.if-not-has.false in
    ap (λ (b : Bool). not b) c.if-not-has.false
    ∙ ap (λ (b : Bool). not b && has_id c.args.self.now.rules c.args.id) (sym off)
    ∙ has_live c.args.self.now.removed c.args.self.now.rules c.args.id

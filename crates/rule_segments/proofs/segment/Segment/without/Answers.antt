use Rattle.std.proofs.Common.{◌≡◌, ℕ, List, [], ◌++◌, length, sym, ap, ◌∙◌}
use Rattle.std.specs.Prelude.{filter}
use Rattle.std.specs.Arc.{arc_value}
use Rattle.std.proofs.lemmas.Bool.{eqb-true}
use Rattle.std.proofs.lemmas.Result.{IfOk-weaker}
use Rattle.update_spec.specs.Judge.{has_id}
use Rattle.rule_ids.specs.Counted.{counts_of}
use Rattle.rule_segments.specs.Segments.{Segment, live_in}
use Rattle.rule_segments.proofs.Removed.{next_live, none_gone}
use Rattle.rule_segments.proofs.Tapered.{nil_of}
use Rattle.rule_segments.proofs.segment.Segment.without.Goals as goal

pub returns-then-is_empty : goal.returns-then-is_empty
returns-then-is_empty c =
    let now : Segment = c.args.self.now in
    let empty : length c.as_slice-gone.result.now ≡ 0 = eqb-true (length c.as_slice-gone.result.now) 0 (sym c.is_empty.ensures ∙ c.if-is_empty.true) in
    let none : filter (has_id (live_in now)) c.args.remove.now ≡ [] =
    sym (c.as_slice-gone.ensures.value ∙ c.in_ok-gone.ensures.ids) ∙ nil_of c.as_slice-gone.result.now empty in
    IfOk-weaker c.again.result (λ (again : Segment). again ≡ now) _ (λ again same. ap live_in same ∙ none_gone now.removed c.args.remove.now now.rules none) c.again.ensures

pub invariant_of-result : goal.invariant_of-result
invariant_of-result c =
    let now : Segment = c.args.self.now in
    let removed : arc_value c.in_ok-new.field-0 ≡ now.removed ++ filter (has_id (live_in now)) c.args.remove.now =
    c.in_ok-new.ensures.ok ∙ c.in_ok-removed.ensures
    ∙ ap (λ (ids : List ℕ). ids ++ c.as_slice-gone.result.now) (c.deref.ensures ∙ ap (λ (s : Segment). s.removed) c.self.view_is)
    ∙ ap (λ (ids : List ℕ). now.removed ++ ids) (c.as_slice-gone.ensures.value ∙ c.in_ok-gone.ensures.ids) in
    let rules : c.in_ok-again.field-0 ≡ now.rules = c.in_ok-again.ensures ∙ ap (λ (s : Segment). s.rules) c.self.view_is in
    c.in_ok-gone.ensures.counts
    ∙ ap counts_of (sym (next_live now.removed c.args.remove.now (arc_value c.in_ok-new.field-0) now.rules c.in_ok-again.field-0 removed rules))

pub returns : goal.returns
returns c =
    let now : Segment = c.args.self.now in
    let removed : arc_value c.in_ok-new.field-0 ≡ now.removed ++ filter (has_id (live_in now)) c.args.remove.now =
    c.in_ok-new.ensures.ok ∙ c.in_ok-removed.ensures
    ∙ ap (λ (ids : List ℕ). ids ++ c.as_slice-gone.result.now) (c.deref.ensures ∙ ap (λ (s : Segment). s.removed) c.self.view_is)
    ∙ ap (λ (ids : List ℕ). now.removed ++ ids) (c.as_slice-gone.ensures.value ∙ c.in_ok-gone.ensures.ids) in
    let rules : c.in_ok-again.field-0 ≡ now.rules = c.in_ok-again.ensures ∙ ap (λ (s : Segment). s.rules) c.self.view_is in
    next_live now.removed c.args.remove.now (arc_value c.in_ok-new.field-0) now.rules c.in_ok-again.field-0 removed rules

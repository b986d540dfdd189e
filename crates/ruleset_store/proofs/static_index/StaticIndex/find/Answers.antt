use Rattle.std.proofs.Common.{◌≡◌, length, arith, sym, ap, ◌∙◌}
use Rattle.ruleset_store.specs.StaticIndex.{StaticIndex, rules_among, starts_from}
use Rattle.ruleset_store.proofs.Lists.{begun_is, past_all, some_begun}
use Rattle.ruleset_store.proofs.static_index.StaticIndex.find.Goals as goal

pub returns-then-place-self : goal.returns-then-place-self
returns-then-place-self c lists is =
    let count : c.self.inside.count ≡ length (rules_among lists) = ap (λ (s : StaticIndex). s.count) c.self.view_is ∙ is.count in
    sym (past_all 0 lists c.args.place (omega (arith, count, c.if-place-self.true)))

pub returns-then-count-eq0 : goal.returns-then-count-eq0
returns-then-count-eq0 c lists is =
    let count : c.self.inside.count ≡ length (rules_among lists) = ap (λ (s : StaticIndex). s.count) c.self.view_is ∙ is.count in
    let starts : c.as_slice-starts.result.now ≡ starts_from 0 lists =
    c.as_slice-starts.ensures.value ∙ ap (λ (s : StaticIndex). s.starts) c.self.view_is ∙ is.starts in
    absurd (some_begun lists c.args.place c.as_slice-starts.result.now starts
    (λ k order there. c.begun-count.ensures.behind k (omega (arith, c.if-count-eq0.true)) there)
    (omega (arith, count, c.if-place-self.false)))

pub returns : goal.returns
returns c lists is =
    let count : c.self.inside.count ≡ length (rules_among lists) = ap (λ (s : StaticIndex). s.count) c.self.view_is ∙ is.count in
    let starts : c.as_slice-starts.result.now ≡ starts_from 0 lists =
    c.as_slice-starts.ensures.value ∙ ap (λ (s : StaticIndex). s.starts) c.self.view_is ∙ is.starts in
    begun_is lists c.args.place c.begun-count.result c.as_slice-starts.result.now starts (omega (arith, c.if-count-eq0.false))
    c.begun-count.ensures.within c.begun-count.ensures.below c.begun-count.ensures.behind
    (omega (arith, count, c.if-place-self.false))

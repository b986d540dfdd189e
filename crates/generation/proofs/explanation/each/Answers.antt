use Rattle.std.proofs.Common.{◌++◌, [], ◌∷◌, map, ap, ◌∙◌, arith, refl}
use Rattle.generation.specs.Explained.{why_in}
use Rattle.generation.proofs.Rest.{rest_end, rest_step}
use Rattle.generation.proofs.explanation.each.Goals as goal

pub loop-kept-preserved : goal.loop-kept-preserved
loop-kept-preserved c =
    rest_step (map why_in) (λ k. why_in k ∷ []) (λ x xs. refl) c.args.kepts.now c.loop-kept.kept-index c.kept-item.result (map why_in c.args.kepts.now)
    c.loop-kept.list.items c.push.new.self.items (omega arith) c.kept-item.is c.loop-kept.invariant
    (c.in_ok-push.ensures.items ∙ ap (λ k. c.loop-kept.list.items ++ k ∷ []) c.in_ok-why.ensures)

pub returns : goal.returns
returns c = rest_end (map why_in) refl c.args.kepts.now c.loop-kept.kept-index (map why_in c.args.kepts.now) c.loop-kept.list.items c.loop-kept-test.false c.loop-kept.invariant

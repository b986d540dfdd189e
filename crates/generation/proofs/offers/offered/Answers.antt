use Rattle.std.proofs.Common.{◌++◌, [], ◌∷◌, map, ap, ◌∙◌, arith, refl}
use Rattle.rule_spec.specs.Scan.{offered}
use Rattle.generation.proofs.Rest.{rest_end, rest_step}
use Rattle.generation.proofs.offers.offered.Goals as goal

pub loop-offer-preserved : goal.loop-offer-preserved
loop-offer-preserved c =
    rest_step (map offered) (λ o. offered o ∷ []) (λ x xs. refl) c.args.offers.now c.loop-offer.offer-index c.offer-item.result (map offered c.args.offers.now)
    c.loop-offer.list.items c.push.new.self.items (omega arith) c.offer-item.is c.loop-offer.invariant
    (c.in_ok-push.ensures.items ∙ ap (λ o. c.loop-offer.list.items ++ o ∷ []) c.in_ok-offered.ensures)

pub returns : goal.returns
returns c = rest_end (map offered) refl c.args.offers.now c.loop-offer.offer-index (map offered c.args.offers.now) c.loop-offer.list.items c.loop-offer-test.false c.loop-offer.invariant

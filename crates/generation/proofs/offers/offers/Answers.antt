use Rattle.std.proofs.Common.{◌-◌, length, refl}
use Rattle.generation.proofs.Rest.{offers_end, offers_step}
use Rattle.generation.proofs.offers.offers.Goals as goal

pub loop-back-preserved : goal.loop-back-preserved
loop-back-preserved c =
    let kepts = c.args.kepts.now in
    offers_step kepts (length kepts) c.loop-back.back (length kepts - 1 - c.loop-back.back) c.index-kepts-kepts.result c.loop-back.offers.items
    c.in_ok-offers.offers.items refl c.loop-back-test.true refl c.index-kepts-kepts.is c.loop-back.invariant c.in_ok-offers.ensures

pub returns : goal.returns
returns c = offers_end c.args.kepts.now (length c.args.kepts.now) c.loop-back.back c.loop-back.offers.items c.loop-back-test.false c.loop-back.invariant

use Rattle.std.proofs.Common.{◌++◌, [], ◌∷◌, List, arith, refl}
use Rattle.dnr_base.specs.declared.rule_name.RuleName.{RuleName}
use Rattle.dnr_spec.specs.Headers.{HeaderOp}
use Rattle.rule_spec.specs.Scan.{Offer, offers_by}
use Rattle.generation.proofs.Rest.{rest_end, rest_step}
use Rattle.generation.proofs.offers.add_ops.Goals as goal

pub loop-op-preserved : goal.loop-op-preserved
loop-op-preserved c =
    let rule : RuleName = record { ext = c.args.extension.now; set = c.args.set.now; id = c.args.id } in
    let piece : HeaderOp → List Offer = λ op. record { age = c.args.age; direction = c.args.direction; op = op; rule = rule } ∷ [] in
    rest_step (offers_by c.args.age rule c.args.direction) piece (λ op ops. refl) c.args.ops.now c.loop-op.op-index c.op-item.result
    (c.args.offers.items ++ offers_by c.args.age rule c.args.direction c.args.ops.now) c.loop-op.offers.items c.push.new.self.items (omega arith) c.op-item.is
    c.loop-op.invariant c.in_ok-push.ensures.items

pub returns : goal.returns
returns c =
    let rule : RuleName = record { ext = c.args.extension.now; set = c.args.set.now; id = c.args.id } in
    rest_end (offers_by c.args.age rule c.args.direction) refl c.args.ops.now c.loop-op.op-index
    (c.args.offers.items ++ offers_by c.args.age rule c.args.direction c.args.ops.now) c.loop-op.offers.items c.loop-op-test.false c.loop-op.invariant

use Rattle.std.proofs.Common.{filter, map, List, arith, refl}
use Rattle.dnr_spec.specs.Headers.{HeaderOp}
use Rattle.rule_spec.specs.Scan.{NamedOp, is_on}
use Rattle.generation.specs.Choice.{op_on}
use Rattle.generation.proofs.Rest.{rest_end, rest_step}
use Rattle.generation.proofs.Taken.{op_each}
use Rattle.generation.proofs.operations.ops_on.Goals as goal

pub loop-op-preserved : goal.loop-op-preserved
loop-op-preserved c =
    let whole : List NamedOp → List HeaderOp = λ ops. map (λ o. o.op) (filter (is_on c.args.direction) ops) in
    rest_step whole (op_on c.args.direction) (op_each c.args.direction) c.args.ops.now c.loop-op.op-index c.op-item.result (whole c.args.ops.now) c.loop-op.list.items
    c.in_ok-list.list.items (omega arith) c.op-item.is c.loop-op.invariant c.in_ok-list.ensures

pub returns : goal.returns
returns c =
    let whole : List NamedOp → List HeaderOp = λ ops. map (λ o. o.op) (filter (is_on c.args.direction) ops) in
    rest_end whole refl c.args.ops.now c.loop-op.op-index (whole c.args.ops.now) c.loop-op.list.items c.loop-op-test.false c.loop-op.invariant

use Rattle.std.proofs.Common.{◌≡◌, ◌++◌, drop}
use Rattle.rule_spec.specs.Scan.{offers_by}
use Rattle.generation.proofs.offers.add_ops.Given as goal

abbrev pub invariant-loop-op : goal.invariant-loop-op
invariant-loop-op l =
    l.fn.offers.items ++ offers_by l.age (record { ext = l.extension; set = l.set; id = l.id }) l.direction l.ops
    ≡ l.offers.items ++ offers_by l.age (record { ext = l.extension; set = l.set; id = l.id }) l.direction (drop l.op-index l.ops)

use Rattle.std.proofs.Common.{◌≡◌, ◌++◌, drop, filter, map}
use Rattle.rule_spec.specs.Scan.{is_on}
use Rattle.generation.proofs.operations.ops_on.Given as goal

abbrev pub invariant-loop-op : goal.invariant-loop-op
invariant-loop-op l = map (λ op. op.op) (filter (is_on l.direction) l.ops) ≡ l.list.items ++ map (λ op. op.op) (filter (is_on l.direction) (drop l.op-index l.ops))

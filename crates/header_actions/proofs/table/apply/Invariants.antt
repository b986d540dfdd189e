use Rattle.std.proofs.Common.{take, fold}
use Rattle.dnr_spec.specs.Headers.{changed}
use Rattle.header_actions.specs.Table.{HasValues}
use Rattle.header_actions.proofs.table.apply.Given as goal

abbrev pub invariant-loop-op : goal.invariant-loop-op
invariant-loop-op l = HasValues l.table (fold changed l.headers (take l.op-index l.ops))

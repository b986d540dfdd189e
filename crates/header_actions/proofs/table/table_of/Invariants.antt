use Rattle.std.proofs.Common.{take}
use Rattle.header_actions.specs.Table.{HasValues}
use Rattle.header_actions.proofs.table.table_of.Given as goal

abbrev pub invariant-loop-header : goal.invariant-loop-header
invariant-loop-header l = HasValues l.table (take l.header-index l.headers)

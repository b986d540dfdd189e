use Rattle.std.proofs.Common.{◌≡◌, ◌++◌}
use Rattle.header_actions.specs.Table.{listed}
use Rattle.header_actions.proofs.table.headers_in.Given as goal

abbrev pub invariant-loop-name : goal.invariant-loop-name
invariant-loop-name l = record {
  can : (goal.iterator-loop-name).can_next l.name-iterator;
  ends : (goal.iterator-loop-name).is_finite l.name-iterator;
  same : listed l.table.entries ≡ l.headers.items ++ listed l.name-iterator;
}

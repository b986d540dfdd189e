use Rattle.std.proofs.Common.{◌≡◌, ◌++◌, map, take}
use Rattle.header_actions.specs.Table.{headers_of}
use Rattle.header_actions.proofs.table.push_headers.Given as goal

abbrev pub invariant-loop-value : goal.invariant-loop-value
invariant-loop-value l = l.headers.items ≡ l.initial.headers.items ++ headers_of l.name (map (λ v. v.now) (take l.value-index l.values))

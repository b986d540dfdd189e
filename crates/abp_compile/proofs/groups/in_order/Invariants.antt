use Rattle.std.proofs.Common.{◌≡◌, ◌++◌, map, length, string_bytes}
use Rattle.compile_spec.specs.Alike.{ascending}
use Rattle.abp_compile.proofs.groups.in_order.Given as goal

abbrev pub invariant-loop-domain : goal.invariant-loop-domain
invariant-loop-domain l = l.ordered.items ++ map string_bytes l.set.keys ≡ ascending (map string_bytes l.fn.domains.items)

abbrev pub decreases-loop-domain : goal.decreases-loop-domain
decreases-loop-domain l = length l.set.keys

use Rattle.std.proofs.Common.{◌≡◌, ◌++◌, map, length, string_bytes}
use Rattle.abp_compile.proofs.alike.push_all.Given as goal

abbrev pub invariant-loop-text : goal.invariant-loop-text
invariant-loop-text l = map string_bytes l.list.items ++ map string_bytes l.set.keys ≡ map string_bytes l.fn.list.items ++ map string_bytes l.fn.set.keys

abbrev pub decreases-loop-text : goal.decreases-loop-text
decreases-loop-text l = length l.set.keys

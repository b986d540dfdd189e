use Rattle.std.proofs.Common.{◌≡◌, nat_cmp, map, fold, reverse, length, string_bytes}
use Rattle.std.specs.BTreeSet.{insert_key}
use Rattle.std.specs.Cmp.Lexicographic.{slice_cmp}
use Rattle.compile_spec.specs.Alike.{ascending}
use Rattle.abp_compile.proofs.groups.set_of.Given as goal

abbrev pub invariant-loop-domain : goal.invariant-loop-domain
invariant-loop-domain l = fold (insert_key (slice_cmp nat_cmp)) (map string_bytes l.set.keys) (map string_bytes (reverse l.domains.items)) ≡ ascending (map string_bytes l.fn.domains.items)

abbrev pub decreases-loop-domain : goal.decreases-loop-domain
decreases-loop-domain l = length l.domains.items

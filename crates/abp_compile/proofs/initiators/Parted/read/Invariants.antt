use Rattle.std.proofs.Common.{◌≡◌, take}
use Rattle.compile_spec.specs.Initiators.{nested, not_nested}
use Rattle.abp_compile.proofs.initiators.Parted.read.Given as goal

abbrev pub invariant-loop-domain : goal.invariant-loop-domain
invariant-loop-domain l = record {
  others : l.others.items ≡ not_nested l.excluded.list.items (take l.domain-index l.domain-items);
  nested : l.nested.items ≡ nested l.excluded.list.items (take l.domain-index l.domain-items);
}

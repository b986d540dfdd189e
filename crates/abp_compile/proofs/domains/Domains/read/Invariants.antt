use Rattle.std.proofs.Common.{◌≡◌, [], take, fold}
use Rattle.abp_compile.specs.Domains.{with_entry, HasTexts}
use Rattle.abp_compile.proofs.domains.Domains.read.Given as goal

abbrev pub invariant-loop-entry : goal.invariant-loop-entry
invariant-loop-entry l = record {
  list : l.list.items ≡ fold (with_entry l.excluded) [] (take l.entry-index l.entries);
  table : HasTexts l.table l.list.items;
}

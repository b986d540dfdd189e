use Rattle.std.proofs.Common.{take}
use Rattle.suffix_list.specs.Kept.{AreTablesOf}
use Rattle.suffix_list.proofs.list.SuffixList.build.Given as goal

abbrev pub invariant-loop-place : goal.invariant-loop-place
invariant-loop-place l = AreTablesOf (take l.place l.rule-items) l.tables

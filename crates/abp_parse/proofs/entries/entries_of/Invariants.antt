use Rattle.std.proofs.Common.{◌≡◌, ◌++◌, length}
use Rattle.std.specs.Str.{IsAscii}
use Rattle.list_spec.specs.Entries.{entries_of}
use Rattle.abp_parse.proofs.entries.entries_of.Given as goal

abbrev pub invariant-loop-entries : goal.invariant-loop-entries
invariant-loop-entries l = record {
  ascii : IsAscii l.rest;
  read : entries_of l.value ≡ l.entries.items ++ entries_of l.rest;
}

abbrev pub decreases-loop-entries : goal.decreases-loop-entries
decreases-loop-entries l = length l.rest

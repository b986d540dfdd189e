use Rattle.std.proofs.Common.{◌≡◌, map, take, string_bytes}
use Rattle.compile_spec.specs.Alike.{set_of_entries}
use Rattle.abp_compile.proofs.alike.entry_set.Given as goal

abbrev pub invariant-loop-entry : goal.invariant-loop-entry
invariant-loop-entry l = map string_bytes l.set.keys ≡ set_of_entries (take l.entry-index l.entries)

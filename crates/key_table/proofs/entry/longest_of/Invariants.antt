use Rattle.std.proofs.Common.{◌<◌, ◌≤◌, ℕ, slice_index_or}
use Rattle.key_table.specs.declared.entry.Entry.{Entry}
use Rattle.key_table.proofs.entry.longest_of.Given as goal

abbrev pub invariant-loop-entry : goal.invariant-loop-entry
invariant-loop-entry l = (k : ℕ) (entry : Entry) → k < l.entry-index → (slice_index_or l.entries k entry).len ≤ l.longest

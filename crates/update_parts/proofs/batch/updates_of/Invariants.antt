use Rattle.std.proofs.Common.{◌≡◌, length, ℕ, ◌≤◌}
use Rattle.json.specs.Json.{value, members}
use Rattle.serde_json.specs.Data.{Members, no_members, object}
use Rattle.serde_json.specs.Read.{of_members, converted}
use Rattle.update_parts.specs.Batch.{items_kept, HoldsBatch}
use Rattle.update_parts.proofs.batch.updates_of.Given as goal

abbrev pub invariant-members : goal.invariant-members
invariant-members l = record {
  left : ℕ;
  found : Members;
  enough : length l.reader ≤ left;
  same : converted (λ ms. of_members ms no_members) (members (value l.depth) (length l.initial.reader) l.initial.reader) ≡ converted (λ ms. of_members ms found) (members (value l.depth) left l.reader);
  holds : HoldsBatch (items_kept l.kept) (object found);
  shorter : length l.reader ≤ length l.initial.reader;
}

abbrev pub decreases-members : goal.decreases-members
decreases-members l = length l.reader

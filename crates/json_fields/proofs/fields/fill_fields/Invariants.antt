use Rattle.std.proofs.Common.{◌≡◌, length, map, ℕ, ◌≤◌}
use Rattle.json.specs.Json.{value, members}
use Rattle.serde_json.specs.Data.{Members, no_members}
use Rattle.serde_json.specs.Read.{of_members, converted}
use Rattle.json_fields.specs.Fields.{Holds, key_of}
use Rattle.json_fields.proofs.fields.fill_fields.Given as goal

abbrev pub invariant-members : goal.invariant-members
invariant-members l = record {
  left : ℕ;
  found : Members;
  enough : length l.reader ≤ left;
  same : converted (λ ms. of_members ms no_members) (members (value l.depth) (length l.initial.reader) l.initial.reader) ≡ converted (λ ms. of_members ms found) (members (value l.depth) left l.reader);
  holds : Holds l.fields found;
  shorter : length l.reader ≤ length l.initial.reader;
  keys : map key_of l.fields ≡ map key_of l.initial.fields;
}

abbrev pub decreases-members : goal.decreases-members
decreases-members l = length l.reader

use Rattle.std.proofs.Common.{◌≡◌, ℕ, ◌≤◌, List, length}
use Rattle.json.specs.Json.{items, value, parse_map}
use Rattle.serde_json.specs.Data.{Data}
use Rattle.serde_json.specs.Read.{of_items, converted}
use Rattle.json_fields.proofs.Shaped.{data_before}
use Rattle.update_parts.proofs.BatchKept.{AllKept}
use Rattle.update_parts.proofs.batch.few_updates.Given as goal

abbrev pub invariant-items : goal.invariant-items
invariant-items l = record {
  left : ℕ;
  before : List Data;
  enough : length l.reader ≤ left;
  same : converted of_items (items (value l.depth) (length l.initial.reader) l.initial.reader) ≡ parse_map (data_before before) (converted of_items (items (value l.depth) left l.reader));
  all : AllKept l.depth before l.kept.items;
  few : length l.kept.items ≤ 256;
  shorter : length l.reader ≤ length l.initial.reader;
}

abbrev pub decreases-items : goal.decreases-items
decreases-items l = length l.reader

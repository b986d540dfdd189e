use Rattle.std.proofs.Common.{◌≡◌, ℕ, ◌+◌, ◌*◌, ◌≤◌, List, length}
use Rattle.json.specs.Json.{items, members, value, parse_map}
use Rattle.serde_json.specs.Data.{Data, Members, no_members}
use Rattle.serde_json.specs.Read.{of_items, of_members, converted}
use Rattle.serde_json.specs.View.{members_view}
use Rattle.json_fields.specs.Shapes.{Kept, KeptMembers}
use Rattle.json_fields.proofs.Shaped.{data_before, AllKept, EachIs}
use Rattle.json_fields.proofs.shape.+shape.Given as goal

abbrev pub decreases-next_shaped : goal.decreases-next_shaped
decreases-next_shaped g l = 4 * l.depth

abbrev pub decreases-list_kept : goal.decreases-list_kept
decreases-list_kept g l = 4 * l.depth + 2

abbrev pub decreases-items_kept : goal.decreases-items_kept
decreases-items_kept g l = 4 * l.depth + 1

abbrev pub decreases-few_kept : goal.decreases-few_kept
decreases-few_kept g l = 4 * l.depth + 1

abbrev pub decreases-object_kept : goal.decreases-object_kept
decreases-object_kept g l = 4 * l.depth + 3

abbrev pub decreases-members_kept : goal.decreases-members_kept
decreases-members_kept g l = 4 * l.depth + 2

abbrev pub decreases-keep_member : goal.decreases-keep_member
decreases-keep_member g l = 4 * l.depth + 1

abbrev pub invariant-items_kept-items : goal.invariant-items_kept-items
invariant-items_kept-items g l = record {
  left : ℕ;
  before : List Data;
  enough : length l.reader ≤ left;
  same : converted of_items (items (value l.depth) (length l.initial.reader) l.initial.reader) ≡ parse_map (data_before before) (converted of_items (items (value l.depth) left l.reader));
  all : AllKept (Kept g.S.Shape.wants g.S.Shape.item_shape g.S.Shape.member_shape g.S.Shape.accepts l.depth l.shape) before l.found.items;
  shorter : length l.reader ≤ length l.initial.reader;
}

abbrev pub decreases-items_kept-items : goal.decreases-items_kept-items
decreases-items_kept-items g l = length l.reader

abbrev pub invariant-few_kept-items : goal.invariant-few_kept-items
invariant-few_kept-items g l = record {
  left : ℕ;
  before : List Data;
  enough : length l.reader ≤ left;
  same : converted of_items (items (value l.depth) (length l.initial.reader) l.initial.reader) ≡ parse_map (data_before before) (converted of_items (items (value l.depth) left l.reader));
  all : EachIs (Kept g.S.Shape.wants g.S.Shape.item_shape g.S.Shape.member_shape g.S.Shape.accepts l.depth l.shape) before l.found.items;
  few : length l.found.items ≤ l.most;
  shorter : length l.reader ≤ length l.initial.reader;
}

abbrev pub decreases-few_kept-items : goal.decreases-few_kept-items
decreases-few_kept-items g l = length l.reader

abbrev pub invariant-members_kept-members : goal.invariant-members_kept-members
invariant-members_kept-members g l = record {
  left : ℕ;
  found : Members;
  enough : length l.reader ≤ left;
  same : converted (λ ms. of_members ms no_members) (members (value l.depth) (length l.initial.reader) l.initial.reader) ≡ converted (λ ms. of_members ms found) (members (value l.depth) left l.reader);
  holds : KeptMembers (Kept g.S.Shape.wants g.S.Shape.item_shape g.S.Shape.member_shape g.S.Shape.accepts l.depth) (g.S.Shape.member_shape l.shape) found (members_view l.kept.entries);
  shorter : length l.reader ≤ length l.initial.reader;
}

abbrev pub decreases-members_kept-members : goal.decreases-members_kept-members
decreases-members_kept-members g l = length l.reader

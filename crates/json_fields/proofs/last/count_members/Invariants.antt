use Rattle.std.proofs.Common.{◌≡◌, ◌+◌, length, ℕ, ◌≤◌}
use Rattle.json.specs.Json as json
use Rattle.json.specs.Json.{value, members, parse_map}
use Rattle.serde_json.specs.Data.{Members}
use Rattle.json_fields.specs.Last.{members_in, members_at, times}
use Rattle.json_fields.proofs.last.count_members.Given as goal

abbrev pub invariant-members : goal.invariant-members
invariant-members l = record {
  left : ℕ;
  front : json.Members → json.Members;
  found : Members;
  enough : length l.reader ≤ left;
  same : members (value l.depth) (length l.initial.reader) l.initial.reader ≡ parse_map front (members (value l.depth) left l.reader);
  conv : members_in l.depth l.initial.reader ≡ members_at l.depth found left l.reader;
  counted : (js : json.Members) → times l.name (front js) ≡ l.count + times l.name js;
}

abbrev pub decreases-members : goal.decreases-members
decreases-members l = length l.reader

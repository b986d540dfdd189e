use Rattle.std.proofs.Common.{◌≡◌, ◌<◌, length, List, Some, ℕ, ◌≤◌}
use Rattle.json.specs.Token.{Token}
use Rattle.json.specs.Json as json
use Rattle.json.specs.Json.{value, members}
use Rattle.serde_json.specs.Data.{Members}
use Rattle.json_fields.specs.Last.{members_in, members_at, times}
use Rattle.json_fields.proofs.last.seek_last.Given as goal

abbrev pub invariant-members : goal.invariant-members
invariant-members l = record {
  n : ℕ;
  found : Members;
  all : json.Members;
  rest : List Token;
  some : 0 < l.left;
  enough : length l.reader ≤ n;
  are : members (value l.depth) n l.reader ≡ Some (all, rest);
  conv : members_in l.depth l.initial.reader ≡ members_at l.depth found n l.reader;
  count : times l.name all ≡ l.left;
  shorter : length l.reader ≤ length l.initial.reader;
}

abbrev pub decreases-members : goal.decreases-members
decreases-members l = length l.reader

use Rattle.std.proofs.Common.{◌≡◌, length, List, Some, ℕ, ◌≤◌}
use Rattle.json.specs.Token.{Token}
use Rattle.json.specs.Json as json
use Rattle.json.specs.Json.{value, members}
use Rattle.json_fields.specs.Last.{times}
use Rattle.json_fields.proofs.Times.{GoesOn}
use Rattle.json_fields.proofs.last.pass_others.Given as goal

abbrev pub invariant-members : goal.invariant-members
invariant-members l = record {
  n : ℕ;
  all : json.Members;
  rest : List Token;
  enough : length l.reader ≤ n;
  are : members (value l.depth) n l.reader ≡ Some (all, rest);
  count : times l.name all ≡ 0;
  goes : GoesOn l.depth l.name l.initial.reader l.reader;
  shorter : length l.reader ≤ length l.initial.reader;
}

abbrev pub decreases-members : goal.decreases-members
decreases-members l = length l.reader

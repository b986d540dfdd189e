use Rattle.std.proofs.Common.{◌≡◌, ◌++◌, length, map, true}
use Rattle.std.specs.List.{list_all}
use Rattle.list_spec.specs.Entries.{entry_of}
use Rattle.list_spec.specs.Pieces.{pieces_of}
use Rattle.hide_rules.specs.Read.{names_domain}
use Rattle.hide_rules.proofs.entries.read_pieces.Given as goal

abbrev pub invariant-pieces : goal.invariant-pieces
invariant-pieces l = record {
  read : map entry_of (pieces_of 44 l.text) ≡ l.entries.items ++ map entry_of (pieces_of 44 l.rest);
  named : list_all names_domain l.entries.items ≡ true;
}

abbrev pub decreases-pieces : goal.decreases-pieces
decreases-pieces l = length l.rest

-- What is left behind the first piece of a text.
use Rattle.std.specs.Prelude.{ℕ, List, [], Option, None, Some, IsAscii}
use Rattle.std.specs.Borrow.{Bor}
use Rattle.list_spec.specs.Pieces.{pieces_of}

abbrev pub pieces_left : ℕ → Option (Bor (List ℕ)) → List (List ℕ)
pieces_left separator None = []
pieces_left separator (Some later) = pieces_of separator later.now

abbrev pub is_kept_ascii : List ℕ → Option (Bor (List ℕ)) → Type 0
is_kept_ascii piece None = IsAscii piece
is_kept_ascii piece (Some later) = IsAscii piece × IsAscii later.now

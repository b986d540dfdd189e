-- A key that is asked for: a text as it stands, or in lower case.
use Rattle.std.specs.Prelude.{ℕ, List, map, Bool, if◌then◌else◌}
use Rattle.std.specs.Char.{to_ascii_lowercase}

abbrev pub asked_byte : Bool → ℕ → ℕ
asked_byte fold b = if fold then to_ascii_lowercase b else b

abbrev pub asked_text : Bool → List ℕ → List ℕ
asked_text fold text = map (asked_byte fold) text

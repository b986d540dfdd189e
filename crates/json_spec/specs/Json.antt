-- JSON as the definition of `serde_json` reads it (RFC 8259): UTF-8, nesting of at most 127, and of a
-- repeated key the last value.
use Rattle.std.specs.Prelude.{ℕ, List, Bool, true, false, ◌&&◌, Option, None, option_and_then, if◌then◌else◌}
use Rattle.std.specs.Option.{option_map_or}
use Rattle.std.specs.List.{list_any}
use Rattle.std.specs.Str.{is_utf8, bytes_eq}
use Rattle.serde_json.specs.Data.{Data, Members, no_members, member}
use Rattle.serde_json.specs.Read.{read}
use Rattle.serde_json.specs.Find.{get, as_str, as_number, as_u64, as_object}

-- the tree of the bytes
abbrev pub tree_of : List ℕ → Option Data
tree_of bytes = if is_utf8 bytes then read bytes else None

-- a whole number without sign, fraction or exponent, below 2^64
abbrev pub whole_number : Data → Option ℕ
whole_number d = option_and_then as_u64 (as_number d)

-- the text at a key
abbrev pub text_at : List ℕ → Data → Option (List ℕ)
text_at key d = option_and_then as_str (get key d)

-- the object has no other keys than these
abbrev pub has_only : List (List ℕ) → Members → Bool
has_only keys no_members = true
has_only keys (member key d members) = list_any (λ other. bytes_eq key other) keys && has_only keys members

-- an object with no other keys than these
abbrev pub is_object_of : List (List ℕ) → Data → Bool
is_object_of keys d = option_map_or (has_only keys) (as_object d) false

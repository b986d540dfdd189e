-- Bytes of a JSON string that stand for themselves (RFC 8259, section 7).
use Rattle.std.specs.Prelude.{ℕ, Bool, not, ◌&&◌, ◌==◌, nat_le}

-- no control character, no quotation mark and no backslash
abbrev pub is_plain : ℕ → Bool
is_plain byte = (nat_le 32 byte && not (byte == 34)) && not (byte == 92)

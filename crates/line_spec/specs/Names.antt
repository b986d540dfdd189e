-- Names of extensions.
use Rattle.std.specs.Prelude.{ℕ, List, length, Bool, ◌==◌, ◌&&◌, ◌||◌, nat_lt, nat_le}
use Rattle.std.specs.List.{list_all}

-- `a-z`, `0-9`, `-` and `_`
abbrev pub is_name_byte : ℕ → Bool
is_name_byte b = (nat_le 97 b && nat_le b 122) || (nat_le 48 b && nat_le b 57) || b == 45 || b == 95

-- a name of an extension has 1 to 64 of them
abbrev pub is_extension_name : List ℕ → Bool
is_extension_name name = nat_lt 0 (length name) && nat_le (length name) 64 && list_all is_name_byte name

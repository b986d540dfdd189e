-- The lengths of the keys of an object.
use Rattle.std.specs.Prelude.{◌≡◌, ℕ, ◌%◌, List, length, get_or, set, replicate, fold, Bool, true, false, IsNone, String, string_bytes}
use Rattle.std.specs.declared.alloc.Global.{Global}
use Rattle.serde_json.specs.Data.{Data}
use Rattle.serde_json.specs.Find.{get}

-- which lengths, modulo 32, the keys have
abbrev pub with_key : List Bool → String Global → List Bool
with_key lengths key = set lengths (length (string_bytes key) % 32) true

abbrev pub lengths_of : List (String Global) → List Bool
lengths_of keys = fold with_key (replicate 32 false) keys

-- whether a key of this length may be there
abbrev pub is_told : List Bool → List ℕ → Bool
is_told lengths key = get_or lengths (length key % 32) false

-- no key is there whose length is not told
abbrev pub LacksUntold : List Bool → Data → Type 0
LacksUntold lengths d = (key : List ℕ) → is_told lengths key ≡ false → IsNone (get key d)

-- Words of answers: one for each of up to 64 bytes of a text, the lowest for the last of them.
use Rattle.std.specs.Prelude.{◌≡◌, ℕ, ◌+◌, ◌<◌, ◌≤◌, List, length, slice_index_or, if◌then◌else◌, Bool, false, ◌==◌}
use Rattle.std.specs.Int.{bit_at}
use Rattle.std.specs.Char.{to_ascii_lowercase}

-- the answer at this place of the word
abbrev pub tells : ℕ → ℕ → Bool
tells word i = bit_at word i == 1

-- a byte by which its word is found
abbrev pub key : Bool → ℕ → ℕ
key fold byte = if fold then to_ascii_lowercase byte else byte

-- the word for each byte tells where the text has it, in the last bytes before `to`
pub record AreNoted (fold : Bool) (text : List ℕ) (to count : ℕ) (words : List ℕ) : Type 0 where
  pub size : length words ≡ 256
  pub told : (c i j : ℕ) → c < 256 → i < count → (i + j) + 1 ≡ to → tells (slice_index_or words c 0) i ≡ (key fold (slice_index_or text j 0) == c)
  pub none : (c i : ℕ) → c < 256 → count ≤ i → tells (slice_index_or words c 0) i ≡ false

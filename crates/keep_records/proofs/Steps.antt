-- One record of a file.
use Rattle.std.proofs.Common.{◌≡◌, ◌≢◌, ℕ, zero, suc, ◌+◌, ◌<◌, ◌≤◌, Bool, true, false, ◌&&◌, ◌==◌, nat_lt, List, [], ◌∷◌, length, drop, get_or, if◌then◌else◌, refl, ◌∙◌, ap, arith, length-take, length-drop}
use Rattle.std.proofs.lemmas.Bool.Decides.{nat_tests}
use Rattle.keep_records.specs.Records.{size_of, stands, payload_of, payloads_past, payloads, span, end_of}

-- what it takes that a record stands at the start
pub record Standing (bytes : List ℕ) : Type 0 where
  pub gate : get_or bytes 0 0 ≡ 1
  pub some : 0 < size_of bytes
  pub room : size_of bytes + 5 < length bytes

tests_true : (g n l : ℕ) → ((g == 1) && (nat_lt 0 n && nat_lt (n + 5) l)) ≡ true → (g ≡ 1) × (0 < n) × (n + 5 < l)
tests_true g n l is = grind (arith, nat_tests)

tests_from : (g n l : ℕ) → g ≡ 1 → 0 < n → n + 5 < l → ((g == 1) && (nat_lt 0 n && nat_lt (n + 5) l)) ≡ true
tests_from g n l gate some room = grind (arith, nat_tests)

tests_shut : (g n l : ℕ) → g ≢ 1 → ((g == 1) && (nat_lt 0 n && nat_lt (n + 5) l)) ≡ false
tests_shut g n l shut = grind (arith, nat_tests)

tests_short : (g n l : ℕ) → l ≤ 6 → ((g == 1) && (nat_lt 0 n && nat_lt (n + 5) l)) ≡ false
tests_short g n l short = grind (arith, nat_tests)

pub standing : (bytes : List ℕ) → stands bytes ≡ true → Standing bytes
standing bytes is =
    let parts = tests_true (get_or bytes 0 0) (size_of bytes) (length bytes) is in
    record { gate = parts.0; some = parts.1; room = parts.2 }

pub to_stand : (bytes : List ℕ) → Standing bytes → stands bytes ≡ true
to_stand bytes s = tests_from (get_or bytes 0 0) (size_of bytes) (length bytes) s.gate s.some s.room

pub closed : (bytes : List ℕ) → get_or bytes 0 0 ≢ 1 → stands bytes ≡ false
closed bytes shut = tests_shut (get_or bytes 0 0) (size_of bytes) (length bytes) shut

pub too_short : (bytes : List ℕ) → length bytes ≤ 6 → stands bytes ≡ false
too_short bytes short = tests_short (get_or bytes 0 0) (size_of bytes) (length bytes) short

pub payload_length : (bytes : List ℕ) → Standing bytes → length (payload_of bytes) ≡ size_of bytes
payload_length bytes s = omega (arith, length-take (size_of bytes) (drop 5 bytes), length-drop 5 bytes, s.room)

-- the payloads behind some bytes are those of the rest
pub behind : (skip : ℕ) (bytes : List ℕ) → payloads_past skip bytes ≡ payloads (drop skip bytes)
unfolding payloads
behind zero bytes = refl
behind (suc skip) [] = refl
behind (suc skip) (byte ∷ rest) = behind skip rest

pub none : (bytes : List ℕ) → stands bytes ≡ false → payloads bytes ≡ []
unfolding payloads
none [] shut = refl
none (byte ∷ rest) shut = ap (λ (test : Bool). if test then payload_of (byte ∷ rest) ∷ payloads_past (size_of (byte ∷ rest) + 4) rest else []) shut

-- the payloads are the first one and those behind its record
pub first_and_rest : (bytes : List ℕ) → stands bytes ≡ true → payloads bytes ≡ payload_of bytes ∷ payloads (drop (size_of bytes + 5) bytes)
unfolding payloads
first_and_rest [] is = absurd (omega (arith, (standing [] is).room))
first_and_rest (byte ∷ rest) is =
    let size = size_of (byte ∷ rest) in
    let count : suc (size + 4) ≡ size + 5 = omega arith in
    let tail : payloads_past (size + 4) rest ≡ payloads (drop (size + 5) (byte ∷ rest)) =
    behind (size + 4) rest ∙ ap (λ (n : ℕ). payloads (drop n (byte ∷ rest))) count in
    ap (λ (test : Bool). if test then payload_of (byte ∷ rest) ∷ payloads_past (size + 4) rest else []) is
    ∙ ap (λ (later : List (List ℕ)). payload_of (byte ∷ rest) ∷ later) tail

-- where the records end, by the first of them
pub end_is : (bytes : List ℕ) → stands bytes ≡ true → end_of bytes ≡ (size_of bytes + 5) + end_of (drop (size_of bytes + 5) bytes)
end_is bytes is =
    omega (arith, ap span (first_and_rest bytes is), payload_length bytes (standing bytes is))

pub ends_here : (bytes : List ℕ) → stands bytes ≡ false → end_of bytes ≡ 0
ends_here bytes shut = ap span (none bytes shut)

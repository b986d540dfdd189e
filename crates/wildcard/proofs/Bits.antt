-- What the bits of a word tell.
use Rattle.std.proofs.Common.{◌≡◌, ◌≢◌, ⊎_elim, ℕ, zero, suc, ◌+◌, ◌-◌, ◌*◌, ◌/◌, ◌%◌, ◌^◌, ◌<◌, ◌≤◌, min, max, Bool, true, false, ◌&&◌, ◌||◌, ◌==◌, refl, sym, ap, ◌∙◌, subst, arith, w64}
use Rattle.std.specs.Prelude.{bit_and, bit_or}
use Rattle.std.specs.Int.{bit_at, trailing_zeros}
use Rattle.std.proofs.lemmas.Bool.{cases_lt}
use Rattle.std.proofs.lemmas.Nat.{or_lt}
use mir.Val.{bool_byte}
use Rattle.std.proofs.lemmas.Nat.Bits.{bit_at_lowest, bit_at-suc, bit_at-zero, bit_at_and, bit_at_or, bit_at-lt, bit_at_cat_low, bit_at_mask_inside, bit_at_mask_below, ones_shl, bit_at-trailing_zeros}
use Rattle.wildcard.specs.Words.{tells}

min_told : (a b : ℕ) → a < 2 → b < 2 → (min a b == 1) ≡ ((a == 1) && (b == 1))
min_told zero b a_small b_small = ap (λ v. v == 1) (let e : min 0 b ≡ 0 = omega arith in e)
min_told (suc zero) zero a_small b_small = refl
min_told (suc zero) (suc zero) a_small b_small = refl
min_told (suc zero) (suc (suc b)) a_small b_small = absurd (omega (arith, b_small))
min_told (suc (suc a)) b a_small b_small = absurd (omega (arith, a_small))

max_told : (a b : ℕ) → a < 2 → b < 2 → (max a b == 1) ≡ ((a == 1) || (b == 1))
max_told zero b a_small b_small = ap (λ v. v == 1) (let e : max 0 b ≡ b = omega arith in e)
max_told (suc zero) zero a_small b_small = refl
max_told (suc zero) (suc zero) a_small b_small = refl
max_told (suc zero) (suc (suc b)) a_small b_small = absurd (omega (arith, b_small))
max_told (suc (suc a)) b a_small b_small = absurd (omega (arith, a_small))

pub tells_both : (a b i : ℕ) → tells (bit_and a b) i ≡ (tells a i && tells b i)
tells_both a b i = ap (λ v. v == 1) (bit_at_and a b i) ∙ min_told (bit_at a i) (bit_at b i) (bit_at-lt a i) (bit_at-lt b i)

pub tells_either : (a b i : ℕ) → tells (bit_or a b) i ≡ (tells a i || tells b i)
tells_either a b i = ap (λ v. v == 1) (bit_at_or a b i) ∙ max_told (bit_at a i) (bit_at b i) (bit_at-lt a i) (bit_at-lt b i)

pub tells_none : (i : ℕ) → tells 0 i ≡ false
tells_none i = ap (λ v. v == 1) (bit_at-zero i)

-- the bits of a number that is cut to 64
tells_cut : (n i : ℕ) → i < 64 → tells (n % 2 ^ 64) i ≡ tells n i
tells_cut n i small =
    sym (ap (λ v. v == 1) (bit_at_cat_low (n / 2 ^ 64) 64 (n % 2 ^ 64) i small))
    ∙ ap (λ m. tells m i) (let e : n / 2 ^ 64 * 2 ^ 64 + n % 2 ^ 64 ≡ n = omega arith in e)

-- ---- a word with one answer more

carry_last : (last : Bool) → tells (bool_byte last) 0 ≡ last
carry_last true = refl
carry_last false = refl

carry_others : (last : Bool) (i : ℕ) → tells (bool_byte last) (i + 1) ≡ false
carry_others true i = ap (λ j. tells 1 j) (let e : i + 1 ≡ suc i = omega arith in e) ∙ ap (λ v. v == 1) (bit_at-suc 1 i) ∙ tells_none i
carry_others false i = tells_none (i + 1)

or_false : (a : Bool) → (a || false) ≡ a
or_false true = refl
or_false false = refl

pub with_last : (word carry : ℕ) (last : Bool) → carry ≡ bool_byte last → tells (bit_or word carry) 0 ≡ (tells word 0 || last)
with_last word carry last e = tells_either word carry 0 ∙ ap (λ t. tells word 0 || t) (ap (λ b. tells b 0) e ∙ carry_last last)

pub with_others : (word carry : ℕ) (last : Bool) (i : ℕ) → carry ≡ bool_byte last → tells (bit_or word carry) (i + 1) ≡ tells word (i + 1)
with_others word carry last i e =
    tells_either word carry (i + 1) ∙ ap (λ t. tells word (i + 1) || t) (ap (λ b. tells b (i + 1)) e ∙ carry_others last i) ∙ or_false (tells word (i + 1))

doubled_last : (n : ℕ) → tells (n * 2) 0 ≡ false
doubled_last n = ap (λ v. v == 1) (bit_at_lowest (n * 2) ∙ (let e : n * 2 % 2 ≡ 0 = omega arith in e))

doubled_others : (n i : ℕ) → tells (n * 2) (i + 1) ≡ tells n i
doubled_others n i =
    ap (λ j. tells (n * 2) j) (let e : i + 1 ≡ suc i = omega arith in e)
    ∙ ap (λ v. v == 1) (bit_at-suc (n * 2) i)
    ∙ ap (λ m. tells m i) (let e : n * 2 / 2 ≡ n = omega arith in e)

pub shifted_last : (word carry : ℕ) (last : Bool) → carry ≡ bool_byte last → tells (bit_or (word * 2 % 18446744073709551616) carry) 0 ≡ last
shifted_last word carry last e =
    with_last (word * 2 % 2 ^ 64) carry last e ∙ ap (λ t. t || last) (tells_cut (word * 2) 0 (omega arith) ∙ doubled_last word)

pub shifted_others : (word carry : ℕ) (last : Bool) (i : ℕ) → carry ≡ bool_byte last → i < 63 → tells (bit_or (word * 2 % 18446744073709551616) carry) (i + 1) ≡ tells word i
shifted_others word carry last i e small =
    with_others (word * 2 % 2 ^ 64) carry last i e ∙ tells_cut (word * 2) (i + 1) (omega arith) ∙ doubled_others word i

-- ---- from the lowest answer on

-- a word that tells `true` from place t on
from_place : (t i : ℕ) → t < 64 → i < 64 → (t ≤ i → tells ((2 ^ 64 - 1) * 2 ^ t % 2 ^ 64) i ≡ true) × (i < t → tells ((2 ^ 64 - 1) * 2 ^ t % 2 ^ 64) i ≡ false)
from_place t i place small =
    let e = ones_shl 64 t (omega arith) in (
      λ from. ap (λ m. tells m i) e ∙ ap (λ v. v == 1) (bit_at_mask_inside t 64 i from small),
      λ less. ap (λ m. tells m i) e ∙ ap (λ v. v == 1) (bit_at_mask_below t 64 i less),
    )

or_true : (a b : Bool) → b ≡ true → (a || b) ≡ true
or_true true b e = refl
or_true false b e = e

lowest_last : (some t : ℕ) → t < 64 → bit_at some t ≡ 1 → ((i : ℕ) → i < t → bit_at some i ≡ 0) → tells ((2 ^ 64 - 1) * 2 ^ t % 2 ^ 64) 0 ≡ tells some 0
lowest_last some zero place at before = (from_place 0 0 place (omega arith)).0 (omega arith) ∙ sym (ap (λ v. v == 1) at)
lowest_last some (suc t) place at before = (from_place (suc t) 0 place (omega arith)).1 (omega arith) ∙ sym (ap (λ v. v == 1) (before 0 (omega arith)))

lowest_others : (some t i : ℕ) → t < 64 → i < 63 → bit_at some t ≡ 1 → ((j : ℕ) → j < t → bit_at some j ≡ 0)
    → tells ((2 ^ 64 - 1) * 2 ^ t % 2 ^ 64) (i + 1) ≡ (tells some (i + 1) || tells ((2 ^ 64 - 1) * 2 ^ t % 2 ^ 64) i)
lowest_others some t i place small at before = ⊎_elim
    (λ (below : i < t).
    let behind : tells ((2 ^ 64 - 1) * 2 ^ t % 2 ^ 64) i ≡ false = (from_place t i place (omega arith)).1 below in
    let right : (tells some (i + 1) || tells ((2 ^ 64 - 1) * 2 ^ t % 2 ^ 64) i) ≡ tells some (i + 1) = ap (λ b. tells some (i + 1) || b) behind ∙ or_false (tells some (i + 1)) in
    ⊎_elim
    (λ (less : i + 1 < t). (from_place t (i + 1) place (omega arith)).1 less ∙ sym (right ∙ ap (λ v. v == 1) (before (i + 1) less)))
    (λ (last : t ≤ i + 1).
    let same : t ≡ i + 1 = omega arith in
    (from_place t (i + 1) place (omega arith)).0 last ∙ sym (right ∙ ap (λ v. v == 1) (ap (λ k. bit_at some k) (sym same) ∙ at)))
    (cases_lt (i + 1) t))
    (λ (from : t ≤ i). (from_place t (i + 1) place (omega arith)).0 (omega arith) ∙ sym (or_true (tells some (i + 1)) (tells ((2 ^ 64 - 1) * 2 ^ t % 2 ^ 64) i) ((from_place t i place (omega arith)).0 from)))
    (cases_lt i t)

-- the word from the lowest `true` on
abbrev from_lowest : ℕ → ℕ
from_lowest some = (2 ^ 64 - 1) * 2 ^ trailing_zeros w64 some % 2 ^ 64

some_fits : (word carry : ℕ) (last : Bool) → carry ≡ bool_byte last → word < 2 ^ 64 → bit_or word carry < 2 ^ 64
some_fits word carry last e fits = or_lt 64 word carry fits (subst (λ b. b < 2 ^ 64) (sym e) (elim last as (λ l. bool_byte l < 2 ^ 64) [ true ↦ omega arith | false ↦ omega arith ]))

pub lowest_small : (word carry : ℕ) (last : Bool) → carry ≡ bool_byte last → word < 2 ^ 64 → bit_or word carry ≢ 0 → trailing_zeros w64 (bit_or word carry) < 64
lowest_small word carry last e fits not_none =
    let positive : 0 < bit_or word carry = omega arith in
    (bit_at-trailing_zeros w64 (bit_or word carry) positive (some_fits word carry last e fits)).0

pub from_lowest_last : (word carry : ℕ) (last : Bool) → carry ≡ bool_byte last → word < 2 ^ 64 → bit_or word carry ≢ 0 → tells (from_lowest (bit_or word carry)) 0 ≡ (tells word 0 || last)
from_lowest_last word carry last e fits not_none =
    let positive : 0 < bit_or word carry = omega arith in
    let lowest = bit_at-trailing_zeros w64 (bit_or word carry) positive (some_fits word carry last e fits) in
    lowest_last (bit_or word carry) (trailing_zeros w64 (bit_or word carry)) lowest.0 lowest.1 lowest.2 ∙ with_last word carry last e

pub from_lowest_others : (word carry : ℕ) (last : Bool) (i : ℕ) → i < 63 → carry ≡ bool_byte last → word < 2 ^ 64 → bit_or word carry ≢ 0
    → tells (from_lowest (bit_or word carry)) (i + 1) ≡ (tells word (i + 1) || tells (from_lowest (bit_or word carry)) i)
from_lowest_others word carry last i small e fits not_none =
    let positive : 0 < bit_or word carry = omega arith in
    let lowest = bit_at-trailing_zeros w64 (bit_or word carry) positive (some_fits word carry last e fits) in
    lowest_others (bit_or word carry) (trailing_zeros w64 (bit_or word carry)) i lowest.0 small lowest.1 lowest.2
    ∙ ap (λ t. t || tells (from_lowest (bit_or word carry)) i) (with_others word carry last i e)

pub none_last : (word carry : ℕ) (last : Bool) → carry ≡ bool_byte last → bit_or word carry ≡ 0 → false ≡ (tells word 0 || last)
none_last word carry last e none = sym (sym (with_last word carry last e) ∙ ap (λ m. tells m 0) none ∙ tells_none 0)

pub none_others : (word carry : ℕ) (last : Bool) (i : ℕ) → carry ≡ bool_byte last → bit_or word carry ≡ 0 → tells 0 (i + 1) ≡ (tells word (i + 1) || tells 0 i)
none_others word carry last i e none =
    tells_none (i + 1)
    ∙ sym (ap (λ t. tells word (i + 1) || t) (tells_none i) ∙ or_false (tells word (i + 1)) ∙ sym (with_others word carry last i e) ∙ ap (λ m. tells m (i + 1)) none ∙ tells_none (i + 1))

-- Bits of a number: those that are needed are among those that are shown.
use Rattle.std.proofs.Common.{◌≡◌, ℕ, ◌^◌, List, [], ◌∷◌, sym, ap, ◌∙◌, arith, All, Contains, max, true, eq-eqb}
use Rattle.std.specs.Prelude.{bit_or}
use Rattle.std.specs.Int.{bit_at}
use Rattle.std.proofs.lemmas.Nat.{or_comm}
use Rattle.std.proofs.lemmas.Nat.Bits.{same_from_bits, bit_at_or, bit_at-zero}
use Rattle.std.specs.Int.Bits.{or_self}
use Rattle.std.proofs.lemmas.List.Elements.{All-nil, All-cons, All-head, All-tail, All-weaker, All-contains}
use Rattle.key_table.specs.Pairs.{is_within}
use Rattle.rule_index.specs.Needs.{with_bit, with_bits}

or_assoc : (a b c : ℕ) → bit_or (bit_or a b) c ≡ bit_or a (bit_or b c)
or_assoc a b c = same_from_bits (bit_or (bit_or a b) c) (bit_or a (bit_or b c)) (λ i.
    let l : bit_at (bit_or (bit_or a b) c) i ≡ max (max (bit_at a i) (bit_at b i)) (bit_at c i) = bit_at_or (bit_or a b) c i ∙ ap (λ n. max n (bit_at c i)) (bit_at_or a b i) in
    let r : bit_at (bit_or a (bit_or b c)) i ≡ max (bit_at a i) (max (bit_at b i) (bit_at c i)) = bit_at_or a (bit_or b c) i ∙ ap (max (bit_at a i)) (bit_at_or b c i) in
    l ∙ (let m : max (max (bit_at a i) (bit_at b i)) (bit_at c i) ≡ max (bit_at a i) (max (bit_at b i) (bit_at c i)) = omega arith in m) ∙ sym r)

-- the bits of this place are set
abbrev pub IsSet : ℕ → ℕ → Type 0
IsSet bits place = bit_or bits (2 ^ place) ≡ bits

-- what is set stays set
kept : (places : List ℕ) (bits more : ℕ) → bit_or bits more ≡ bits → bit_or (with_bits bits places) more ≡ with_bits bits places
kept [] bits more is = is
kept (place ∷ places) bits more is = kept places (with_bit bits place) more
    (or_assoc bits (2 ^ place) more ∙ ap (bit_or bits) (or_comm (2 ^ place) more) ∙ sym (or_assoc bits more (2 ^ place)) ∙ ap (λ m. bit_or m (2 ^ place)) is)

all_set : (places : List ℕ) (bits : ℕ) → All (IsSet (with_bits bits places)) places
all_set [] bits = All-nil _
all_set (place ∷ places) bits = All-cons (IsSet (with_bits (with_bit bits place) places)) place places
    (kept places (with_bit bits place) (2 ^ place) (or_assoc bits (2 ^ place) (2 ^ place) ∙ ap (bit_or bits) (or_self (2 ^ place))))
    (all_set places (with_bit bits place))

bits_within : (needed : List ℕ) (bits shown : ℕ) → bit_or bits shown ≡ shown → All (IsSet shown) needed → bit_or (with_bits bits needed) shown ≡ shown
bits_within [] bits shown is all = is
bits_within (place ∷ needed) bits shown is all = bits_within needed (with_bit bits place) shown
    (or_assoc bits (2 ^ place) shown ∙ ap (bit_or bits) (or_comm (2 ^ place) shown ∙ All-head (IsSet shown) place needed all) ∙ is)
    (All-tail (IsSet shown) place needed all)

zero_or : (a : ℕ) → bit_or 0 a ≡ a
zero_or a = same_from_bits (bit_or 0 a) a (λ i. bit_at_or 0 a i ∙ (let z : bit_at 0 i ≡ 0 = bit_at-zero i in let m : max (bit_at 0 i) (bit_at a i) ≡ bit_at a i = omega arith in m))

-- two lists of places, each within another
pub both_within : (needed others shown more : List ℕ) → All (Contains shown) needed → All (Contains more) others
    → is_within (with_bits (with_bits 0 needed) others) (with_bits (with_bits 0 shown) more) ≡ true
both_within needed others shown more first second =
    let own : ℕ = with_bits 0 shown in
    let whole : ℕ = with_bits own more in
    let early : All (IsSet whole) shown = All-weaker (IsSet own) (IsSet whole) (λ place is. kept more own (2 ^ place) is) shown (all_set shown 0) in
    let late : All (IsSet whole) more = all_set more own in
    let a : All (IsSet whole) needed = All-weaker (Contains shown) (IsSet whole) (λ place there. All-contains (IsSet whole) shown place early there) needed first in
    let b : All (IsSet whole) others = All-weaker (Contains more) (IsSet whole) (λ place there. All-contains (IsSet whole) more place late there) others second in
    eq-eqb (bit_or (with_bits (with_bits 0 needed) others) whole) whole (bits_within others (with_bits 0 needed) whole (bits_within needed 0 whole (zero_or whole) a) b)

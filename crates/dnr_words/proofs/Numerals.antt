-- Decimal digits, read as a number.
use Rattle.std.proofs.Common.{◌≡◌, ℕ, ◌^◌, ◌<◌, ◌≤◌, List, [], ◌∷◌, length, drop, Bool, true, false, ◌&&◌, ◌==◌, nat_le, nat_lt, cond, Some, None, Result, Ok, Err, OkIff, MatchResult, refl, ap, subst, arith}
use Rattle.std.specs.List.{list_all}
use Rattle.std.specs.Str.Parse.{digits_value, AllDigits, IsNumeral, without_leading_plus, ParsesUnsigned}
use Rattle.std.specs.Char.{digit_value}
use Rattle.std.proofs.lemmas.Bool.{and_parts}
use Rattle.std.proofs.lemmas.Bool.Decides.{nat_tests}
use Rattle.dnr_spec.specs.UrlFilter.{is_digit}
use Rattle.session_spec.specs.Words.{is_number, number_up_to}

digit_small : (b : ℕ) → is_digit b ≡ true → digit_value b < 10
digit_small b h =
    let both = and_parts (nat_le 48 b) (nat_le b 57) h in
    let above : nat_lt b 48 ≡ false = grind (arith, nat_tests, both.0) in
    let below : nat_lt b 58 ≡ true = grind (arith, nat_tests, both.1) in
    let few : b ≤ 57 = grind (arith, nat_tests, both.1) in
    rw (above, below) (omega (arith, few))

all_small : (word : List ℕ) → list_all is_digit word ≡ true → AllDigits 10 word
all_small [] h = tt
all_small (b ∷ word) h =
    let both = and_parts (is_digit b) (list_all is_digit word) h in
    (digit_small b both.0, all_small word both.1)

no_plus : (word : List ℕ) → list_all is_digit word ≡ true → without_leading_plus word ≡ word
no_plus [] h = refl
no_plus (b ∷ word) h =
    let both = and_parts (is_digit b) (list_all is_digit word) h in
    let parts = and_parts (nat_le 48 b) (nat_le b 57) both.0 in
    let other : (b == 43) ≡ false = grind (arith, nat_tests, parts.0) in
    ap (λ is_plus. drop (cond is_plus 1 0) (b ∷ word)) other

-- what is_number asks for
digits_of : (word : List ℕ) → is_number word ≡ true → (nat_lt 0 (length word) ≡ true) × (list_all is_digit word ≡ true)
digits_of word h =
    let both = and_parts (nat_lt 0 (length word) && list_all is_digit word) _ h in
    and_parts (nat_lt 0 (length word)) (list_all is_digit word) both.0

at_least : (v m : ℕ) (few : Bool) → nat_lt v m ≡ few → (v < m → ⊥) → m ≤ v
at_least v m true test not_few = absurd (not_few (grind (arith, nat_tests, test)))
at_least v m false test not_few = grind (arith, nat_tests, test)

-- what is read is the number, or the number is past 64 bits
read_by : {E : Type 0} (word : List ℕ) (r : Result ℕ E) → IsNumeral 10 word
    → OkIff r (IsNumeral 10 word × (digits_value 10 word < 2 ^ 64)) (digits_value 10 word)
    → MatchResult r (λ n. n ≡ digits_value 10 word) (λ _. 2 ^ 64 ≤ digits_value 10 word)
read_by word (Ok n) numeral read = read.1
read_by word (Err e) numeral read = at_least (digits_value 10 word) (2 ^ 64) (nat_lt (digits_value 10 word) (2 ^ 64)) refl (λ few. read (numeral, few))

pub number_read : {E : Type 0} (word : List ℕ) (r : Result ℕ E) → is_number word ≡ true → ParsesUnsigned 64 10 word r
    → MatchResult r (λ n. n ≡ digits_value 10 word) (λ _. 2 ^ 64 ≤ digits_value 10 word)
number_read {E} word r h read =
    let digits = digits_of word h in
    let long : 0 < length word = grind (arith, nat_tests, digits.0) in
    read_by word r (long, all_small word digits.1)
    (subst (λ (text : List ℕ). OkIff r (IsNumeral 10 text × (digits_value 10 text < 2 ^ 64)) (digits_value 10 text)) (no_plus word digits.1) read)

pub number_is : (word : List ℕ) (most n : ℕ) → is_number word ≡ true → n ≡ digits_value 10 word → n ≤ most → Some n ≡ number_up_to most word
number_is word most n h same few =
    let within : nat_le (digits_value 10 word) most ≡ true = grind (arith, nat_tests, same, few) in
    rw (h, within, same) refl

pub number_past : (word : List ℕ) (most : ℕ) → is_number word ≡ true → most < digits_value 10 word → None ≡ number_up_to most word
number_past word most h past =
    let beyond : nat_le (digits_value 10 word) most ≡ false = grind (arith, nat_tests, past) in
    rw (h, beyond) refl

pub no_number : (word : List ℕ) (most : ℕ) → is_number word ≡ false → None ≡ number_up_to most word
no_number word most h = rw h refl

-- How the words that tell where a text has each byte grow with a byte.
use Rattle.std.proofs.Common.{◌≡◌, ◌≢◌, ⊎_elim, ℕ, ◌+◌, ◌-◌, ◌<◌, ◌≤◌, List, length, get_or, set, Bool, true, false, ◌==◌, refl, sym, ap, ◌∙◌, arith, length-set, get_or-set_other, get_or-set_same}
use Rattle.std.proofs.lemmas.Bool.{cases_lt}
use Rattle.std.proofs.lemmas.Bool.Decides.{nat_tests}
use Rattle.dnr_spec.specs.UrlFilter.{is_same}
use Rattle.wildcard.specs.Words.{tells, key, AreNoted}
use Rattle.wildcard.proofs.Bits.{tells_none}

pub same_by_key : (fold : Bool) (a b : ℕ) → (key fold a == key fold b) ≡ is_same fold a b
same_by_key true a b = refl
same_by_key false a b = refl

pub none_noted : (fold : Bool) (text : List ℕ) (to : ℕ) (words : List ℕ) → length words ≡ 256 → ((k : ℕ) → k < length words → get_or words k 0 ≡ 0) → AreNoted fold text to 0 words
none_noted fold text to words size none = record {
  size = size;
  told = λ c i j small less at. absurd (omega arith);
  none = λ c i small from. ap (λ w. tells w i) (none c (omega arith)) ∙ tells_none i;
}

-- the word of one byte, with one place more
one_more : (fold : Bool) (text : List ℕ) (to count : ℕ) (words : List ℕ) (found new c : ℕ) → AreNoted fold text to count words → found < 256 → c < 256
    → found ≡ key fold (get_or text (to - 1 - count) 0)
    → tells new count ≡ true → ((i : ℕ) → i ≢ count → tells new i ≡ tells (get_or words found 0) i)
    → ((i : ℕ) → i ≢ count → tells (get_or (set words found new) c 0) i ≡ tells (get_or words c 0) i) × (tells (get_or (set words found new) c 0) count ≡ (found == c))
one_more fold text to count words found new c noted within small is here others =
    let room : found < length words = let s = noted.size in omega arith in
    elim (found == c) as (λ v. (found == c) ≡ v
    → ((i : ℕ) → i ≢ count → tells (get_or (set words found new) c 0) i ≡ tells (get_or words c 0) i) × (tells (get_or (set words found new) c 0) count ≡ v)) [
      | true ↦ λ e.
          let same : c ≡ found = grind (arith, nat_tests) in
          let read : get_or (set words found new) c 0 ≡ new = ap (λ k. get_or (set words found new) k 0) same ∙ get_or-set_same words found new 0 room in (
            λ i other. ap (λ w. tells w i) read ∙ others i other ∙ ap (λ k. tells (get_or words k 0) i) (sym same),
            ap (λ w. tells w count) read ∙ here,
          )
      | false ↦ λ e.
          let apart : c ≢ found = grind (arith, nat_tests) in
          let read : get_or (set words found new) c 0 ≡ get_or words c 0 = get_or-set_other words found c new 0 apart in (
            λ i other. ap (λ w. tells w i) read,
            ap (λ w. tells w count) read ∙ noted.none c count small (omega arith),
          )
    ] refl

pub noted_more : (fold : Bool) (text : List ℕ) (to count : ℕ) (words : List ℕ) (found new : ℕ) → AreNoted fold text to count words → found < 256 → count < to
    → found ≡ key fold (get_or text (to - 1 - count) 0)
    → tells new count ≡ true → ((i : ℕ) → i ≢ count → tells new i ≡ tells (get_or words found 0) i)
    → AreNoted fold text to (count + 1) (set words found new)
noted_more fold text to count words found new noted within order is here others = record {
  size = length-set words found new ∙ noted.size;
  told = λ c i j small less at. ⊎_elim
      (λ (early : i < count).
      let other : i ≢ count = omega arith in
      (one_more fold text to count words found new c noted within small is here others).0 i other ∙ noted.told c i j small early at)
      (λ (late : count ≤ i).
      let same : i ≡ count = omega arith in
      let place : to - 1 - count ≡ j = omega arith in
      ap (λ k. tells (get_or (set words found new) c 0) k) same
      ∙ (one_more fold text to count words found new c noted within small is here others).1
      ∙ ap (λ k. k == c) (is ∙ ap (λ k. key fold (get_or text k 0)) place))
      (cases_lt i count);
  none = λ c i small from.
      let other : i ≢ count = omega arith in
      (one_more fold text to count words found new c noted within small is here others).0 i other ∙ noted.none c i small (omega arith);
}

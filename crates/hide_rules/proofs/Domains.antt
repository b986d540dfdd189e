-- The entries of a line, piece by piece.
use Rattle.std.proofs.Common.{◌≡◌, ◌<◌, ◌≤◌, ℕ, zero, suc, List, [], ◌∷◌, length, take, drop, ◌+◌, ◌-◌, get_or, Bool, true, false, ◌&&◌, ◌==◌, sym, ap, ◌∙◌, subst, arith, ⊎_elim}
use Rattle.std.specs.Prelude.{nat_le, slice_index, slice_range}
use Rattle.std.specs.List.{list_all}
use Rattle.std.specs.Str.{IsAscii, IsUtf8}
use Rattle.std.proofs.lemmas.Bool.{and_parts, or_cases, cases_Bool, cases_lt, cond-true, cond-false, eqb-true}
use Rattle.std.proofs.lemmas.List.{get_or-take, get_or-drop, get_or_past, length-take, length-drop}
use Rattle.std.proofs.lemmas.List.Sums.{AllPass-from_list_all}
use Rattle.std.proofs.lemmas.Bool.Decides.{nat_tests}
use Rattle.std.proofs.lemmas.Str.{IsUtf8-from_ascii}
use Rattle.dnr_spec.specs.Domains.{is_label_byte, is_name, is_address_byte, is_address, is_domain}
use Rattle.domain_set.proofs.Labels.{is_rest, is_rest-name}

-- ---- domains are ASCII

low_label : (b : ℕ) → is_label_byte b ≡ true → b < 128
low_label b is = grind (arith, nat_tests)

low_address : (b : ℕ) → is_address_byte b ≡ true → b < 128
low_address b is = grind (arith, nat_tests)

ascii_more : (b : ℕ) (rest : List ℕ) → b < 128 → IsAscii rest → IsAscii (b ∷ rest)
ascii_more b rest low ascii zero = low
ascii_more b rest low ascii (suc i) = ascii i

pub ascii_rest : (begun : Bool) (text : List ℕ) → is_rest begun text ≡ true → IsAscii text
ascii_rest begun [] is = λ i. omega arith
ascii_rest begun (b ∷ text) is =
    ⊎_elim
    (λ dot.
    let q = and_parts begun (is_rest false text) (sym (cond-true (b == 46) _ _ dot) ∙ is) in
    let low : b < 128 = grind (arith, nat_tests) in
    ascii_more b text low (ascii_rest false text q.1))
    (λ other.
    let q = and_parts (is_label_byte b) (is_rest true text) (sym (cond-false (b == 46) _ _ other) ∙ is) in
    ascii_more b text (low_label b q.0) (ascii_rest true text q.1))
    (cases_Bool (b == 46))

ascii_name : (text : List ℕ) → is_name text ≡ true → IsAscii text
ascii_name text is = ascii_rest false text (is_rest-name text ∙ is)

inside_address : (text : List ℕ) (i : ℕ) → list_all is_address_byte (slice_range text 1 (length text - 1)) ≡ true → 1 ≤ i → i < length text - 1 → get_or text i 0 < 128
inside_address text i all from to =
    let n : ℕ = length text - 1 - 1 in
    let j : ℕ = i - 1 in
    let few : length (drop 1 text) ≡ length text - 1 = length-drop 1 text in
    let within : j < length (take n (drop 1 text)) = omega (arith, length-take n (drop 1 text), few) in
    let byte = AllPass-from_list_all is_address_byte (slice_range text 1 (length text - 1)) all j 0 within in
    let place : 1 + j ≡ i = omega arith in
    let less : j < n = omega arith in
    let same : get_or (take n (drop 1 text)) j 0 ≡ get_or text i 0 = get_or-take n (drop 1 text) j 0 less ∙ get_or-drop 1 text j 0 ∙ ap (λ (k : ℕ). get_or text k 0) place in
    subst (λ (b : ℕ). b < 128) same (low_address (get_or (take n (drop 1 text)) j 0) byte)

ascii_address : (text : List ℕ) → is_address text ≡ true → IsAscii text
ascii_address text is i =
    let a = and_parts (nat_le 2 (length text) && slice_index text 0 == 91 && slice_index text (length text - 1) == 93) (list_all is_address_byte (slice_range text 1 (length text - 1))) is in
    let b = and_parts (nat_le 2 (length text) && slice_index text 0 == 91) (slice_index text (length text - 1) == 93) a.0 in
    let c = and_parts (nat_le 2 (length text)) (slice_index text 0 == 91) b.0 in
    let first : get_or text 0 0 ≡ 91 = eqb-true (get_or text 0 0) 91 c.1 in
    let last : get_or text (length text - 1) 0 ≡ 93 = eqb-true (get_or text (length text - 1) 0) 93 b.1 in
    ⊎_elim
    (λ start. let e : i ≡ 0 = omega arith in subst (λ (k : ℕ). get_or text k 0 < 128) (sym e) (omega (arith, first)))
    (λ later.
    ⊎_elim
    (λ inside. inside_address text i a.1 later inside)
    (λ past.
    ⊎_elim
    (λ before. let e : i ≡ length text - 1 = omega arith in subst (λ (k : ℕ). get_or text k 0 < 128) (sym e) (omega (arith, last)))
    (λ behind. omega (arith, get_or_past text i 0 behind))
    (cases_lt i (length text)))
    (cases_lt i (length text - 1)))
    (cases_lt i 1)

-- a domain is UTF-8
pub utf8_domain : (text : List ℕ) → is_domain text ≡ true → IsUtf8 text
utf8_domain text is =
    IsUtf8-from_ascii text (⊎_elim (ascii_address text) (ascii_name text) (or_cases (is_address text) (is_name text) is))

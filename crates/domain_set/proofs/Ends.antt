-- A host is covered by the rests that the list has.
use Rattle.std.proofs.Common.{◌≡◌, ℕ, ◌+◌, ◌-◌, ◌<◌, ◌≤◌, Bool, true, false, ◌&&◌, ◌||◌, ◌==◌, not, List, [], ◌∷◌, length, drop, suc, refl, sym, ap, ◌∙◌, arith, ⊎_elim, ◌⊎◌, inl, inr, length-drop}
use Rattle.std.specs.Prelude.{nat_eq}
use Rattle.std.specs.List.{ends_with, after_first, position_or_len}
use Rattle.std.specs.Str.{bytes_eq}
use Rattle.std.specs.Cmp.Lexicographic.{pointwise, unequal}
use Rattle.std.proofs.lemmas.Bool.{cases_Bool, cases_lt}
use Rattle.std.proofs.lemmas.Bool.Decides.{nat_tests}
use Rattle.dnr_spec.specs.Hosts.{is_ip_host}
use Rattle.dnr_spec.specs.Domains.{covers_some}
use Rattle.domain_set.specs.Table.{has_text}
use Rattle.domain_set.specs.Rests.{some_rest, covers_by}

split_le : (m n : ℕ) → m ≤ n → (m ≡ n) ⊎ (m < n)
split_le m n h = ⊎_elim (λ less. inr less) (λ more. inl (omega arith)) (cases_lt m n)

-- ---- one entry

short : (needle host : List ℕ) → length host < length needle → ends_with nat_eq host needle ≡ false
short needle host h =
    unequal nat_eq needle (drop (length host - length needle) host) (λ e. absurd (omega (arith, length-drop (length host - length needle) host)))

and_false : (p : Bool) → (p && false) ≡ false
and_false true = refl
and_false false = refl

or_false : (p : Bool) → (p || false) ≡ p
or_false true = refl
or_false false = refl

pub ends_with-dot : (entry host : List ℕ) → ends_with nat_eq host (46 ∷ entry) ≡ some_rest (bytes_eq entry) host
ends_with-dot entry [] = short (46 ∷ entry) [] (omega arith)
ends_with-dot entry (b ∷ rest) =
    let needle = 46 ∷ entry in
    let behind = ends_with-dot entry rest in
    ⊎_elim
    (λ below.
    let other : bytes_eq entry rest ≡ false = unequal nat_eq entry rest (λ e. absurd (omega arith)) in
    let none : some_rest (bytes_eq entry) rest ≡ false = sym behind ∙ short needle rest (omega arith) in
    short needle (b ∷ rest) (omega arith) ∙ sym ((λ i. (b == 46 && other i) || none i) ∙ or_false (b == 46 && false) ∙ and_false (b == 46)))
    (λ above.
    ⊎_elim
    (λ equal.
    let none : some_rest (bytes_eq entry) rest ≡ false = sym behind ∙ short needle rest (omega arith) in
    let whole : length (b ∷ rest) - length needle ≡ 0 = omega arith in
    let dot : nat_eq 46 b ≡ (b == 46) = grind (arith, nat_tests) in
    ap (λ n. pointwise nat_eq needle (drop n (b ∷ rest))) whole ∙ ap (λ d. d && bytes_eq entry rest) dot
    ∙ sym (ap (λ r. (b == 46 && bytes_eq entry rest) || r) none ∙ or_false (b == 46 && bytes_eq entry rest)))
    (λ longer.
    let other : bytes_eq entry rest ≡ false = unequal nat_eq entry rest (λ e. absurd (omega arith)) in
    let place : length (b ∷ rest) - length needle ≡ suc (length rest - length needle) = omega arith in
    ap (λ n. pointwise nat_eq needle (drop n (b ∷ rest))) place ∙ behind
    ∙ sym (ap (λ q. (b == 46 && q) || some_rest (bytes_eq entry) rest) other ∙ ap (λ q. q || some_rest (bytes_eq entry) rest) (and_false (b == 46))))
    (split_le (length entry) (length rest) above))
    (cases_lt (length rest) (length entry))

-- ---- a list

some_rest-or : (p q : List ℕ → Bool) (host : List ℕ) → some_rest (λ rest. p rest || q rest) host ≡ (some_rest p host || some_rest q host)
some_rest-or p q [] = refl
some_rest-or p q (b ∷ rest) = ap (λ s. (b == 46 && (p rest || q rest)) || s) (some_rest-or p q rest) ∙ four (b == 46) (p rest) (q rest) (some_rest p rest) (some_rest q rest)
  where
    four : (d p q s t : Bool) → ((d && (p || q)) || (s || t)) ≡ (((d && p) || s) || ((d && q) || t))
    four false p q s t = refl
    four true true q s t = refl
    four true false true true t = refl
    four true false true false t = refl
    four true false false s t = refl

some_rest-false : (host : List ℕ) → some_rest (λ rest. false) host ≡ false
some_rest-false [] = refl
some_rest-false (b ∷ rest) = λ i. and_false (b == 46) i || some_rest-false rest i

pub covers_some-rests : (list : List (List ℕ)) (host : List ℕ) → covers_some list host ≡ covers_by (has_text list) host
covers_some-rests [] host = sym (ap (λ s. not (is_ip_host host) && s) (some_rest-false host) ∙ and_false (not (is_ip_host host)))
covers_some-rests (entry ∷ list) host =
    (λ i. (bytes_eq entry host || (not (is_ip_host host) && ends_with-dot entry host i)) || covers_some-rests list host i)
    ∙ shuffle (bytes_eq entry host) (not (is_ip_host host)) (some_rest (bytes_eq entry) host) (has_text list host) (some_rest (has_text list) host)
    ∙ ap (λ s. (bytes_eq entry host || has_text list host) || (not (is_ip_host host) && s)) (sym (some_rest-or (bytes_eq entry) (has_text list) host))
  where
    shuffle : (a n x c s : Bool) → ((a || (n && x)) || (c || (n && s))) ≡ ((a || c) || (n && (x || s)))
    shuffle true n x c s = refl
    shuffle false false x c s = refl
    shuffle false true true true s = refl
    shuffle false true true false s = refl
    shuffle false true false c s = refl

pub some_rest-same : (p q : List ℕ → Bool) → ((text : List ℕ) → p text ≡ q text) → (host : List ℕ) → some_rest p host ≡ some_rest q host
some_rest-same p q same [] = refl
some_rest-same p q same (b ∷ rest) = λ i. (b == 46 && same rest i) || some_rest-same p q same rest i

pub covers_by-same : (p q : List ℕ → Bool) → ((text : List ℕ) → p text ≡ q text) → (host : List ℕ) → covers_by p host ≡ covers_by q host
covers_by-same p q same host = λ i. same host i || (not (is_ip_host host) && some_rest-same p q same host i)

-- ---- dot by dot

pub some_rest-found : (p : List ℕ → Bool) (host : List ℕ) → position_or_len (λ b. b == 46) host < length host
    → some_rest p host ≡ (p (after_first (λ b. b == 46) host) || some_rest p (after_first (λ b. b == 46) host))
some_rest-found p [] h = absurd (omega arith)
some_rest-found p (b ∷ rest) h =
    ⊎_elim
    (λ dot. rw dot refl)
    (λ other.
    let one : position_or_len (λ b. b == 46) (b ∷ rest) ≡ 1 + position_or_len (λ b. b == 46) rest = rw other refl in
    let next : position_or_len (λ b. b == 46) (b ∷ rest) + 1 ≡ suc (position_or_len (λ b. b == 46) rest + 1) = omega (arith, one) in
    let after : after_first (λ b. b == 46) (b ∷ rest) ≡ after_first (λ b. b == 46) rest = ap (λ n. drop n (b ∷ rest)) next in
    ap (λ t. (t && p rest) || some_rest p rest) other ∙ some_rest-found p rest (omega (arith, one, h))
    ∙ sym (ap (λ r. p r || some_rest p r) after))
    (cases_Bool (b == 46))

pub some_rest-none : (p : List ℕ → Bool) (host : List ℕ) → position_or_len (λ b. b == 46) host ≡ length host → some_rest p host ≡ false
some_rest-none p [] e = refl
some_rest-none p (b ∷ rest) e =
    ⊎_elim
    (λ dot.
    let none : position_or_len (λ b. b == 46) (b ∷ rest) ≡ 0 = rw dot refl in
    absurd (omega (arith, none, e)))
    (λ other.
    let one : position_or_len (λ b. b == 46) (b ∷ rest) ≡ 1 + position_or_len (λ b. b == 46) rest = rw other refl in
    ap (λ t. (t && p rest) || some_rest p rest) other ∙ some_rest-none p rest (omega (arith, one, e)))
    (cases_Bool (b == 46))

-- A pattern `||`, a plain domain and `^` fits a URL exactly where the domain covers its host.
use Rattle.std.proofs.Common.{◌≡◌, ℕ, zero, suc, ◌+◌, ◌-◌, ◌≤◌, ◌<◌, List, [], ◌∷◌, ◌++◌, length, take, drop, get_or, Bool, true, false, ◌&&◌, ◌==◌, ◌⊎◌, inl, inr, refl, sym, ap, ◌∙◌, subst, ⊎_elim, arith, length-append, length-take-le}
use Rattle.std.specs.Prelude.{codes, nat_lt, nat_le, nat_eq, slice_index, slice_range}
use Rattle.std.specs.List.{list_all, list_any, starts_with}
use Rattle.std.specs.Char.{to_ascii_lowercase, is_ascii_digit}
use Rattle.std.specs.Str.{bytes_eq}
use Rattle.std.proofs.Math.Seq.{take-add, drop-append-add, get_or-append_seam}
use Rattle.std.proofs.lemmas.List.{drop-append-le, drop-drop, get_or_append_left, get_or-append-add, length-take, length-drop}
use Rattle.std.proofs.lemmas.Bool.{and_parts, and_from, or_cases, or_left, or_right, or_from, true≢false, false_from_ne_true, eqb-true}
use Rattle.std.proofs.lemmas.Bool.Decides.{nat_tests, Decides-eqb}
use Rattle.std.proofs.lemmas.Slice.Eq.{bytes_eq-Decides}
use Rattle.dnr_base.specs.declared.span.Span.{Span}
use Rattle.dnr_base.specs.View.{View, IsView, text_of, host_of, is_name_byte, is_address_byte, is_name, is_address, is_host, ends_host}
use Rattle.dnr_spec.specs.Hosts.{labels_of, is_ip_host, is_number, ends_in_number}
use Rattle.dnr_spec.specs.Domains.{covers}
use Rattle.dnr_spec.specs.Domains as domains
use Rattle.dnr_spec.specs.UrlFilter.{domain, has_end_anchor, is_separator, is_same, fits_at, some_below, follows_dot, fits_from, fits}
use Rattle.plain_domains.specs.PlainDomains.{is_lower_letter, ends_in_letters}
use Rattle.compile_laws.proofs.Lists.{true_or_false}
use Rattle.compile_laws.proofs.Covered.{Covered, reads_covers, is_covered, last_of_rest, same_last, take_and_drop, drop_front, all_at}
use Rattle.compile_laws.proofs.Plain.{IsPlain, byte_lower}

-- ---- bytes

name_no_separator : (b : ℕ) → is_name_byte b ≡ true → is_separator b ≡ false
name_no_separator b h = grind (arith, nat_tests, h)

end_separates : (b : ℕ) → ends_host b ≡ true → is_separator b ≡ true
end_separates b h = grind (arith, nat_tests, h)

name_no_end : (b : ℕ) → is_name_byte b ≡ true → ends_host b ≡ false
name_no_end b h = grind (arith, nat_tests, h)

end_lower : (b : ℕ) → ends_host b ≡ true → to_ascii_lowercase b ≡ b
end_lower b h = grind (arith, nat_tests, h)

name_no_star : (b : ℕ) → is_name_byte b ≡ true → (b == 42) ≡ false
name_no_star b h = grind (arith, nat_tests, h)

name_no_caret : (b : ℕ) → is_name_byte b ≡ true → (b == 94) ≡ false
name_no_caret b h = grind (arith, nat_tests, h)

-- in lower case the case of letters does not matter
same_lower : (fold : Bool) (a b : ℕ) → to_ascii_lowercase a ≡ a → to_ascii_lowercase b ≡ b → is_same fold a b ≡ (a == b)
same_lower true a b x y = λ i. x i == y i
same_lower false a b x y = refl

turned : (a b : ℕ) → (a == b) ≡ (b == a)
turned a b =
    ⊎_elim
    (λ yes. yes ∙ sym ((Decides-eqb b a).1 (sym (eqb-true a b yes))))
    (λ no. no ∙ sym (false_from_ne_true (b == a) (λ h. true≢false (sym ((Decides-eqb a b).1 (sym (eqb-true b a h))) ∙ no))))
    (true_or_false (a == b))

-- ---- a piece of the URL from some place of the host on

-- what follows the host
abbrev IsBehind : List ℕ → Type 0
IsBehind [] = Unit {0}
IsBehind (b ∷ rest) = ends_host b ≡ true

no_first : (fold : Bool) (e : ℕ) (body behind : List ℕ) → is_name_byte e ≡ true → IsBehind behind → fits_at false fold (e ∷ body) behind ≡ false
no_first fold e body [] name h = rw (name_no_star e name, name_no_caret e name) refl
no_first fold e body (b ∷ rest) name h =
    let differ : (b == e) ≡ false = false_from_ne_true (b == e) (λ same. true≢false (sym (ap ends_host (sym (eqb-true b e same)) ∙ h) ∙ name_no_end e name)) in
    let apart : is_same fold b e ≡ false = same_lower fold b e (end_lower b h) (byte_lower e name) ∙ differ in
    rw (name_no_star e name, name_no_caret e name, apart) refl

ends_here : (fold : Bool) (behind : List ℕ) → IsBehind behind → fits_at false fold (codes "^") behind ≡ true
ends_here fold [] h = refl
ends_here fold (b ∷ rest) h = ap (λ s. s && true) (end_separates b h)

-- the domain and `^` fit there exactly where the domain is the rest of the host
fits_rest : (fold : Bool) (name rest behind : List ℕ) → list_all is_name_byte name ≡ true → list_all is_name_byte rest ≡ true → IsBehind behind
    → fits_at false fold (name ++ codes "^") (rest ++ behind) ≡ bytes_eq name rest
fits_rest fold [] [] behind n r h = ends_here fold behind h
fits_rest fold [] (b ∷ rest) behind n r h = ap (λ s. s && true) (name_no_separator b (and_parts (is_name_byte b) (list_all is_name_byte rest) r).0)
fits_rest fold (e ∷ name) [] behind n r h = no_first fold e (name ++ codes "^") behind (and_parts (is_name_byte e) (list_all is_name_byte name) n).0 h
fits_rest fold (e ∷ name) (b ∷ rest) behind n r h =
    let p = and_parts (is_name_byte e) (list_all is_name_byte name) n in
    let q = and_parts (is_name_byte b) (list_all is_name_byte rest) r in
    let first : is_same fold b e ≡ (e == b) = same_lower fold b e (byte_lower b q.0) (byte_lower e p.0) ∙ turned b e in
    rw (name_no_star e p.0, name_no_caret e p.0) (λ i. first i && fits_rest fold name rest behind p.1 q.1 h i)

-- ---- some place

below_out : (test : ℕ → Bool) (n : ℕ) → some_below test n ≡ true → (place : ℕ) × (place < n) × (test place ≡ true)
below_out test zero h = cc
below_out test (suc n) h =
    ⊎_elim (λ here. (n, omega arith, here)) (λ rest. let r = below_out test n rest in (r.0, omega (arith, r.1), r.2)) (or_cases (test n) (some_below test n) h)

below_in : (test : ℕ → Bool) (n place : ℕ) → place < n → test place ≡ true → some_below test n ≡ true
below_in test zero place less h = absurd (omega arith)
below_in test (suc n) place less h =
    ⊎_elim
    (λ same. or_left (test n) (some_below test n) (ap test (sym (eqb-true place n same)) ∙ h))
    (λ other. or_right (test n) (some_below test n) (below_in test n place (grind (arith, nat_tests)) h))
    (true_or_false (place == n))

-- ---- hosts

all_dropped : (test : ℕ → Bool) (n : ℕ) (text : List ℕ) → list_all test text ≡ true → list_all test (drop n text) ≡ true
all_dropped test zero text h = h
all_dropped test (suc n) [] h = h
all_dropped test (suc n) (b ∷ text) h = all_dropped test n text (and_parts (test b) (list_all test text) h).1

digits_alone : (label : List ℕ) → list_any is_lower_letter label ≡ true → list_all is_ascii_digit label ≡ false
digits_alone [] h = cc
digits_alone (b ∷ label) h =
    ⊎_elim
    (λ letter. let no : is_ascii_digit b ≡ false = grind (arith, nat_tests, letter) in ap (λ d. d && list_all is_ascii_digit label) no)
    (λ later. false_from_ne_true (list_all is_ascii_digit (b ∷ label)) (λ all. true≢false (sym (and_parts (is_ascii_digit b) (list_all is_ascii_digit label) all).1 ∙ digits_alone label later)))
    (or_cases (is_lower_letter b) (list_any is_lower_letter label) h)

pub no_number : (labels : List (List ℕ)) → ends_in_letters labels ≡ true → ends_in_number labels ≡ false
no_number [] h = cc
no_number (label ∷ []) h =
    false_from_ne_true (is_number label) (λ n. true≢false (sym (and_parts (nat_lt 0 (length label)) (list_all is_ascii_digit label) n).1 ∙ digits_alone label h))
no_number (label ∷ next ∷ labels) h = no_number (next ∷ labels) h

pub name_unbracketed : (text : List ℕ) → list_all is_name_byte text ≡ true → starts_with nat_eq text (codes "[") ≡ false
name_unbracketed [] h = refl
name_unbracketed (b ∷ text) h =
    let name = (and_parts (is_name_byte b) (list_all is_name_byte text) h).0 in
    let differ : nat_eq 91 b ≡ false = grind (arith, nat_tests, name) in
    ap (λ s. s && true) differ

-- a name that ends with a dot and a plain domain is no address
no_address : (host front name : List ℕ) → list_all is_name_byte host ≡ true → host ≡ front ++ 46 ∷ name → IsPlain name → is_ip_host host ≡ false
no_address host front name bytes is plain =
    or_from (starts_with nat_eq host (codes "[")) (ends_in_number (labels_of host)) (name_unbracketed host bytes)
    (ap (λ (h : List ℕ). ends_in_number (labels_of h)) is ∙ same_last front name ∙ no_number (labels_of name) plain.letters)

-- ---- the whole

bracket_apart : (b e : ℕ) → b ≡ 91 → is_name_byte e ≡ true → (b == e) ≡ false
bracket_apart b e is name = false_from_ne_true (b == e) (λ same. true≢false (sym name ∙ ap is_name_byte (sym (eqb-true b e same) ∙ is)))

bracket_lower : (b : ℕ) → b ≡ 91 → to_ascii_lowercase b ≡ b
bracket_lower b is = ap to_ascii_lowercase is ∙ sym is

pub same_truth : (a b : Bool) → (a ≡ true → b ≡ true) → (b ≡ true → a ≡ true) → a ≡ b
same_truth true b f g = sym (f refl)
same_truth false true f g = g refl
same_truth false false f g = refl

drop_within : (front host behind : List ℕ) (k : ℕ) → k ≤ length host → drop (length front + k) (front ++ (host ++ behind)) ≡ drop k host ++ behind
drop_within front host behind k less = drop-append-add front (host ++ behind) k ∙ drop-append-le k host behind less

byte_within : (front host behind : List ℕ) (k : ℕ) → k < length host → get_or (front ++ (host ++ behind)) (length front + k) 0 ≡ get_or host k 0
byte_within front host behind k less = get_or-append-add front (host ++ behind) k 0 ∙ get_or_append_left host behind 0 k less

from_byte : (text : List ℕ) (k : ℕ) → k < length text → drop k text ≡ get_or text k 0 ∷ drop (suc k) text
from_byte [] k less = absurd (omega arith)
from_byte (b ∷ text) zero less = refl
from_byte (b ∷ text) (suc k) less = from_byte text k (omega arith)

-- the parts of an address
address_byte : (host : List ℕ) (k : ℕ) → is_address host ≡ true → 0 < k → k < length host - 1 → is_address_byte (get_or host k 0) ≡ true
address_byte host k h some less =
    let a = and_parts (nat_le 3 (length host) && slice_index host 0 == 91 && slice_index host (length host - 1) == 93) (list_all is_address_byte (slice_range host 1 (length host - 1))) h in
    let n : 1 + (k - 1) ≡ k = omega arith in
    let there : get_or (slice_range host 1 (length host - 1)) (k - 1) 0 ≡ get_or host k 0 =
    get_or-take (length host - 1 - 1) (k - 1) (drop 1 host) (omega arith) ∙ get_or-drop 1 (k - 1) host ∙ ap (λ m. get_or host m 0) n in
    subst (λ b. is_address_byte b ≡ true) there (all_at is_address_byte (slice_range host 1 (length host - 1)) (k - 1) (length_inner host k some less) a.1)
  where
    get_or-take : (n i : ℕ) (xs : List ℕ) → i < n → get_or (take n xs) i 0 ≡ get_or xs i 0
    get_or-take zero i xs less = absurd (omega arith)
    get_or-take (suc n) i [] less = refl
    get_or-take (suc n) zero (x ∷ xs) less = refl
    get_or-take (suc n) (suc i) (x ∷ xs) less = get_or-take n i xs (omega arith)

    get_or-drop : (n i : ℕ) (xs : List ℕ) → get_or (drop n xs) i 0 ≡ get_or xs (n + i) 0
    get_or-drop n i xs = sym (get_or_past n i xs)
      where
        get_or_past : (n i : ℕ) (xs : List ℕ) → get_or xs (n + i) 0 ≡ get_or (drop n xs) i 0
        get_or_past zero i xs = ap (λ m. get_or xs m 0) (omega arith)
        get_or_past (suc n) i [] = refl
        get_or_past (suc n) i (x ∷ xs) = ap (λ m. get_or (x ∷ xs) m 0) (suc_plus n i) ∙ get_or_past n i xs
          where
            suc_plus : (n i : ℕ) → suc n + i ≡ suc (n + i)
            suc_plus n i = omega arith

    length_inner : (host : List ℕ) (k : ℕ) → 0 < k → k < length host - 1 → k - 1 < length (slice_range host 1 (length host - 1))
    length_inner host k some less = omega (arith, length-take (length host - 1 - 1) (drop 1 host), length-drop 1 host)

address_first : (host : List ℕ) → is_address host ≡ true → get_or host 0 0 ≡ 91
address_first host h =
    let a = and_parts (nat_le 3 (length host) && slice_index host 0 == 91 && slice_index host (length host - 1) == 93) (list_all is_address_byte (slice_range host 1 (length host - 1))) h in
    let b = and_parts (nat_le 3 (length host) && slice_index host 0 == 91) (slice_index host (length host - 1) == 93) a.0 in
    eqb-true (slice_index host 0) 91 (and_parts (nat_le 3 (length host)) (slice_index host 0 == 91) b.0).1

record IsShown (front host behind : List ℕ) (span : Span) : Type 0 where
  start : span.start ≡ length front
  end : span.end ≡ length front + length host
  named : is_host host ≡ true
  after : IsBehind behind

module _ (front host behind name : List ℕ) (span : Span) (shown : IsShown front host behind span) (plain : IsPlain name) (fold : Bool) where
  abbrev text : List ℕ
  text = front ++ (host ++ behind)

  abbrev body : List ℕ
  body = name ++ codes "^"

  at_start : drop span.start text ≡ host ++ behind
  at_start = ap (λ n. drop n text) shown.start ∙ drop_front front (host ++ behind)

  some_name : (e : ℕ) × (rest : List ℕ) × (name ≡ e ∷ rest)
  some_name = go name plain.domain
    where
      go : (n : List ℕ) → domains.is_domain n ≡ true → (e : ℕ) × (rest : List ℕ) × (n ≡ e ∷ rest)
      go [] h = cc
      go (e ∷ rest) h = (e, rest, refl)

  -- an address does not begin with the domain, and has no dot inside
  not_at_address : is_address host ≡ true → fits_at false fold body (host ++ behind) ≡ true → ⊥
  not_at_address address h = go host (address_first host address) h
    where
      go : (l : List ℕ) → get_or l 0 0 ≡ 91 → fits_at false fold body (l ++ behind) ≡ true → ⊥
      go [] e h = absurd (omega (arith, e))
      go (b ∷ l) e h =
          let name_byte : is_name_byte some_name.0 ≡ true = (and_parts (is_name_byte some_name.0) (list_all is_name_byte some_name.1) (sym (ap (list_all is_name_byte) some_name.2) ∙ plain.bytes)).0 in
          let differ : (b == some_name.0) ≡ false = bracket_apart b some_name.0 e name_byte in
          let low : to_ascii_lowercase b ≡ b = bracket_lower b e in
          let apart : is_same fold b some_name.0 ≡ false = same_lower fold b some_name.0 low (byte_lower some_name.0 name_byte) ∙ differ in
          let never : fits_at false fold ((some_name.0 ∷ some_name.1) ++ codes "^") ((b ∷ l) ++ behind) ≡ false = rw (name_no_star some_name.0 name_byte, name_no_caret some_name.0 name_byte, apart) refl in
          true≢false (sym h ∙ ap (λ n. fits_at false fold (n ++ codes "^") ((b ∷ l) ++ behind)) some_name.2 ∙ never)

  -- where it fits, the domain covers the host
  fits_covered : is_host host ≡ true → fits_from domain false fold body text span ≡ true → Covered name host
  fits_covered named h =
      ⊎_elim
      (λ start.
      let here = sym (ap (fits_at false fold body) at_start) ∙ start in
      ⊎_elim
      (λ is_named. inl ((bytes_eq-Decides name host).0 (sym (fits_rest fold name host behind plain.bytes (and_parts (nat_le 1 (length host)) (list_all is_name_byte host) is_named).1 shown.after) ∙ here)))
      (λ address. absurd (not_at_address address here))
      (or_cases (is_name host) (is_address host) named))
      (λ later. under later)
      (or_cases (fits_at false fold body (drop span.start text)) (some_below (λ place. follows_dot text span place && fits_at false fold body (drop place text)) span.end) h)
    where
      at_place : (place k : ℕ) → place ≡ length front + suc k → suc k < length host → get_or host k 0 ≡ 46 → fits_at false fold body (drop place text) ≡ true → Covered name host
      at_place place k is less dot fit =
          ⊎_elim
          (λ is_named.
          let bytes = (and_parts (nat_le 1 (length host)) (list_all is_name_byte host) is_named).1 in
          let here : fits_at false fold body (drop (suc k) host ++ behind) ≡ true = sym (ap (fits_at false fold body) (ap (λ n. drop n text) is ∙ drop_within front host behind (suc k) (omega arith))) ∙ fit in
          let same : name ≡ drop (suc k) host = (bytes_eq-Decides name (drop (suc k) host)).0 (sym (fits_rest fold name (drop (suc k) host) behind plain.bytes (all_dropped is_name_byte (suc k) host bytes) shown.after) ∙ here) in
          let whole : host ≡ take k host ++ 46 ∷ name =
          take_and_drop k host ∙ ap (λ r. take k host ++ r) (from_byte host k (omega arith) ∙ (λ i. dot i ∷ sym same i)) in
          inr (take k host, no_address host (take k host) name bytes whole plain, whole))
          (λ address. absurd (address_dot address k (omega arith) dot))
          (or_cases (is_name host) (is_address host) named)
        where
          address_dot : is_address host ≡ true → (k : ℕ) → suc k < length host → get_or host k 0 ≡ 46 → ⊥
          address_dot address zero less dot = absurd (omega (arith, dot, address_first host address))
          address_dot address (suc k) less dot = true≢false (sym (address_byte host (suc k) address (omega arith) (omega arith)) ∙ ap is_address_byte dot)

      under : some_below (λ place. follows_dot text span place && fits_at false fold body (drop place text)) span.end ≡ true → Covered name host
      under h =
          let r = below_out (λ place. follows_dot text span place && fits_at false fold body (drop place text)) span.end h in
          let p = and_parts (follows_dot text span r.0) (fits_at false fold body (drop r.0 text)) r.2 in
          let q = and_parts (nat_lt span.start r.0) (slice_index text (r.0 - 1) == 46) p.0 in
          let past : span.start < r.0 = grind (arith, nat_tests, q.0) in
          let k = r.0 - length front - 1 in
          let start = shown.start in
          let end = shown.end in
          let place : r.0 ≡ length front + suc k = omega (arith, past, start) in
          let before : r.0 - 1 ≡ length front + k = omega (arith, past, start) in
          let inside : suc k < length host = omega (arith, past, start, end, r.1) in
          let dot : get_or host k 0 ≡ 46 = sym (byte_within front host behind k (omega arith)) ∙ sym (ap (λ n. get_or text n 0) before) ∙ eqb-true (slice_index text (r.0 - 1)) 46 q.1 in
          at_place r.0 k place inside dot p.1

  -- and where the domain covers the host, it fits
  covered_fits : Covered name host → fits_from domain false fold body text span ≡ true
  covered_fits (inl same) =
      or_left (fits_at false fold body (drop span.start text)) (some_below (λ place. follows_dot text span place && fits_at false fold body (drop place text)) span.end)
      (ap (fits_at false fold body) (at_start ∙ ap (λ h. h ++ behind) (sym same)) ∙ fits_rest fold name name behind plain.bytes plain.bytes shown.after ∙ (bytes_eq-Decides name name).1 refl)
  covered_fits (inr under) =
      let k = length under.0 in
      let long : length host ≡ suc k + length name = omega (arith, ap length under.2, length-append under.0 (46 ∷ name)) in
      let some : 0 < length name = omega (arith, ap length some_name.2) in
      let place = length front + suc k in
      let start = shown.start in
      let end = shown.end in
      let before : place - 1 ≡ length front + k = omega arith in
      let past : nat_lt span.start place ≡ true = grind (arith, nat_tests, start) in
      let dot : (slice_index text (place - 1) == 46) ≡ true =
      (Decides-eqb (slice_index text (place - 1)) 46).1 (ap (λ n. get_or text n 0) before ∙ byte_within front host behind k (omega arith) ∙ ap (λ h. get_or h k 0) under.2 ∙ get_or-append_seam under.0 46 name 0) in
      let rest : drop place text ≡ name ++ behind =
      drop_within front host behind (suc k) (omega arith) ∙ ap (λ h. drop (suc k) h ++ behind) under.2 ∙ ap (λ r. r ++ behind) (drop_seam under.0 name) in
      let fit : fits_at false fold body (drop place text) ≡ true = ap (fits_at false fold body) rest ∙ fits_rest fold name name behind plain.bytes plain.bytes shown.after ∙ (bytes_eq-Decides name name).1 refl in
      or_right (fits_at false fold body (drop span.start text)) (some_below (λ place. follows_dot text span place && fits_at false fold body (drop place text)) span.end)
      (below_in (λ place. follows_dot text span place && fits_at false fold body (drop place text)) span.end place (omega arith)
      (and_from (follows_dot text span place) (fits_at false fold body (drop place text)) (and_from (nat_lt span.start place) (slice_index text (place - 1) == 46) past dot) fit))
    where
      drop_seam : (xs ys : List ℕ) → drop (suc (length xs)) (xs ++ 46 ∷ ys) ≡ ys
      drop_seam [] ys = refl
      drop_seam (x ∷ xs) ys = drop_seam xs ys

  as_covers : fits_from domain false fold body text span ≡ covers name host
  as_covers =
      same_truth (fits_from domain false fold body text span) (covers name host) (λ h. is_covered name host (fits_covered shown.named h)) (λ h. covered_fits (reads_covers name host h))

-- ---- views

no_end_anchor : (name : List ℕ) → has_end_anchor (name ++ codes "^") ≡ false
no_end_anchor name =
    let last : slice_index (name ++ codes "^") (length (name ++ codes "^") - 1) ≡ 94 = last_of_rest name 94 [] in
    ap (λ b. nat_lt 0 (length (name ++ codes "^")) && b == 124) last ∙ never (nat_lt 0 (length (name ++ codes "^")))
  where
    never : (b : Bool) → (b && false) ≡ false
    never true = refl
    never false = refl

fits_as : (name text : List ℕ) (span : Span) (fold : Bool) → fits (codes "||" ++ name ++ codes "^") text span fold ≡ fits_from domain false fold (name ++ codes "^") text span
fits_as name text span fold = rw (no_end_anchor name) refl

behind_is : (full : List ℕ) (end rest : ℕ) → (rest ≡ 0) ⊎ (ends_host (slice_index full end) ≡ true) → end + rest ≤ length full → IsBehind (take rest (drop end full))
behind_is full end zero h less = tt
behind_is full end (suc rest) (inl none) less = absurd (omega arith)
behind_is full end (suc rest) (inr h) less = subst (λ (l : List ℕ). IsBehind (take (suc rest) l)) (sym (from_byte full end (omega arith))) h

-- the pattern of a plain domain fits a view exactly where the domain covers its host
pub fits_view : (view : View) → IsView view → (name : List ℕ) → IsPlain name → (fold : Bool) → fits (codes "||" ++ name ++ codes "^") (text_of view) view.host fold ≡ covers name (host_of view)
fits_view view is name plain fold =
    let start = view.host.start in
    let long = view.host.end - start in
    let rest = view.cut - view.host.end in
    let order = is.order in
    let within = is.within in
    let cut = is.cut in
    let place : start + (long + rest) ≡ view.cut = omega (arith, order, within) in
    let stop : start + long ≡ view.host.end = omega (arith, order) in
    let front = take start view.full in
    let behind = take rest (drop long (drop start view.full)) in
    let text : text_of view ≡ front ++ (host_of view ++ behind) =
    ap (λ n. take n view.full) (sym place) ∙ take-add start (long + rest) view.full ∙ ap (λ r. front ++ r) (take-add long rest (drop start view.full)) in
    let first : length front ≡ start = length-take-le start view.full (omega (arith, order, within, cut)) in
    let host : length (host_of view) ≡ long = length-take-le long (drop start view.full) (omega (arith, order, within, cut, length-drop start view.full)) in
    let after : (rest ≡ 0) ⊎ (ends_host (slice_index view.full view.host.end) ≡ true) =
    ⊎_elim (λ same. inl (omega (arith, eqb-true view.host.end view.cut same))) (λ e. inr e) (or_cases (view.host.end == view.cut) (ends_host (slice_index view.full view.host.end)) is.behind) in
    let dropped : drop long (drop start view.full) ≡ drop view.host.end view.full = drop-drop long start view.full ∙ ap (λ n. drop n view.full) (omega (arith, order)) in
    let shown : IsShown front (host_of view) behind view.host = record {
      start = sym first;
      end = sym (omega (arith, first, host, stop));
      named = is.host;
      after = subst (λ (l : List ℕ). IsBehind (take rest l)) (sym dropped) (behind_is view.full view.host.end rest after (omega (arith, within, cut)));
    } in
    fits_as name (text_of view) view.host fold ∙ ap (λ t. fits_from domain false fold (name ++ codes "^") t view.host) text ∙ as_covers front (host_of view) behind name view.host shown plain fold

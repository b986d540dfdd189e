-- What an entry of a list of domains covers: of two domains that cover one host, the longer lies under the shorter.
use Rattle.std.proofs.Common.{◌≡◌, ℕ, zero, suc, ◌+◌, ◌-◌, ◌≤◌, ◌<◌, List, [], ◌∷◌, ◌++◌, length, take, drop, get_or, Bool, true, false, not, ◌||◌, ◌&&◌, ◌==◌, ◌⊎◌, inl, inr, refl, sym, ap, ◌∙◌, subst, ⊎_elim, arith, append_assoc, length-append}
use Rattle.std.specs.Prelude.{codes, nat_lt, nat_le, nat_eq, slice_index, slice_range}
use Rattle.std.specs.List.{list_all, starts_with, ends_with, onto_first}
use Rattle.std.specs.Str.{bytes_eq}
use Rattle.std.proofs.lemmas.Bool.{and_parts, and_from, or_cases, or_left, or_right, or_from, or_parts, not-true, not_from_false, eqb-true, true≢false}
use Rattle.std.proofs.lemmas.Bool.Decides.{nat_tests}
use Rattle.std.proofs.lemmas.Slice.Eq.{bytes_eq-Decides}
use Rattle.dnr_spec.specs.Hosts.{labels_of, is_ip_host, ends_in_number}
use Rattle.dnr_spec.specs.Domains.{is_label_byte, is_label, is_name, is_address_byte, is_address, is_domain, covers}
use Rattle.compile_laws.proofs.Lists.{true_or_false}

-- ---- what covers means

-- the entry is the host, or the host ends with a `.` and the entry, and is no address
abbrev pub Covered : List ℕ → List ℕ → Type 0
Covered entry host = (entry ≡ host) ⊎ ((front : List ℕ) × (is_ip_host host ≡ false) × (host ≡ front ++ 46 ∷ entry))

pub take_and_drop : (n : ℕ) (xs : List ℕ) → xs ≡ take n xs ++ drop n xs
take_and_drop zero xs = refl
take_and_drop (suc n) [] = refl
take_and_drop (suc n) (x ∷ xs) = ap (λ (rest : List ℕ). x ∷ rest) (take_and_drop n xs)

pub drop_front : (front rest : List ℕ) → drop (length front) (front ++ rest) ≡ rest
drop_front [] rest = refl
drop_front (x ∷ front) rest = drop_front front rest

pub reads_covers : (entry host : List ℕ) → covers entry host ≡ true → Covered entry host
reads_covers entry host h =
    ⊎_elim
    (λ same. inl ((bytes_eq-Decides entry host).0 same))
    (λ under.
    let p = and_parts (not (is_ip_host host)) (ends_with nat_eq host (46 ∷ entry)) under in
    let n = length host - length (46 ∷ entry) in
    let end = (bytes_eq-Decides (46 ∷ entry) (drop n host)).0 p.1 in
    inr (take n host, not-true (is_ip_host host) p.0, take_and_drop n host ∙ ap (λ (rest : List ℕ). take n host ++ rest) (sym end)))
    (or_cases (bytes_eq entry host) (not (is_ip_host host) && ends_with nat_eq host (46 ∷ entry)) h)

ends_so : (entry host front : List ℕ) → host ≡ front ++ 46 ∷ entry → ends_with nat_eq host (46 ∷ entry) ≡ true
ends_so entry host front e =
    let n : length host - length (46 ∷ entry) ≡ length front = omega (arith, ap length e, length-append front (46 ∷ entry)) in
    let end : 46 ∷ entry ≡ drop (length host - length (46 ∷ entry)) host = sym (ap (λ (k : ℕ). drop k host) n ∙ ap (drop (length front)) e ∙ drop_front front (46 ∷ entry)) in
    (bytes_eq-Decides (46 ∷ entry) (drop (length host - length (46 ∷ entry)) host)).1 end

pub is_covered : (entry host : List ℕ) → Covered entry host → covers entry host ≡ true
is_covered entry host (inl same) = or_left (bytes_eq entry host) _ ((bytes_eq-Decides entry host).1 same)
is_covered entry host (inr under) =
    or_right (bytes_eq entry host) _ (and_from (not (is_ip_host host)) (ends_with nat_eq host (46 ∷ entry)) (not_from_false (is_ip_host host) under.1) (ends_so entry host under.0 under.2))

-- ---- ends of one text

same_ends : (f g x y : List ℕ) → f ++ x ≡ g ++ y → length x ≡ length y → x ≡ y
same_ends [] [] x y e n = e
same_ends [] (c ∷ g) x y e n = absurd (omega (arith, ap length e, length-append g y))
same_ends (c ∷ f) [] x y e n = absurd (omega (arith, ap length e, length-append f x))
same_ends (c ∷ f) (d ∷ g) x y e n = let rest : f ++ x ≡ g ++ y = cc in same_ends f g x y rest n

inner_end : (f g x y : List ℕ) → f ++ x ≡ g ++ y → length x ≤ length y → (r : List ℕ) × (y ≡ r ++ x)
inner_end f [] x y e n = (f, sym e)
inner_end [] (c ∷ g) x y e n = absurd (omega (arith, ap length e, length-append g y))
inner_end (c ∷ f) (d ∷ g) x y e n = let rest : f ++ x ≡ g ++ y = cc in inner_end f g x y rest n

no_longer : (entry host : List ℕ) → Covered entry host → length entry ≤ length host
no_longer entry host (inl same) = omega (arith, ap length same)
no_longer entry host (inr under) = omega (arith, ap length under.2, length-append under.0 (46 ∷ entry))

-- of one length they are the same
pub same_length : (a b host : List ℕ) → Covered a host → Covered b host → length a ≡ length b → a ≡ b
same_length a b host (inl same) (inl other) n = same ∙ sym other
same_length a b host (inl same) (inr under) n = absurd (omega (arith, ap length same, ap length under.2, length-append under.0 (46 ∷ b)))
same_length a b host (inr under) (inl same) n = absurd (omega (arith, ap length same, ap length under.2, length-append under.0 (46 ∷ a)))
same_length a b host (inr under) (inr other) n =
    let e : under.0 ++ 46 ∷ a ≡ other.0 ++ 46 ∷ b = sym under.2 ∙ other.2 in
    let ends = same_ends under.0 other.0 (46 ∷ a) (46 ∷ b) e (ap suc n) in
    let same : a ≡ b = cc in same

-- what lies under an entry is longer
pub is_longer : (a b : List ℕ) → Covered a b → (a ≡ b → ⊥) → length a < length b
is_longer a b (inl same) apart = absurd (apart same)
is_longer a b (inr under) apart = omega (arith, ap length under.2, length-append under.0 (46 ∷ a))

-- ---- labels

pub labels_some : (text : List ℕ) → (label : List ℕ) × (labels : List (List ℕ)) × (labels_of text ≡ label ∷ labels)
labels_some [] = ([], [], refl)
labels_some (b ∷ text) =
    let rest = labels_some text in
    ⊎_elim
    (λ dot. let e : labels_of (b ∷ text) ≡ [] ∷ labels_of text = rw dot refl in ([], labels_of text, e))
    (λ other.
    let e : labels_of (b ∷ text) ≡ onto_first b (labels_of text) = rw other refl in
    (b ∷ rest.0, rest.1, e ∙ ap (onto_first b) rest.2))
    (true_or_false (b == 46))

-- what stands before a dot has labels of its own
labels_before : (front rest : List ℕ) → (label : List ℕ) × (labels : List (List ℕ)) × (labels_of (front ++ 46 ∷ rest) ≡ label ∷ (labels ++ labels_of rest))
labels_before [] rest = ([], [], refl)
labels_before (b ∷ front) rest =
    let before = labels_before front rest in
    ⊎_elim
    (λ dot.
    let e : labels_of (b ∷ (front ++ 46 ∷ rest)) ≡ [] ∷ labels_of (front ++ 46 ∷ rest) = rw dot refl in
    ([], before.0 ∷ before.1, e ∙ ap (λ (labels : List (List ℕ)). [] ∷ labels) before.2))
    (λ other.
    let e : labels_of (b ∷ (front ++ 46 ∷ rest)) ≡ onto_first b (labels_of (front ++ 46 ∷ rest)) = rw other refl in
    (b ∷ before.0, before.1, e ∙ ap (onto_first b) before.2))
    (true_or_false (b == 46))

last_counts : (label : List ℕ) (labels : List (List ℕ)) (next : List ℕ) (rest : List (List ℕ)) → ends_in_number (label ∷ (labels ++ next ∷ rest)) ≡ ends_in_number (next ∷ rest)
last_counts label [] next rest = refl
last_counts label (other ∷ labels) next rest = last_counts other labels next rest

-- so the last label is that of the rest
pub same_last : (front rest : List ℕ) → ends_in_number (labels_of (front ++ 46 ∷ rest)) ≡ ends_in_number (labels_of rest)
same_last front rest =
    let before = labels_before front rest in
    let some = labels_some rest in
    ap ends_in_number (before.2 ∙ ap (λ (labels : List (List ℕ)). before.0 ∷ (before.1 ++ labels)) some.2)
    ∙ last_counts before.0 before.1 some.0 some.1 ∙ sym (ap ends_in_number some.2)

-- ---- brackets

-- a byte of a name
abbrev is_name_byte : ℕ → Bool
is_name_byte b = is_label_byte b || b == 46

label_bytes : (labels : List (List ℕ)) → list_all is_label labels ≡ true → list_all (list_all is_label_byte) labels ≡ true
label_bytes [] h = refl
label_bytes (label ∷ labels) h =
    let p = and_parts (is_label label) (list_all is_label labels) h in
    let q = and_parts (nat_lt 0 (length label)) (list_all is_label_byte label) p.0 in
    and_from (list_all is_label_byte label) (list_all (list_all is_label_byte) labels) q.1 (label_bytes labels p.1)

onto_parts : (b : ℕ) (labels : List (List ℕ)) → list_all (list_all is_label_byte) (onto_first b labels) ≡ true
    → (is_label_byte b ≡ true) × (list_all (list_all is_label_byte) labels ≡ true)
onto_parts b [] h = let p = and_parts (list_all is_label_byte (b ∷ [])) true h in ((and_parts (is_label_byte b) true p.0).0, refl)
onto_parts b (label ∷ labels) h =
    let p = and_parts (list_all is_label_byte (b ∷ label)) (list_all (list_all is_label_byte) labels) h in
    let q = and_parts (is_label_byte b) (list_all is_label_byte label) p.0 in
    (q.0, and_from (list_all is_label_byte label) (list_all (list_all is_label_byte) labels) q.1 p.1)

bytes_of_labels : (text : List ℕ) → list_all (list_all is_label_byte) (labels_of text) ≡ true → list_all is_name_byte text ≡ true
bytes_of_labels [] h = refl
bytes_of_labels (b ∷ text) h =
    ⊎_elim
    (λ dot.
    let e : labels_of (b ∷ text) ≡ [] ∷ labels_of text = rw dot refl in
    let rest = sym (ap (list_all (list_all is_label_byte)) e) ∙ h in
    and_from (is_name_byte b) (list_all is_name_byte text) (or_right (is_label_byte b) (b == 46) dot) (bytes_of_labels text rest))
    (λ other.
    let e : labels_of (b ∷ text) ≡ onto_first b (labels_of text) = rw other refl in
    let rest = onto_parts b (labels_of text) (sym (ap (list_all (list_all is_label_byte)) e) ∙ h) in
    and_from (is_name_byte b) (list_all is_name_byte text) (or_left (is_label_byte b) (b == 46) rest.0) (bytes_of_labels text rest.1))
    (true_or_false (b == 46))

pub name_bytes : (text : List ℕ) → is_name text ≡ true → list_all is_name_byte text ≡ true
name_bytes text h = bytes_of_labels text (label_bytes (labels_of text) h)

pub all_at : (test : ℕ → Bool) (text : List ℕ) (k : ℕ) → k < length text → list_all test text ≡ true → test (get_or text k 0) ≡ true
all_at test [] k less h = absurd (omega arith)
all_at test (b ∷ text) zero less h = (and_parts (test b) (list_all test text) h).0
all_at test (b ∷ text) (suc k) less h = all_at test text k (omega arith) (and_parts (test b) (list_all test text) h).1

second_taken : (test : ℕ → Bool) (n : ℕ) (front : List ℕ) (b c : ℕ) (rest : List ℕ) → length front + 1 < n → list_all test (take n (front ++ b ∷ c ∷ rest)) ≡ true → test c ≡ true
second_taken test zero front b c rest less h = absurd (omega arith)
second_taken test (suc zero) front b c rest less h = absurd (omega arith)
second_taken test (suc (suc n)) [] b c rest less h = (and_parts (test c) _ (and_parts (test b) _ h).1).0
second_taken test (suc (suc n)) (x ∷ front) b c rest less h = second_taken test (suc n) front b c rest (omega arith) (and_parts (test x) _ h).1

pub last_of_rest : (front : List ℕ) (c : ℕ) (rest : List ℕ) → get_or (front ++ c ∷ rest) (length (front ++ c ∷ rest) - 1) 0 ≡ get_or (c ∷ rest) (length (c ∷ rest) - 1) 0
last_of_rest [] c rest = refl
last_of_rest (x ∷ front) c rest =
    let n : length (x ∷ (front ++ c ∷ rest)) - 1 ≡ suc (length (front ++ c ∷ rest) - 1) = omega (arith, length-append front (c ∷ rest)) in
    ap (λ (k : ℕ). get_or (x ∷ (front ++ c ∷ rest)) k 0) n ∙ last_of_rest front c rest

-- the parts of an address
pub record IsAddress (text : List ℕ) : Type 0 where
  pub some : 2 ≤ length text
  pub first : get_or text 0 0 ≡ 91
  pub last : get_or text (length text - 1) 0 ≡ 93
  pub inner : list_all is_address_byte (slice_range text 1 (length text - 1)) ≡ true

pub address_parts : (text : List ℕ) → is_address text ≡ true → IsAddress text
address_parts text h =
    let a = and_parts (nat_le 2 (length text) && slice_index text 0 == 91 && slice_index text (length text - 1) == 93) (list_all is_address_byte (slice_range text 1 (length text - 1))) h in
    let b = and_parts (nat_le 2 (length text) && slice_index text 0 == 91) (slice_index text (length text - 1) == 93) a.0 in
    let c = and_parts (nat_le 2 (length text)) (slice_index text 0 == 91) b.0 in
    let some = c.0 in
    record { some = grind (arith, nat_tests); first = eqb-true _ _ c.1; last = eqb-true _ _ b.1; inner = a.1 }

-- a domain that ends with a bracket begins with one
bracketed : (c : ℕ) (rest : List ℕ) → is_domain (c ∷ rest) ≡ true → get_or (c ∷ rest) (length (c ∷ rest) - 1) 0 ≡ 93 → IsAddress (c ∷ rest)
bracketed c rest h last =
    ⊎_elim (λ address. address_parts (c ∷ rest) address)
    (λ name.
    let byte = all_at is_name_byte (c ∷ rest) (length (c ∷ rest) - 1) (omega arith) (name_bytes (c ∷ rest) name) in
    absurd (true≢false (sym byte ∙ ap is_name_byte last)))
    (or_cases (is_address (c ∷ rest)) (is_name (c ∷ rest)) h)

begins_address : (rest : List ℕ) → is_domain (91 ∷ rest) ≡ true → IsAddress (91 ∷ rest)
begins_address rest h =
    ⊎_elim (λ address. address_parts (91 ∷ rest) address)
    (λ name. absurd (true≢false (sym (and_parts (is_name_byte 91) (list_all is_name_byte rest) (name_bytes (91 ∷ rest) name)).0)))
    (or_cases (is_address (91 ∷ rest)) (is_name (91 ∷ rest)) h)

-- a domain under another is in no brackets
no_bracket : (c : ℕ) (front entry : List ℕ) → is_domain entry ≡ true → is_domain (c ∷ (front ++ 46 ∷ entry)) ≡ true → c ≡ 91 → ⊥
no_bracket c front [] d e is = true≢false (sym d)
no_bracket c front (b ∷ entry) d e is =
    let outer = begins_address (front ++ 46 ∷ b ∷ entry) (subst (λ (x : ℕ). is_domain (x ∷ (front ++ 46 ∷ b ∷ entry)) ≡ true) is e) in
    let last : get_or (b ∷ entry) (length (b ∷ entry) - 1) 0 ≡ 93 =
    sym (last_of_rest (91 ∷ (front ++ 46 ∷ [])) b entry) ∙ ap (λ (text : List ℕ). get_or (91 ∷ text) (length (91 ∷ text) - 1) 0) (append_assoc front (46 ∷ []) (b ∷ entry)) ∙ outer.last in
    let inside = bracketed b entry d last in
    let first : b ≡ 91 = inside.first in
    let some = inside.some in
    let n = length-append front (46 ∷ b ∷ entry) in
    let byte : is_address_byte b ≡ true = second_taken is_address_byte (length (91 ∷ (front ++ 46 ∷ b ∷ entry)) - 1 - 1) front 46 b entry (omega arith) outer.inner in
    true≢false (sym byte ∙ ap is_address_byte first)

not_bracketed : (text : List ℕ) (front entry : List ℕ) → text ≡ front ++ 46 ∷ entry → is_domain entry ≡ true → is_domain text ≡ true → starts_with nat_eq text (codes "[") ≡ false
not_bracketed text [] entry is d e = ap (λ (t : List ℕ). starts_with nat_eq t (codes "[")) is
not_bracketed text (c ∷ front) entry is d e =
    let whole = subst (λ (t : List ℕ). is_domain t ≡ true) is e in
    ap (λ (t : List ℕ). starts_with nat_eq t (codes "[")) is ∙ ⊎_elim
    (λ same. let equal : c ≡ 91 = grind (arith, nat_tests) in absurd (no_bracket c front entry d whole equal))
    (λ other. ap (λ b. b && true) other)
    (true_or_false (nat_eq 91 c))

-- ---- one under the other

under_is_name : (a b host front behind : List ℕ) → is_domain a ≡ true → is_domain b ≡ true → is_ip_host host ≡ false → host ≡ front ++ 46 ∷ b → b ≡ behind ++ 46 ∷ a → is_ip_host b ≡ false
under_is_name a b host front behind da db name is e =
    let parts = or_parts (starts_with nat_eq host (codes "[")) (ends_in_number (labels_of host)) name in
    or_from (starts_with nat_eq b (codes "[")) (ends_in_number (labels_of b)) (not_bracketed b behind a e da db)
    (sym (ap (λ (t : List ℕ). ends_in_number (labels_of t)) is ∙ same_last front b) ∙ parts.1)

-- of two domains that cover a host the shorter covers the longer
pub shorter_covers : (a b host : List ℕ) → Covered a host → Covered b host → length a < length b → is_domain a ≡ true → is_domain b ≡ true → Covered a b
shorter_covers a b host (inl same) other less da db = absurd (omega (arith, ap length same, no_longer b host other))
shorter_covers a b host (inr under) (inl same) less da db = inr (under.0, ap is_ip_host same ∙ under.1, same ∙ under.2)
shorter_covers a b host (inr under) (inr other) less da db =
    let e : under.0 ++ 46 ∷ a ≡ other.0 ++ 46 ∷ b = sym under.2 ∙ other.2 in
    let behind = inner_end under.0 (other.0 ++ 46 ∷ []) (46 ∷ a) b (e ∙ sym (append_assoc other.0 (46 ∷ []) b)) (omega arith) in
    inr (behind.0, under_is_name a b host other.0 behind.0 da db under.1 other.2 behind.1, behind.1)

-- A list that was read is read again as it is.
use Rattle.std.proofs.Common.{◌≡◌, ℕ, ◌-◌, Bool, cond, ◌&&◌, ◌||◌, ◌==◌, not, List, [], ◌∷◌, length, map, take, drop, get_or, refl, sym, ap, ◌∙◌, arith, ⊎_elim, ◌+◌}
use Rattle.std.specs.Prelude.{nat_lt, nat_le, position, Some, None, Ok, slice_range}
use Rattle.std.specs.List.{list_all, onto_first, position_or_len}
use Rattle.std.specs.Char.{to_ascii_lowercase}
use Rattle.std.proofs.Math.ListN.{get_or-map}
use Rattle.std.proofs.lemmas.List.{length-map, take-map, drop-map}
use Rattle.std.proofs.lemmas.Bool.{cases_Bool, cond-true, cond-false}
use Rattle.std.proofs.lemmas.Bool.Decides.{nat_tests}
use Rattle.dnr_spec.specs.Hosts.{labels_of}
use Rattle.dnr_spec.specs.Domains.{is_label_byte, is_label, is_name, is_address_byte, is_address, is_domain, lower_case, unless_bad, domains_of}

-- ---- bytes

low-low : (b : ℕ) → to_ascii_lowercase (to_ascii_lowercase b) ≡ to_ascii_lowercase b
low-low b = grind (arith, nat_tests)

low-label : (b : ℕ) → is_label_byte (to_ascii_lowercase b) ≡ is_label_byte b
low-label b = grind (arith, nat_tests)

low-address : (b : ℕ) → is_address_byte (to_ascii_lowercase b) ≡ is_address_byte b
low-address b = grind (arith, nat_tests)

low-dot : (b : ℕ) → (to_ascii_lowercase b == 46) ≡ (b == 46)
low-dot b = grind (arith, nat_tests)

low-open : (b : ℕ) → (to_ascii_lowercase b == 91) ≡ (b == 91)
low-open b = grind (arith, nat_tests)

low-close : (b : ℕ) → (to_ascii_lowercase b == 93) ≡ (b == 93)
low-close b = grind (arith, nat_tests)

-- ---- lists

lower_case-lower_case : (text : List ℕ) → lower_case (lower_case text) ≡ lower_case text
lower_case-lower_case [] = refl
lower_case-lower_case (b ∷ text) = λ i. low-low b i ∷ lower_case-lower_case text i

map-lower_case : (list : List (List ℕ)) → map lower_case (map lower_case list) ≡ map lower_case list
map-lower_case [] = refl
map-lower_case (text ∷ list) = λ i. lower_case-lower_case text i ∷ map-lower_case list i

all-low : (test : ℕ → Bool) → ((b : ℕ) → test (to_ascii_lowercase b) ≡ test b) → (text : List ℕ) → list_all test (lower_case text) ≡ list_all test text
all-low test same [] = refl
all-low test same (b ∷ text) = λ i. same b i && all-low test same text i

-- ---- names

onto_first-lower : (b : ℕ) (labels : List (List ℕ)) → onto_first (to_ascii_lowercase b) (map lower_case labels) ≡ map lower_case (onto_first b labels)
onto_first-lower b [] = refl
onto_first-lower b (label ∷ labels) = refl

labels_of-lower : (text : List ℕ) → labels_of (lower_case text) ≡ map lower_case (labels_of text)
labels_of-lower [] = refl
labels_of-lower (b ∷ text) =
    (λ i. cond (low-dot b i) ([] ∷ labels_of-lower text i) (onto_first (to_ascii_lowercase b) (labels_of-lower text i)))
    ∙ ⊎_elim
    (λ dot. cond-true _ _ _ dot ∙ sym (ap (map lower_case) (cond-true _ _ _ dot)))
    (λ other. cond-false _ _ _ other ∙ onto_first-lower b (labels_of text) ∙ sym (ap (map lower_case) (cond-false _ _ _ other)))
    (cases_Bool (b == 46))

is_label-lower : (label : List ℕ) → is_label (lower_case label) ≡ is_label label
is_label-lower label = λ i. nat_lt 0 (length-map label to_ascii_lowercase i) && all-low is_label_byte low-label label i

all_labels-lower : (labels : List (List ℕ)) → list_all is_label (map lower_case labels) ≡ list_all is_label labels
all_labels-lower [] = refl
all_labels-lower (label ∷ labels) = λ i. is_label-lower label i && all_labels-lower labels i

is_name-lower : (text : List ℕ) → is_name (lower_case text) ≡ is_name text
is_name-lower text = ap (list_all is_label) (labels_of-lower text) ∙ all_labels-lower (labels_of text)

-- ---- addresses

is_address-lower : (text : List ℕ) → is_address (lower_case text) ≡ is_address text
is_address-lower text =
    let low = lower_case text in
    let long : length low ≡ length text = length-map text to_ascii_lowercase in
    let first : (get_or low 0 0 == 91) ≡ (get_or text 0 0 == 91) = ap (λ b. b == 91) (get_or-map to_ascii_lowercase text 0 0) ∙ low-open (get_or text 0 0) in
    let end = length text - 1 in
    let last : (get_or low end 0 == 93) ≡ (get_or text end 0 == 93) = ap (λ b. b == 93) (get_or-map to_ascii_lowercase text end 0) ∙ low-close (get_or text end 0) in
    let part : slice_range low 1 end ≡ lower_case (slice_range text 1 end) = ap (take (end - 1)) (drop-map to_ascii_lowercase 1 text) ∙ take-map to_ascii_lowercase (end - 1) (drop 1 text) in
    let inside : list_all is_address_byte (slice_range low 1 end) ≡ list_all is_address_byte (slice_range text 1 end)
    = ap (list_all is_address_byte) part ∙ all-low is_address_byte low-address (slice_range text 1 end) in
    (λ i. ((nat_le 2 (long i) && get_or low 0 0 == 91) && get_or low (long i - 1) 0 == 93) && list_all is_address_byte (slice_range low 1 (long i - 1)))
    ∙ (λ i. ((nat_le 2 (length text) && first i) && last i) && inside i)

-- ---- lists of domains

is_domain-lower : (text : List ℕ) → is_domain (lower_case text) ≡ is_domain text
is_domain-lower text = λ i. is_address-lower text i || is_name-lower text i

position_or_len-lower : (list : List (List ℕ)) → position_or_len (λ entry. not (is_domain entry)) (map lower_case list) ≡ position_or_len (λ entry. not (is_domain entry)) list
position_or_len-lower [] = refl
position_or_len-lower (text ∷ list) = λ i. cond (not (not (is_domain-lower text i))) (1 + position_or_len-lower list i) 0

pub domains_of-lower : (list : List (List ℕ)) → position (λ entry. not (is_domain entry)) list ≡ None → domains_of (map lower_case list) ≡ Ok (map lower_case list)
domains_of-lower list none =
    let bad : List ℕ → Bool = λ entry. not (is_domain entry) in
    let same : position bad (map lower_case list) ≡ position bad list
    = λ i. cond (nat_lt (position_or_len-lower list i) (length-map list lower_case i)) (Some (position_or_len-lower list i)) None in
    ap (unless_bad (map lower_case list)) (same ∙ none) ∙ ap Ok (map-lower_case list)

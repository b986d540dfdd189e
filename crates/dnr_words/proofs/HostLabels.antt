-- Labels that are read from the front on, byte by byte.
use Rattle.std.proofs.Common.{◌≡◌, ℕ, Bool, true, false, ◌&&◌, ◌||◌, ◌==◌, List, [], ◌∷◌, length, refl, sym, ap, ◌∙◌, arith, ⊎_elim, lt-ltb}
use Rattle.std.specs.Prelude.{nat_lt, if◌then◌else◌}
use Rattle.std.specs.List.{list_all, onto_first}
use Rattle.std.proofs.lemmas.Bool.{cases_Bool, cond-true, cond-false}
use Rattle.dnr_spec.specs.Hosts.{labels_of}
use Rattle.hide_spec.specs.Hidden.{is_host_byte, is_host_label, is_page_host}

positive : (b : ℕ) (label : List ℕ) → nat_lt 0 (length (b ∷ label)) ≡ true
positive b label = lt-ltb 0 (length (b ∷ label)) (omega arith)

-- the rest of a host, in which the label that is being read has a byte already where `begun` is true
abbrev pub is_rest : Bool → List ℕ → Bool
is_rest begun [] = begun
is_rest begun (b ∷ rest) = if b == 46 then begun && is_rest false rest else is_host_byte b && is_rest true rest

-- the labels, of which the first may be empty where `begun` is true
abbrev are_labels : Bool → List (List ℕ) → Bool
are_labels begun [] = begun
are_labels begun (label ∷ labels) = ((begun || nat_lt 0 (length label)) && list_all is_host_byte label) && list_all is_host_label labels

one : (o n p q r : Bool) → n ≡ true → (((o || n) && (p && q)) && r) ≡ (p && ((true && q) && r))
one true n true q r e = refl
one true n false q r e = refl
one false n true q r e = ap (λ m. (m && q) && r) e
one false n false q r e = ap (λ m. (m && false) && r) e

are_labels-onto_first : (begun : Bool) (b : ℕ) (labels : List (List ℕ)) → are_labels begun (onto_first b labels) ≡ (is_host_byte b && are_labels true labels)
are_labels-onto_first begun b [] = one begun (nat_lt 0 (length (b ∷ []))) (is_host_byte b) true true (positive b [])
are_labels-onto_first begun b (label ∷ labels) =
    one begun (nat_lt 0 (length (b ∷ label))) (is_host_byte b) (list_all is_host_byte label) (list_all is_host_label labels) (positive b label)

first_empty : (begun r : Bool) → (((begun || false) && true) && r) ≡ (begun && r)
first_empty true r = refl
first_empty false r = refl

are_labels-first : (b : ℕ) (labels : List (List ℕ)) → are_labels false (onto_first b labels) ≡ list_all is_host_label (onto_first b labels)
are_labels-first b [] = refl
are_labels-first b (label ∷ labels) = refl

are_labels-labels_of : (text : List ℕ) → are_labels false (labels_of text) ≡ list_all is_host_label (labels_of text)
are_labels-labels_of [] = refl
are_labels-labels_of (b ∷ text) =
    ⊎_elim (λ dot. rw dot refl) (λ other. rw other (are_labels-first b (labels_of text))) (cases_Bool (b == 46))

pub is_rest-labels : (begun : Bool) (text : List ℕ) → is_rest begun text ≡ are_labels begun (labels_of text)
is_rest-labels true [] = refl
is_rest-labels false [] = refl
is_rest-labels begun (b ∷ rest) =
    ⊎_elim
    (λ dot. cond-true _ _ _ dot ∙ ap (λ r. begun && r) (is_rest-labels false rest ∙ are_labels-labels_of rest)
    ∙ sym (ap (are_labels begun) (cond-true _ _ _ dot) ∙ first_empty begun (list_all is_host_label (labels_of rest))))
    (λ other. cond-false _ _ _ other ∙ ap (λ r. is_host_byte b && r) (is_rest-labels true rest)
    ∙ sym (ap (are_labels begun) (cond-false _ _ _ other) ∙ are_labels-onto_first begun b (labels_of rest)))
    (cases_Bool (b == 46))

pub is_rest-host : (text : List ℕ) → is_rest false text ≡ is_page_host text
is_rest-host text = is_rest-labels false text ∙ are_labels-labels_of text

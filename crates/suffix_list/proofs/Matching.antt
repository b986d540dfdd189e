-- Rules and labels, compared from the right.
use Rattle.std.proofs.Common.{◌≡◌, ℕ, List, [], ◌∷◌, ◌++◌, Bool, true, false, ◌&&◌, ◌||◌, Option, Some, None, MatchOption, Bor, refl, sym, ap, ◌∙◌}
use Rattle.dnr_spec.specs.Hosts.{labels_of}
use Rattle.dnr_spec.proofs.Labels.{labels_of-has}
use Rattle.dnr_spec.specs.Suffixes.{fits_label, fits_labels, matches}

or_true : (b : Bool) → (b || true) ≡ true
or_true true = refl
or_true false = refl

or_false : (b : Bool) → (b || false) ≡ b
or_false true = refl
or_false false = refl

and_false : (b : Bool) → (b && false) ≡ false
and_false true = refl
and_false false = refl

and_true : (b : Bool) → (b && true) ≡ b
and_true true = refl
and_true false = refl

and_swap : (a b c : Bool) → (a && (b && c)) ≡ (b && (a && c))
and_swap true b c = refl
and_swap false true c = refl
and_swap false false c = refl

and_or : (a b c : Bool) → ((a && b) || (a && c)) ≡ (a && (b || c))
and_or true b c = refl
and_or false b c = refl

pub matches-nil : (labels : List (List ℕ)) → matches [] labels ≡ true
matches-nil [] = refl
matches-nil (label ∷ labels) = ap (λ b. false || b) (matches-nil labels)

fits_labels-append_nil : (rule : List (List ℕ)) (last : List ℕ) → fits_labels (rule ++ last ∷ []) [] ≡ false
fits_labels-append_nil [] last = refl
fits_labels-append_nil (first ∷ rule) last = refl

-- one label more on both sides
fits_labels-last : (rule labels : List (List ℕ)) (last label : List ℕ) → fits_labels (rule ++ last ∷ []) (labels ++ label ∷ []) ≡ (fits_label last label && fits_labels rule labels)
fits_labels-last [] [] last label = refl
fits_labels-last [] (l ∷ []) last label = and_false (fits_label last l) ∙ sym (and_false (fits_label last label))
fits_labels-last [] (l ∷ m ∷ labels) last label = and_false (fits_label last l) ∙ sym (and_false (fits_label last label))
fits_labels-last (r ∷ rule) [] last label = ap (λ b. fits_label r label && b) (fits_labels-append_nil rule last) ∙ and_false (fits_label r label) ∙ sym (and_false (fits_label last label))
fits_labels-last (r ∷ rule) (l ∷ labels) last label = ap (λ b. fits_label r l && b) (fits_labels-last rule labels last label) ∙ and_swap (fits_label r l) (fits_label last label) (fits_labels rule labels)

pub matches-last : (rule labels : List (List ℕ)) (last label : List ℕ) → matches (rule ++ last ∷ []) (labels ++ label ∷ []) ≡ (fits_label last label && matches rule labels)
matches-last rule [] last label = ap (λ b. b || fits_labels (rule ++ last ∷ []) []) (fits_labels-last rule [] last label) ∙ ap (λ b. (fits_label last label && fits_labels rule []) || b) (fits_labels-append_nil rule last) ∙ or_false (fits_label last label && fits_labels rule [])
matches-last rule (l ∷ labels) last label = ap (λ b. b || matches (rule ++ last ∷ []) (labels ++ label ∷ [])) (fits_labels-last rule (l ∷ labels) last label) ∙ ap (λ b. (fits_label last label && fits_labels rule (l ∷ labels)) || b) (matches-last rule labels last label) ∙ and_or (fits_label last label) (fits_labels rule (l ∷ labels)) (matches rule labels)

-- ---- at texts that were cut at their last dots

abbrev pub IsCut : List ℕ → Option (Bor (List ℕ)) → List ℕ → Type 0
IsCut text front last = MatchOption front (labels_of text ≡ last ∷ []) (λ f. labels_of text ≡ labels_of f.now ++ last ∷ [])

abbrev pub fronts_match : Option (Bor (List ℕ)) → Option (Bor (List ℕ)) → Bool
fronts_match None name = true
fronts_match (Some rule) None = false
fronts_match (Some rule) (Some name) = matches (labels_of rule.now) (labels_of name.now)

abbrev pub labels_before : Option (Bor (List ℕ)) → List (List ℕ)
labels_before None = []
labels_before (Some front) = labels_of front.now

cut_labels : (text : List ℕ) (front : Option (Bor (List ℕ))) (last : List ℕ) → IsCut text front last → labels_of text ≡ labels_before front ++ last ∷ []
cut_labels text None last h = h
cut_labels text (Some front) last h = h

-- the labels of a text are never none
matches-no_labels : (rule : Bor (List ℕ)) → matches (labels_of rule.now) [] ≡ false
matches-no_labels rule = let has = labels_of-has rule.now in ap (λ ls. matches ls []) has.is

fronts : (rule name : Option (Bor (List ℕ))) → matches (labels_before rule) (labels_before name) ≡ fronts_match rule name
fronts None name = matches-nil (labels_before name)
fronts (Some rule) None = matches-no_labels rule
fronts (Some rule) (Some name) = refl

pub matches_cut : (rule name : List ℕ) (others front : Option (Bor (List ℕ))) (last label : List ℕ) → IsCut rule others last → IsCut name front label → matches (labels_of rule) (labels_of name) ≡ (fits_label last label && fronts_match others front)
matches_cut rule name others front last label h k =
    let first : labels_of rule ≡ labels_before others ++ last ∷ [] = cut_labels rule others last h in
    let second : labels_of name ≡ labels_before front ++ label ∷ [] = cut_labels name front label k in
    ap (λ ls. matches ls (labels_of name)) first
    ∙ ap (λ ls. matches (labels_before others ++ last ∷ []) ls) second
    ∙ matches-last (labels_before others) (labels_before front) last label
    ∙ ap (λ b. fits_label last label && b) (fronts others front)

-- The labels of a host, by where its dots stand.
use Rattle.std.proofs.Common.{◌≡◌, ◌≢◌, ℕ, ◌<◌, List, [], ◌∷◌, ◌++◌, length, get_or, take, drop, true, false, eqb, cond, Option, Some, None, MatchOption, Bor, refl, sym, ap, ◌∙◌, lit<, arith}
use Rattle.std.specs.List.{All, join_with_byte, onto_first}
use Rattle.std.specs.Str.{NoCharPasses}
use Rattle.std.specs.Str.Pattern.{FindsChar, RFindsChar, SplitsAroundMatch}
use Rattle.std.proofs.lemmas.Bool.Decides.{nat_tests}
use Rattle.std.proofs.lemmas.List.{take-append-drop}
use Rattle.std.proofs.lemmas.List.Elements.{All-from_get_or}
use Rattle.std.proofs.lemmas.List.Splits.{slice_split_none, slice_split_at, join_with_byte-slice_split}
use Rattle.std.proofs.lemmas.Str.Pattern.{NoCharPasses-char, drop_at_char}
use Rattle.dnr_spec.specs.Hosts.{labels_of, is_number, ends_in_number}

-- no byte of the text is a dot
pub record HasNoDot (text : List ℕ) : Type 0 where
  pub none : (i : ℕ) → i < length text → get_or text i 0 ≢ 46

no_dot : (text : List ℕ) → HasNoDot text → All (λ b. eqb b 46 ≡ false) text
no_dot text h = All-from_get_or (λ b. eqb b 46 ≡ false) text 0 (λ i l. let ne : get_or text i 0 ≢ 46 = h.none i l in grind (arith, nat_tests))

pub labels_of-plain : (text : List ℕ) → HasNoDot text → labels_of text ≡ text ∷ []
labels_of-plain text h = slice_split_none (λ b. eqb b 46) text (no_dot text h)

pub labels_of-first : (label rest : List ℕ) → HasNoDot label → labels_of (label ++ 46 ∷ rest) ≡ label ∷ labels_of rest
labels_of-first label rest h = slice_split_at (λ b. eqb b 46) label 46 rest (no_dot label h) refl

-- a text has at least one label
pub record HasFirst (labels : List (List ℕ)) : Type 0 where
  pub first : List ℕ
  pub rest : List (List ℕ)
  pub is : labels ≡ first ∷ rest

onto_first-has : (b : ℕ) (labels : List (List ℕ)) → HasFirst (onto_first b labels)
onto_first-has b [] = record { first = b ∷ []; rest = []; is = refl }
onto_first-has b (label ∷ labels) = record { first = b ∷ label; rest = labels; is = refl }

pub labels_of-has : (text : List ℕ) → HasFirst (labels_of text)
labels_of-has [] = record { first = []; rest = []; is = refl }
labels_of-has (b ∷ text) =
    elim (eqb b 46) as (λ v. HasFirst (cond v ([] ∷ labels_of text) (onto_first b (labels_of text))))
    [ true ↦ record { first = []; rest = labels_of text; is = refl } | false ↦ onto_first-has b (labels_of text) ]

onto_first-append : (b : ℕ) (labels more : List (List ℕ)) → HasFirst labels → onto_first b (labels ++ more) ≡ onto_first b labels ++ more
onto_first-append b [] more h = cc
onto_first-append b (label ∷ labels) more h = refl

pub labels_of-last : (front label : List ℕ) → HasNoDot label → labels_of (front ++ 46 ∷ label) ≡ labels_of front ++ label ∷ []
labels_of-last [] label h = ap (λ ls. [] ∷ ls) (labels_of-plain label h)
labels_of-last (b ∷ front) label h =
    let more : labels_of (front ++ 46 ∷ label) ≡ labels_of front ++ label ∷ [] = labels_of-last front label h in
    elim (eqb b 46) as (λ v. cond v ([] ∷ labels_of (front ++ 46 ∷ label)) (onto_first b (labels_of (front ++ 46 ∷ label))) ≡ cond v ([] ∷ labels_of front) (onto_first b (labels_of front)) ++ label ∷ []) [
      | true ↦ ap (λ ls. [] ∷ ls) more
      | false ↦ ap (onto_first b) more ∙ onto_first-append b (labels_of front) (label ∷ []) (labels_of-has front)
    ]

-- the labels, joined by dots, are the text
pub join_with_byte-labels_of : (text : List ℕ) → join_with_byte 46 (labels_of text) ≡ text
join_with_byte-labels_of text = join_with_byte-slice_split 46 text

pub ends_in_number-last : (labels : List (List ℕ)) (label : List ℕ) → ends_in_number (labels ++ label ∷ []) ≡ is_number label
ends_in_number-last [] label = refl
ends_in_number-last (first ∷ []) label = refl
ends_in_number-last (first ∷ second ∷ labels) label = ends_in_number-last (second ∷ labels) label

-- ---- what `rsplit_once` gives at a dot

HasNoDot-from : (text : List ℕ) → NoCharPasses (λ d. eqb d 46) text → HasNoDot text
HasNoDot-from text h = record { none = λ i l. NoCharPasses-char 46 text i h (lit< tt) l }

pub labels_of-rsplit : (host front label : List ℕ) → SplitsAroundMatch (RFindsChar 46) host front label → labels_of host ≡ labels_of front ++ label ∷ []
labels_of-rsplit host front label (i, j, (after, at), before_is, after_is, _, _, _) =
    let seam : drop i host ≡ 46 ∷ drop j host = drop_at_char 46 host i j at (lit< tt) in
    let whole : host ≡ take i host ++ 46 ∷ drop j host = sym (take-append-drop i host) ∙ ap (λ t. take i host ++ t) seam in
    let cut : labels_of (take i host ++ 46 ∷ drop j host) ≡ labels_of (take i host) ++ drop j host ∷ [] = labels_of-last (take i host) (drop j host) (HasNoDot-from (drop j host) after) in
    ap labels_of whole ∙ cut ∙ ap (λ t. labels_of t ++ drop j host ∷ []) (sym before_is) ∙ ap (λ t. labels_of front ++ t ∷ []) (sym after_is)

pub labels_of-no_char : (host : List ℕ) → NoCharPasses (λ d. eqb d 46) host → labels_of host ≡ host ∷ []
labels_of-no_char host h = labels_of-plain host (HasNoDot-from host h)

pub labels_of-split : (host label rest : List ℕ) → SplitsAroundMatch (FindsChar 46) host label rest → labels_of host ≡ label ∷ labels_of rest
labels_of-split host label rest (i, j, (before, at), label_is, rest_is, _, _, _) =
    let seam : drop i host ≡ 46 ∷ drop j host = drop_at_char 46 host i j at (lit< tt) in
    let whole : host ≡ take i host ++ 46 ∷ drop j host = sym (take-append-drop i host) ∙ ap (λ t. take i host ++ t) seam in
    let cut : labels_of (take i host ++ 46 ∷ drop j host) ≡ take i host ∷ labels_of (drop j host) = labels_of-first (take i host) (drop j host) (HasNoDot-from (take i host) before) in
    ap labels_of whole ∙ cut ∙ ap (λ t. t ∷ labels_of (drop j host)) (sym label_is) ∙ ap (λ t. label ∷ labels_of t) (sym rest_is)

-- ---- the last label tells whether the host is an address

pub ends_in_number-split : (host last : List ℕ) (front : Option (Bor (List ℕ))) → MatchOption front (labels_of host ≡ last ∷ []) (λ f. labels_of host ≡ labels_of f.now ++ last ∷ []) → ends_in_number (labels_of host) ≡ is_number last
ends_in_number-split host last None h = ap ends_in_number h
ends_in_number-split host last (Some f) h = ap ends_in_number h ∙ ends_in_number-last (labels_of f.now) last

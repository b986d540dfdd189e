-- The first word of a text, and the words behind it.
use Rattle.std.proofs.Common.{◌≡◌, ℕ, ◌+◌, ◌<◌, ◌≤◌, List, [], ◌∷◌, ◌++◌, length, take, drop, get_or, filter, true, false, refl, sym, ap, ◌∙◌, subst, arith, All, inl, inr, add-one, append-nil, append_assoc, length-take}
use Rattle.std.specs.List.{slice_split}
use Rattle.std.proofs.Math.Seq.{drop-cons}
use Rattle.std.proofs.lemmas.Bool.{cases_lt}
use Rattle.std.proofs.lemmas.List.{take-append-drop, get_or-take}
use Rattle.std.proofs.lemmas.List.Elements.{All-from_get_or, filter-append}
use Rattle.std.proofs.lemmas.List.Splits.{slice_split_at, slice_split_none}
use Rattle.std.proofs.lemmas.Grind.{common_steps}
use Rattle.index_spec.specs.Words.{ends_word, is_filled, words_of}

inside_word : (text : List ℕ) (at : ℕ) → at ≤ length text → ((k : ℕ) → k < at → ends_word (get_or text k 0) ≡ false) → All (λ b. ends_word b ≡ false) (take at text)
inside_word text at within inside = All-from_get_or (λ b. ends_word b ≡ false) (take at text) 0 (λ k below.
    let here : k < at = omega (arith, length-take at text) in
    rw (get_or-take at text k 0 here) (inside k here))

split_on : (text : List ℕ) (at : ℕ) → at < length text → All (λ b. ends_word b ≡ false) (take at text) → ends_word (get_or text at 0) ≡ true → slice_split ends_word text ≡ take at text ∷ slice_split ends_word (drop (at + 1) text)
split_on text at inside word end =
    let whole : text ≡ take at text ++ get_or text at 0 ∷ drop (at + 1) text = sym (take-append-drop at text) ∙ ap (λ rest. take at text ++ rest) (rw (add-one, drop-cons text at 0) refl) in
    ap (slice_split ends_word) whole ∙ slice_split_at ends_word (take at text) (get_or text at 0) (drop (at + 1) text) word end

pub parts_cut : (text : List ℕ) (at : ℕ) → at ≤ length text → ((k : ℕ) → k < at → ends_word (get_or text k 0) ≡ false) → (at < length text → ends_word (get_or text at 0) ≡ true) → words_of text ≡ filter is_filled (take at text ∷ []) ++ words_of (drop (at + 1) text)
parts_cut text at within inside end =
    let word : All (λ b. ends_word b ≡ false) (take at text) = inside_word text at within inside in
    elim (cases_lt at (length text)) [
      | inl more ↦ ap (filter is_filled) (split_on text at more word (end more)) ∙ filter-append is_filled (take at text ∷ []) (slice_split ends_word (drop (at + 1) text))
      | inr all ↦
          let t : take at text ≡ text = grind (arith, common_steps) in
          let d : drop (at + 1) text ≡ [] = grind (arith, common_steps) in
          let one : slice_split ends_word text ≡ text ∷ [] = slice_split_none ends_word text (subst (All (λ b. ends_word b ≡ false)) t word) in
          rw (d, t) (ap (filter is_filled) one ∙ sym (append-nil (filter is_filled (text ∷ []))))
    ]

filled : (text : List ℕ) → 0 < length text → is_filled text ≡ true
filled [] some = absurd (omega arith)
filled (b ∷ text) some = refl

-- a word that has a byte comes first
pub word_first : (text : List ℕ) (at : ℕ) → 0 < at → at ≤ length text → ((k : ℕ) → k < at → ends_word (get_or text k 0) ≡ false) → (at < length text → ends_word (get_or text at 0) ≡ true) → words_of text ≡ take at text ∷ words_of (drop (at + 1) text)
word_first text at some within inside end =
    let has : is_filled (take at text) ≡ true = filled (take at text) (omega (arith, length-take at text)) in
    let kept : filter is_filled (take at text ∷ []) ≡ take at text ∷ [] = rw has refl in
    parts_cut text at within inside end ∙ ap (λ first. first ++ words_of (drop (at + 1) text)) kept

-- the same where the words before it are listed
pub listed_more : (before : List (List ℕ)) (all text word rest : List ℕ) → before ++ words_of text ≡ words_of all → 0 < length word → length word ≤ length text → word ≡ take (length word) text
    → ((k : ℕ) → k < length word → ends_word (get_or text k 0) ≡ false) → (length word < length text → ends_word (get_or text (length word) 0) ≡ true)
    → rest ≡ drop (length word + 1) text → (before ++ word ∷ []) ++ words_of rest ≡ words_of all
listed_more before all text word rest so_far some within is inside end behind =
    let first : words_of text ≡ word ∷ words_of rest = word_first text (length word) some within inside end ∙ ap (λ w. w ∷ words_of (drop (length word + 1) text)) (sym is) ∙ ap (λ r. word ∷ words_of r) (sym behind) in
    append_assoc before (word ∷ []) (words_of rest) ∙ ap (λ l. before ++ l) (sym first) ∙ so_far

-- The words of a body, piece by piece.
use Rattle.std.proofs.Common.{◌≡◌, ℕ, ◌<◌, List, [], ◌∷◌, ◌++◌, length, take, drop, fold, Bool, true, false, not, cond, ◌&&◌, ◌==◌, inl, inr, refl, sym, ap, ap₂, ◌∙◌, subst, arith}
use Rattle.std.specs.Char.{is_ascii_alphanumeric}
use Rattle.std.proofs.lemmas.Bool.{cases_Bool, false≢true}
use Rattle.std.proofs.lemmas.List.{map-append}
use Rattle.std.proofs.lemmas.List.Elements.{filter-append}
use Rattle.std.proofs.lemmas.List.Sums.{fold-append}
use Rattle.index_spec.specs.Words.{is_filled, is_firm, word_at, ends_firmly, firm_words, longer_of}
use Rattle.rule_index.specs.Needs.{with_bits, places_of_word, places_of_words}
use Rattle.rule_index.specs.Tokens.{tokens_in, word_or_none, is_firm_end}

word_is : (text : List ℕ) → take (length (word_at text)) text ≡ word_at text
word_is [] = refl
word_is (c ∷ rest) = elim (cases_Bool (is_ascii_alphanumeric c)) [
  | inl alnum ↦ rw alnum (ap (λ w. c ∷ w) (word_is rest))
  | inr other ↦ rw other refl
]

loose : (c : ℕ) → is_ascii_alphanumeric c ≡ false → not (c == 42) ≡ is_firm c
loose c other = sym (ap (λ b. not b && not (c == 42)) other)

firm_end : (ends : Bool) (text : List ℕ) → ends_firmly ends text ≡ is_firm_end ends (drop (length (word_at text)) text)
firm_end ends [] = refl
firm_end ends (c ∷ rest) = elim (cases_Bool (is_ascii_alphanumeric c)) [
  | inl alnum ↦ rw alnum (firm_end ends rest)
  | inr other ↦ rw other (loose c other)
]

none_within : (ends : Bool) (text : List ℕ) → firm_words false ends text ≡ firm_words false ends (drop (length (word_at text)) text)
none_within ends [] = refl
none_within ends (c ∷ rest) = elim (cases_Bool (is_ascii_alphanumeric c)) [
  | inl alnum ↦ rw alnum (none_within ends rest)
  | inr other ↦ rw other (ap (λ firm. firm_words firm ends rest) (loose c other))
]

-- ---- a piece that begins with a letter or a digit

whole : (left ends : Bool) (text : List ℕ) → is_filled (word_at text) ≡ true
    → firm_words left ends text ≡ cond (left && is_firm_end ends (drop (length (word_at text)) text)) (word_at text ∷ []) [] ++ firm_words false ends (drop (length (word_at text)) text)
whole left ends [] some = absurd (false≢true some)
whole left ends (c ∷ rest) some = elim (cases_Bool (is_ascii_alphanumeric c)) [
  | inl alnum ↦ rw alnum (ap₂ (λ e l. cond (left && e) ((c ∷ word_at rest) ∷ []) [] ++ l) (firm_end ends rest) (none_within ends rest))
  | inr other ↦ absurd (false≢true (rw other at some))
]

filled_word : (word : List ℕ) → is_filled word ≡ true → word_or_none word ≡ word ∷ []
filled_word [] some = absurd (false≢true some)
filled_word (c ∷ rest) some = refl

pub word_taken : (left ends : Bool) (text word rest : List ℕ) → is_filled (word_at text) ≡ true → word ≡ take (length (word_at text)) text → rest ≡ drop (length (word_at text)) text
    → (left && is_firm_end ends rest) ≡ true → firm_words left ends text ≡ word_or_none word ++ firm_words false ends rest
word_taken left ends text word rest some is behind firm =
    let tail = drop (length (word_at text)) text in
    let holds : (left && is_firm_end ends tail) ≡ true = subst (λ r. (left && is_firm_end ends r) ≡ true) behind firm in
    whole left ends text some
    ∙ ap (λ b. cond b (word_at text ∷ []) [] ++ firm_words false ends tail) holds
    ∙ ap (λ l. l ++ firm_words false ends tail) (sym (filled_word (word_at text) some) ∙ ap word_or_none (sym (word_is text) ∙ sym is))
    ∙ ap (λ r. word_or_none word ++ firm_words false ends r) (sym behind)

pub word_passed : (left ends : Bool) (text rest : List ℕ) → is_filled (word_at text) ≡ true → rest ≡ drop (length (word_at text)) text
    → (left && is_firm_end ends rest) ≡ false → firm_words left ends text ≡ firm_words false ends rest
word_passed left ends text rest some behind loose =
    let tail = drop (length (word_at text)) text in
    let holds : (left && is_firm_end ends tail) ≡ false = subst (λ r. (left && is_firm_end ends r) ≡ false) behind loose in
    whole left ends text some
    ∙ ap (λ b. cond b (word_at text ∷ []) [] ++ firm_words false ends tail) holds
    ∙ ap (λ r. firm_words false ends r) (sym behind)

pub some_word : (word : List ℕ) → is_filled word ≡ true → 0 < length word
some_word [] some = absurd (false≢true some)
some_word (c ∷ rest) some = omega arith

pub first_of_word : (c : ℕ) (rest : List ℕ) → is_ascii_alphanumeric c ≡ true → is_filled (word_at (c ∷ rest)) ≡ true
first_of_word c rest alnum = rw alnum refl

pub no_word : (left ends : Bool) (c : ℕ) (rest : List ℕ) → is_ascii_alphanumeric c ≡ false → firm_words left ends (c ∷ rest) ≡ firm_words (is_firm c) ends rest
no_word true ends c rest other = rw other refl
no_word false ends c rest other = refl

-- ---- words more

pub bits_more : (bits : ℕ) (words more : List (List ℕ)) → with_bits (with_bits bits (places_of_words words)) (places_of_words more) ≡ with_bits bits (places_of_words (words ++ more))
bits_more bits [] more = refl
bits_more bits (word ∷ words) more =
    bits_more (with_bits bits (places_of_word word)) words more

pub longest_more : (best : List ℕ) (words more : List (List ℕ)) → fold longer_of (fold longer_of best (tokens_in words)) (tokens_in more) ≡ fold longer_of best (tokens_in (words ++ more))
longest_more best words more =
    let joined : tokens_in (words ++ more) ≡ tokens_in words ++ tokens_in more = simp (map-append, filter-append) in
    sym (ap (fold longer_of best) joined ∙ fold-append longer_of best (tokens_in words) (tokens_in more))

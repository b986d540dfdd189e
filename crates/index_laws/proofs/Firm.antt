-- The words of a body are those that stand in it with firm ends.
use Rattle.std.proofs.Common.{◌≡◌, ℕ, ◌<◌, List, [], ◌∷◌, ◌++◌, length, Bool, true, false, not, cond, ◌&&◌, ◌==◌, inl, inr, refl, ap, ◌∙◌, arith, All, if◌then◌else◌}
use Rattle.std.specs.Char.{is_ascii_alphanumeric}
use Rattle.std.proofs.lemmas.Bool.{and_parts, cases_Bool, false≢true}
use Rattle.std.proofs.lemmas.List.Elements.{All-nil, All-cons, All-append, All-weaker}
use Rattle.index_spec.specs.Words.{is_filled, is_firm, word_at, ends_firmly, is_word_here, firm_words}
use Rattle.index_laws.specs.Stands.{AreWord, is_firm_left, is_firm_behind, IsFirmWord}

-- what stands behind the run of letters and digits at the beginning
abbrev pub behind_word : List ℕ → List ℕ
behind_word [] = []
behind_word (c ∷ rest) = if is_ascii_alphanumeric c then behind_word rest else c ∷ rest

-- a text is its first run and the rest
pub record IsRun (ends : Bool) (text : List ℕ) : Type 0 where
  pub is : text ≡ word_at text ++ behind_word text
  pub whole : AreWord (word_at text)
  pub firm : is_firm_behind ends (behind_word text) ≡ ends_firmly ends text

run : (ends : Bool) (text : List ℕ) → IsRun ends text
run ends [] = record { is = refl; whole = All-nil (λ b. is_ascii_alphanumeric b ≡ true); firm = refl }
run ends (c ∷ rest) =
    elim (cases_Bool (is_ascii_alphanumeric c)) [
      | inl inner ↦
          let r = run ends rest in
          record {
            is = rw inner (ap (λ l. c ∷ l) r.is);
            whole = rw inner (All-cons (λ b. is_ascii_alphanumeric b ≡ true) c (word_at rest) inner r.whole);
            firm = rw inner r.firm;
          }
      | inr cut ↦ record { is = rw cut refl; whole = rw cut (All-nil (λ b. is_ascii_alphanumeric b ≡ true)); firm = rw cut (ap (λ b. not b && not (c == 42)) cut) }
    ]

filled : (word : List ℕ) → is_filled word ≡ true → 0 < length word
filled [] some = absurd (false≢true some)
filled (b ∷ word) some = omega arith

-- the word that begins here
here : (ends : Bool) (text : List ℕ) → is_word_here ends text ≡ true → IsFirmWord true ends text (word_at text)
here ends text has =
    let both = and_parts (is_filled (word_at text)) (ends_firmly ends text) has in
    let r = run ends text in
    record { before = []; behind = behind_word text; is = r.is; begins = refl; ends_so = r.firm ∙ both.1; some = filled (word_at text) both.0; whole = r.whole }

-- a byte more before the word
later : (left ends : Bool) (c : ℕ) (rest word : List ℕ) → IsFirmWord (is_firm c) ends rest word → IsFirmWord left ends (c ∷ rest) word
later left ends c rest word firm = record {
  before = c ∷ firm.before;
  behind = firm.behind;
  is = ap (λ l. c ∷ l) firm.is;
  begins = begins_later firm.before firm.begins;
  ends_so = firm.ends_so;
  some = firm.some;
  whole = firm.whole;
}
  where
    begins_later : (before : List ℕ) → is_firm_left (is_firm c) before ≡ true → is_firm_left left (c ∷ before) ≡ true
    begins_later [] begins = begins
    begins_later (d ∷ before) begins = begins

first : (left ends found : Bool) (text : List ℕ) → (left && is_word_here ends text) ≡ found → All (IsFirmWord left ends text) (cond found (word_at text ∷ []) [])
first true ends true text is = All-cons (IsFirmWord true ends text) (word_at text) [] (here ends text is) (All-nil (IsFirmWord true ends text))
first false ends true text is = absurd (false≢true is)
first left ends false text is = All-nil (IsFirmWord left ends text)

pub firm_words_are : (left ends : Bool) (body : List ℕ) → All (IsFirmWord left ends body) (firm_words left ends body)
firm_words_are left ends [] = All-nil (IsFirmWord left ends [])
firm_words_are left ends (c ∷ rest) =
    All-append (IsFirmWord left ends (c ∷ rest)) _ (firm_words (is_firm c) ends rest)
    (first left ends (left && is_word_here ends (c ∷ rest)) (c ∷ rest) refl)
    (All-weaker (IsFirmWord (is_firm c) ends rest) (IsFirmWord left ends (c ∷ rest)) (λ word firm. later left ends c rest word firm) (firm_words (is_firm c) ends rest) (firm_words_are (is_firm c) ends rest))

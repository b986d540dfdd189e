-- Words that stand in texts and in filters.
use Rattle.std.specs.Prelude.{ℕ, ◌≡◌, ◌<◌, List, [], ◌∷◌, ◌++◌, length, All, Bool, true, false, not}
use Rattle.std.specs.Char.{is_ascii_alphanumeric}
use Rattle.dnr_spec.specs.Domains.{lower_case}
use Rattle.index_spec.specs.Words.{is_firm}

-- ---- in a text

-- a byte that is in no word, or the end
abbrev pub is_cut : List ℕ → Bool
is_cut [] = true
is_cut (b ∷ rest) = not (is_ascii_alphanumeric b)

abbrev pub AreWord : List ℕ → Type 0
AreWord word = All (λ b. is_ascii_alphanumeric b ≡ true) word

-- the text begins with the token, in whatever case, and with no more of a word
pub record Begins (token text : List ℕ) : Type 0 where
  pub word : List ℕ
  pub rest : List ℕ
  pub is : text ≡ word ++ rest
  pub same : lower_case word ≡ lower_case token
  pub whole : AreWord word
  pub cut : is_cut rest ≡ true

-- the token stands as a whole word behind a byte of the text that is in no word. So it is a word of every text that
-- ends with this one, which is not so of a token at the beginning
pub record Stands (token text : List ℕ) : Type 0 where
  pub before : List ℕ
  pub byte : ℕ
  pub text_behind : List ℕ
  pub is : text ≡ before ++ byte ∷ text_behind
  pub ends : is_ascii_alphanumeric byte ≡ false
  pub begins : Begins token text_behind

-- ---- in a filter

-- the last byte is firm
abbrev pub is_firm_before : List ℕ → Bool
is_firm_before [] = false
is_firm_before (c ∷ []) = is_firm c
is_firm_before (c ∷ d ∷ rest) = is_firm_before (d ∷ rest)

-- what stands before the word: nothing, where that is firm, or a firm byte last
abbrev pub is_firm_left : Bool → List ℕ → Bool
is_firm_left left [] = left
is_firm_left left (c ∷ before) = is_firm_before (c ∷ before)

-- what stands behind the word: nothing, where the filter fits up to the end alone, or a firm byte first
abbrev pub is_firm_behind : Bool → List ℕ → Bool
is_firm_behind ends [] = ends
is_firm_behind ends (c ∷ rest) = is_firm c

-- the word stands in the body, and both its ends are firm
pub record IsFirmWord (left ends : Bool) (body word : List ℕ) : Type 0 where
  pub before : List ℕ
  pub behind : List ℕ
  pub is : body ≡ before ++ (word ++ behind)
  pub begins : is_firm_left left before ≡ true
  pub ends_so : is_firm_behind ends behind ≡ true
  pub some : 0 < length word
  pub whole : AreWord word

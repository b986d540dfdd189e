-- Tokens among the words of a filter.
use Rattle.std.specs.Prelude.{ℕ, List, [], ◌∷◌, map, filter, Bool, not}
use Rattle.dnr_spec.specs.Domains.{lower_case}
use Rattle.index_spec.specs.Words.{is_common, is_firm}

-- those of the words that are not common, in lower case
abbrev pub tokens_in : List (List ℕ) → List (List ℕ)
tokens_in words = filter (λ word. not (is_common word)) (map lower_case words)

-- a word that has a byte
abbrev pub word_or_none : List ℕ → List (List ℕ)
word_or_none [] = []
word_or_none (c ∷ rest) = (c ∷ rest) ∷ []

-- a word ends firmly before this
abbrev pub is_firm_end : Bool → List ℕ → Bool
is_firm_end ends [] = ends
is_firm_end ends (c ∷ rest) = is_firm c

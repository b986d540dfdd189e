-- The places of a table that share a word with a text.
use Rattle.std.specs.Prelude.{ℕ, List, [], ◌∷◌, ◌++◌, Option, None, if◌then◌else◌}
use Rattle.key_table.specs.Pairs.{Pair, lower_case, near_of}
use Rattle.index_spec.specs.Words.{words_of, has_word}

-- the places of these words that need no more than is shown, when those words were met before
abbrev pub places_behind : List Pair → Option ℕ → List (List ℕ) → List (List ℕ) → List ℕ
places_behind pairs shown before [] = []
places_behind pairs shown before (word ∷ words) =
    (if has_word before word then [] else near_of (lower_case word) shown pairs) ++ places_behind pairs shown (before ++ word ∷ []) words

-- the places that share a word with the text and need no more than is shown: each word is asked once, in lower case
abbrev pub near_text : List Pair → Option ℕ → List ℕ → List ℕ
near_text pairs shown text = places_behind pairs shown [] (words_of text)

-- the places that share a word with the text
abbrev pub sharing_text : List Pair → List ℕ → List ℕ
sharing_text pairs text = near_text pairs None text

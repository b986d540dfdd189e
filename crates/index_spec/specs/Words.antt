-- The words of a text, and those of a urlFilter that a text which it fits must have as they are.
use Rattle.std.specs.Prelude.{ℕ, List, [], ◌∷◌, ◌++◌, length, map, filter, fold, codes, Bool, true, false, not, ◌==◌, ◌&&◌, nat_lt, Option, Some, None, if◌then◌else◌, bytes_eq}
use Rattle.std.specs.List.{slice_split, list_any}
use Rattle.std.specs.Char.{is_ascii_alphanumeric}
use Rattle.dnr_spec.specs.Domains.{lower_case}
use Rattle.dnr_spec.specs.UrlFilter.{Anchor, anywhere, begin, domain, Filter, filter_of}

-- ---- of a text

abbrev pub ends_word : ℕ → Bool
ends_word b = not (is_ascii_alphanumeric b)

abbrev pub is_filled : List ℕ → Bool
is_filled [] = false
is_filled (b ∷ rest) = true

-- the longest runs of ASCII letters and digits, from the left
abbrev pub words_of : List ℕ → List (List ℕ)
words_of text = filter is_filled (slice_split ends_word text)

-- one of the words is this one, in whatever case
abbrev pub has_word : List (List ℕ) → List ℕ → Bool
has_word words word = list_any (λ other. bytes_eq (lower_case other) (lower_case word)) words

-- ---- of a filter

-- a byte that ends a word: it is no letter, no digit and no `*`, which may stand for more of the word. So `^`, which
-- stands for a separator or the end, ends one too
abbrev pub is_firm : ℕ → Bool
is_firm c = not (is_ascii_alphanumeric c) && not (c == 42)

-- the longest run of letters and digits at the beginning
abbrev pub word_at : List ℕ → List ℕ
word_at [] = []
word_at (c ∷ rest) = if is_ascii_alphanumeric c then c ∷ word_at rest else []

-- behind that run stands a firm byte or, where the filter fits up to the end of a text alone, nothing
abbrev pub ends_firmly : Bool → List ℕ → Bool
ends_firmly ends [] = ends
ends_firmly ends (c ∷ rest) = if is_ascii_alphanumeric c then ends_firmly ends rest else is_firm c

-- a word begins here, and ends firmly
abbrev pub is_word_here : Bool → List ℕ → Bool
is_word_here ends rest = is_filled (word_at rest) && ends_firmly ends rest

-- the words of a body of which both ends are firm, from the left; `left` where what stands directly before is firm
abbrev pub firm_words : Bool → Bool → List ℕ → List (List ℕ)
firm_words left ends [] = []
firm_words left ends (c ∷ rest) =
    (if left && is_word_here ends (c ∷ rest) then word_at (c ∷ rest) ∷ [] else []) ++ firm_words (is_firm c) ends rest

-- with an anchor, nothing of a word stands before the body
abbrev pub is_anchored : Anchor → Bool
is_anchored anywhere = false
is_anchored begin = true
is_anchored domain = true

abbrev pub words_of_filter : Filter → List (List ℕ)
words_of_filter filter = firm_words (is_anchored filter.anchor) filter.ends filter.body

-- ---- the token

-- words that most URLs have, by which no rule is found
abbrev pub common_words : List (List ℕ)
common_words = codes "http" ∷ codes "https" ∷ codes "www" ∷ codes "com" ∷ []

abbrev pub is_common : List ℕ → Bool
is_common word = list_any (λ common. bytes_eq common word) common_words

abbrev pub tokens_of_filter : Filter → List (List ℕ)
tokens_of_filter text = filter (λ word. not (is_common word)) (map lower_case (words_of_filter text))

-- the longer of two words, and the first of two as long
abbrev pub longer_of : List ℕ → List ℕ → List ℕ
longer_of word other = if nat_lt (length word) (length other) then other else word

-- the longest of the words, the leftmost of several
abbrev pub longest_of : List (List ℕ) → List ℕ
longest_of words = fold longer_of [] words

-- the token of a filter that has one
abbrev pub token_of : List ℕ → Option (List ℕ)
token_of pattern = let token = longest_of (tokens_of_filter (filter_of pattern)) in if is_filled token then Some token else None

-- What a rule needs of a part of a request, and what the part shows, as bits of a number: a rule that needs a bit which is
-- not shown does not hold.
use Rattle.std.specs.Prelude.{ℕ, ◌≡◌, ◌+◌, ◌*◌, ◌%◌, ◌^◌, List, [], ◌∷◌, map, filter, fold, bit_or, true, not, Option, Some, None}
use Rattle.std.specs.List.{flat_map}
use Rattle.dnr_base.specs.declared.kind.Kind.{Kind}
use Rattle.dnr_base.specs.Kind.{all_kinds, has_kind, place_of}
use Rattle.dnr_base.specs.View.{IsView, text_of}
use Rattle.dnr_base.specs.Request.{Part}
use Rattle.dnr_spec.specs.Domains.{lower_case}
use Rattle.dnr_spec.specs.Suffixes.{SuffixRule}
use Rattle.dnr_spec.specs.UrlFilter.{filter_of}
use Rattle.rule_spec.specs.Rule.{Condition, Rule}
use Rattle.rule_spec.specs.Holds.{holds}
use Rattle.index_spec.specs.Words.{words_of, words_of_filter}
use Rattle.key_table.specs.Hash.{bucket_of, tag_of}
use Rattle.key_table.specs.Pairs.{is_within}

-- ---- bits

abbrev pub with_bit : ℕ → ℕ → ℕ
with_bit bits place = bit_or bits (2 ^ place)

abbrev pub with_bits : ℕ → List ℕ → ℕ
with_bits bits places = fold with_bit bits places

-- the low half of a tag in place of the high one
unfoldable pub low_half : ℕ → ℕ
low_half tag = tag * 2 ^ 16 % 2 ^ 32

-- the places of a word's two bits, below 112, by the two halves of its tag; several words share one
abbrev pub places_of_tag : ℕ → List ℕ
places_of_tag tag = bucket_of 112 tag ∷ bucket_of 112 (low_half tag) ∷ []

-- a word has the same in whatever case
abbrev pub places_of_word : List ℕ → List ℕ
places_of_word word = places_of_tag (tag_of (lower_case word))

abbrev pub places_of_words : List (List ℕ) → List ℕ
places_of_words words = flat_map places_of_word words

-- the bits of those of the types that are not among these
abbrev pub places_of_others : List Kind → List Kind → List ℕ
places_of_others kinds all = map (λ kind. 112 + place_of kind) (filter (λ kind. not (has_kind kinds kind)) all)

-- ---- of a rule and of a part

abbrev pub words_needed : Option (List ℕ) → List (List ℕ)
words_needed None = []
words_needed (Some pattern) = words_of_filter (filter_of pattern)

-- it needs the words of its filter, and that the type is none of those on which it does not hold
unfoldable pub needs_of : Condition → ℕ
needs_of condition = with_bits (with_bits 0 (places_of_words (words_needed condition.url_filter))) (places_of_others condition.kinds all_kinds)

-- it shows its words, and that its type is no other
unfoldable pub shown_by : Part → ℕ
shown_by part = with_bits (with_bits 0 (places_of_words (words_of (text_of part.view)))) (places_of_others (part.kind ∷ []) all_kinds)

-- what a rule that holds needs is shown
abbrev pub NeedsAreShown : Type 0
NeedsAreShown =
    (suffixes : List SuffixRule) (rule : Rule) (part : Part)
    → IsView part.view → holds suffixes rule part ≡ true
    → is_within (needs_of rule.condition) (shown_by part) ≡ true

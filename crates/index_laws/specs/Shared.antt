-- What a rule that holds on a part has in common with it.
use Rattle.std.specs.Prelude.{ℕ, ◌≡◌, ◌<◌, ◌-◌, slice_index, List, Bool, true, false, All}
use Rattle.std.specs.List.{list_any}
use Rattle.std.specs.Char.{is_ascii_alphanumeric}
use Rattle.dnr_base.specs.declared.span.Span.{Span}
use Rattle.dnr_base.specs.View.{IsView}
use Rattle.dnr_base.specs.Request.{Part}
use Rattle.dnr_spec.specs.Suffixes.{SuffixRule}
use Rattle.dnr_spec.specs.UrlFilter.{filter_of, fits}
use Rattle.rule_spec.specs.Rule.{Rule}
use Rattle.rule_spec.specs.Holds.{holds}
use Rattle.index_spec.specs.Words.{has_word, words_of, words_of_filter}
use Rattle.index_spec.specs.Keys.{has_key, keys_of_rule, keys_of_part}

-- the byte before the host is in no word
abbrev pub IsHostCut : List ℕ → Span → Type 0
IsHostCut text host = 0 < host.start → is_ascii_alphanumeric (slice_index text (host.start - 1)) ≡ false

abbrev pub FirmWordsAreShown : Type 0
FirmWordsAreShown =
    (pattern text : List ℕ) (host : Span) (fold : Bool)
    → IsHostCut text host → fits pattern text host fold ≡ true
    → All (λ word. has_word (words_of text) word ≡ true) (words_of_filter (filter_of pattern))

-- one of the rule's keys is a key of the part
abbrev pub share_a_key : Rule → Part → Bool
share_a_key rule part = list_any (has_key (keys_of_part part)) (keys_of_rule rule)

abbrev pub RulesShareAKey : Type 0
RulesShareAKey =
    (suffixes : List SuffixRule) (rule : Rule) (part : Part)
    → IsView part.view → holds suffixes rule part ≡ true
    → share_a_key rule part ≡ true

-- Examples of keys, each computed from the definitions alone.
use Rattle.std.specs.Prelude.{◌≡◌, ℕ, List, [], ◌∷◌, codes, Some, None}
use Rattle.rule_spec.specs.Rule.{Rule, block}
use Rattle.rule_spec.specs.Examples.{request_to, rule_of, extension_of, state_of}
use Rattle.index_spec.specs.Words.{words_of, token_of}
use Rattle.index_spec.specs.declared.key.Key.TheVariants.{Token}
use Rattle.index_spec.specs.Keys.{domains_over, keys_of_rule}
use Rattle.index_spec.specs.Pairs.{pairs_of}

-- a block of one host, by the domain anchor
abbrev pub block_of : ℕ → List ℕ → Rule
block_of id filter = rule_of id 1 filter block

-- A number that is longer than the last label is its rule's key, and of two as long the first is.
abbrev pub EachNumberIsAKey : Type 0
EachNumberIsAKey =
    (keys_of_rule (block_of 1 (codes "||h12345.test^")) ≡ Token (codes "h12345") ∷ [])
    × (keys_of_rule (block_of 1 (codes "||h123.test^")) ≡ Token (codes "h123") ∷ [])
    × (keys_of_rule (block_of 1 (codes "||h12.test^")) ≡ Token (codes "test") ∷ [])

-- So a request meets the rule of its own number, and those of short numbers.
abbrev pub NumbersShareTheLastLabel : Type 0
NumbersShareTheLastLabel =
    pairs_of (state_of (extension_of (codes "a")
    (block_of 1 (codes "||h1.test^") ∷ block_of 2 (codes "||h12.test^") ∷ block_of 3 (codes "||h123.test^") ∷ block_of 4 (codes "||h12345.test^") ∷ []) ∷ []))
    (request_to (codes "h12345.test") [] None)
    ≡ 3

-- A word beside a star may be a part of a longer one, and so may one at an end without an anchor.
abbrev pub WordsBesideStarsAreNoTokens : Type 0
WordsBesideStarsAreNoTokens =
    (token_of (codes "*ads") ≡ None) × (token_of (codes "/Ads/") ≡ Some (codes "ads")) × (token_of (codes "ads^") ≡ None)
    × (token_of (codes "|ads^") ≡ Some (codes "ads")) × (token_of (codes "^ads") ≡ None) × (token_of (codes "^ads|") ≡ Some (codes "ads"))
    × (token_of (codes "/track*/x1/") ≡ Some (codes "x1"))

-- Words of most URLs are no tokens.
abbrev pub CommonWordsAreNoTokens : Type 0
CommonWordsAreNoTokens =
    (token_of (codes "||www.com^") ≡ None) × (token_of (codes "|https://www.ex.com/") ≡ Some (codes "ex"))
    × (words_of (codes "http://www.a.com/") ≡ codes "http" ∷ codes "www" ∷ codes "a" ∷ codes "com" ∷ [])

-- A host is asked for by itself and by each rest.
abbrev pub HostsAreAskedByTheirRests : Type 0
HostsAreAskedByTheirRests =
    (domains_over (codes "a.b.com") ≡ codes "a.b.com" ∷ codes "b.com" ∷ codes "com" ∷ []) × (domains_over (codes "com.") ≡ codes "com." ∷ codes "" ∷ [])

-- An address is asked for by itself alone.
abbrev pub AddressesHaveNoRests : Type 0
AddressesHaveNoRests =
    (domains_over (codes "1.2.3.4") ≡ codes "1.2.3.4" ∷ []) × (domains_over (codes "[::1.2]") ≡ codes "[::1.2]" ∷ [])

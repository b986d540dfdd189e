-- The first match of a pattern. Its syntax and its meaning are those of the crate `regex`, which are defined
-- in `regex_syntax`, `specs/Grammar.antt`, and `regex_hir`, `specs/Find.antt`: Rust's syntax, with leftmost-first
-- matches. Which pattern a `regexFilter` is, says Chrome's reference, `RuleCondition.regexFilter`.
use Rattle.std.specs.Prelude.{◌≡◌, ℕ, zero, suc, ◌+◌, ◌-◌, ◌*◌, ◌≤◌, List, [], ◌∷◌, length, map, All, slice_index_or, Bool, false, nat_le, Option, Some, None, IsSome, IfSome, option_map, option_and_then, if◌then◌else◌}
use Rattle.std.specs.Str.{chars}
use Rattle.regex.specs.Patterns.{Re, Match, Config, find_str, slot_of, default_config}
use Rattle.regex.specs.Writes.{both}
use Rattle.regex_syntax.specs.Grammar.{read}
use Rattle.dnr_base.specs.declared.span.Span.{Span}

-- ---- which texts are patterns

-- the crate's options, with `fold` where the case of letters does not matter
abbrev pub options : Bool → Config
options fold = record default_config { flags = record default_config.flags { case_insensitive = fold } }

-- the pattern that the grammar reads in a text, and its count of groups besides the whole match; none where
-- it reads none, or one that is nested deeper than 250
unfoldable pub pattern_in : List ℕ → Bool → Option (Re × ℕ)
pattern_in pattern fold =
    option_and_then (λ (re, names). if nat_le re.depth 250 then Some (re.value, length names - 1) else None)
    (read (options fold) (chars pattern))

-- the count of groups of a pattern besides the whole match, or none where the text is no pattern
unfoldable pub groups_of : List ℕ → Option ℕ
groups_of pattern = option_map (λ p. p.1) (pattern_in pattern false)

-- ---- where they match first

-- where a match starts, where it ends, and what its slots hold: group n starts at slot 2 n and ends at the
-- next one
abbrev pub Ends : Type 0
Ends = ℕ × ℕ × (ℕ → Option ℕ)

abbrev pub ends_of : Match → Ends
ends_of m = (m.start, m.trace.end, slot_of m)

abbrev pub span_of : ℕ × ℕ → Span
span_of p = record { start = p.0; end = p.1 }

-- where group n stands, if it took part; group 0 is the whole match
abbrev pub group_place : Ends → ℕ → Option Span
group_place ends zero = Some (span_of (ends.0, ends.1))
group_place ends (suc n) = option_map span_of (both (ends.2 (2 * suc n)) (ends.2 (2 * suc n + 1)))

-- the numbers of the groups that a substitution can name
abbrev pub group_numbers : List ℕ
group_numbers = 0 ∷ 1 ∷ 2 ∷ 3 ∷ 4 ∷ 5 ∷ 6 ∷ 7 ∷ 8 ∷ 9 ∷ []

-- where groups 0 to 9 stand, in a pattern with this count of groups: those above it stand nowhere
abbrev pub places : ℕ → Ends → List (Option Span)
places count ends = map (λ n. if nat_le n count then group_place ends n else None) group_numbers

-- the places of the first match of a pattern with this count of groups
abbrev pub first_places : Re → ℕ → List ℕ → Option (List (Option Span))
first_places re count text = option_map (λ m. places count (ends_of m)) (find_str re text 0)

-- the places of groups 0 to 9 of the first match in a text; none where there is no match, or no pattern
unfoldable pub found : List ℕ → Bool → List ℕ → Option (List (Option Span))
found pattern fold text = option_and_then (λ p. first_places p.0 p.1 text) (pattern_in pattern fold)

-- ---- what holds of such places

abbrev pub IsSpanIn : List ℕ → Span → Type 0
IsSpanIn text span = (span.start ≤ span.end) × (span.end ≤ length text)

-- there are ten, each that took part lies in the text, and the whole match took part
pub record ArePlacesIn (text : List ℕ) (spans : List (Option Span)) : Type 0 where
  pub count : length spans ≡ 10
  pub whole : IsSome (slice_index_or spans 0 None)
  pub inside : All (λ span. IfSome span (IsSpanIn text)) spans

-- Tests of response headers: Chrome's reference, `RuleCondition.responseHeaders` and `HeaderInfo`. That a pattern fits a
-- whole value, and what `*`, `?` and `\` stand for in it, is this project's profile.
use Rattle.std.specs.Prelude.{ℕ, List, [], ◌∷◌, length, map, filter, bytes_eq, Bool, true, false, not, ◌==◌, ◌&&◌, ◌||◌, nat_lt, nat_le, Option, Some, None, if◌then◌else◌}
use Rattle.std.specs.List.{list_all, list_any}
use Rattle.std.specs.Option.{option_map_or}
use Rattle.std.specs.Char.{is_ascii}
use Rattle.std.specs.Str.{str_to_ascii_lowercase}
use Rattle.dnr_base.specs.declared.header.Header.{Header}
use Rattle.dnr_base.specs.Request.{is_short_name}
use Rattle.dnr_spec.specs.declared.piece.Piece.{Piece}
use Rattle.dnr_spec.specs.declared.piece.Piece.TheVariants.{AnyBytes, AtMostOne, Byte}
use Rattle.dnr_spec.specs.Headers.{is_name}
use Rattle.dnr_spec.specs.Wildcards.{takes}

-- ---- patterns of values

abbrev pub max_value_pattern : ℕ
max_value_pattern = 8192

-- `*`, `?` and `\`
abbrev pub is_special : ℕ → Bool
is_special b = b == 42 || b == 63 || b == 92

-- behind each `\` that is not plain itself stands a byte that it makes plain; `escaped` where one stands before the text
abbrev pub escapes_well : Bool → List ℕ → Bool
escapes_well escaped [] = not escaped
escapes_well true (b ∷ text) = is_special b && escapes_well false text
escapes_well false (b ∷ text) = escapes_well (b == 92) text

-- a text that is a pattern of values
abbrev pub is_value_pattern : List ℕ → Bool
is_value_pattern text = nat_le (length text) max_value_pattern && list_all is_ascii text && escapes_well false text

-- what a byte stands for that no `\` makes plain
abbrev pub piece_of : ℕ → Piece
piece_of b = if b == 42 then AnyBytes else (if b == 63 then AtMostOne else Byte b)

-- `escaped` where a `\` stands before the text
abbrev pub pieces_from : Bool → List ℕ → List Piece
pieces_from escaped [] = []
pieces_from true (b ∷ text) = Byte b ∷ pieces_from false text
pieces_from false (b ∷ text) = if b == 92 then pieces_from true text else piece_of b ∷ pieces_from false text

-- the pieces of a pattern
unfoldable pub pieces_of : List ℕ → List Piece
pieces_of pattern = pieces_from false pattern

-- the pattern fits the whole value, whatever the case of letters
abbrev pub fits_value : List ℕ → List ℕ → Bool
fits_value pattern value = takes true (pieces_of pattern) value

-- ---- tests

-- a header, the patterns of which its values must fit some, if they are given, and those that none may fit
pub record HeaderTest : Type 0 where
  pub name : List ℕ
  pub values : Option (List (List ℕ))
  pub excluded : List (List ℕ)

-- the values of the headers of a name
abbrev pub values_of : List ℕ → List Header → List (List ℕ)
values_of name headers = map (λ header. header.value) (filter (λ header. bytes_eq header.name name) headers)

-- one of the patterns fits the value
abbrev pub fits_some : List (List ℕ) → List ℕ → Bool
fits_some patterns value = list_any (λ pattern. fits_value pattern value) patterns

-- no patterns are given, or one of them fits one of the values
abbrev pub some_fits : Option (List (List ℕ)) → List (List ℕ) → Bool
some_fits None values = true
some_fits (Some patterns) values = list_any (fits_some patterns) values

-- the list has a header of the name, with a value that is asked for and none that is excluded
unfoldable pub test_holds : HeaderTest → List Header → Bool
test_holds test headers =
    nat_lt 0 (length (values_of test.name headers))
    && some_fits test.values (values_of test.name headers)
    && not (list_any (fits_some test.excluded) (values_of test.name headers))

-- one of the tests holds on the headers
abbrev pub some_test_holds : List HeaderTest → List Header → Bool
some_test_holds tests headers = list_any (λ test. test_holds test headers) tests

-- ---- which tests are read

-- the patterns, if they are given, are some
abbrev pub are_given_whole : Option (List (List ℕ)) → Bool
are_given_whole values = option_map_or (λ patterns. nat_lt 0 (length patterns)) values true

abbrev pub are_value_patterns : List (List ℕ) → Bool
are_value_patterns patterns = list_all is_value_pattern patterns

-- its name is a field name (RFC 9110, section 5.1) that is not too long, and its patterns are such
abbrev pub is_header_test : HeaderTest → Bool
is_header_test test =
    is_name test.name && option_map_or are_value_patterns test.values true && are_value_patterns test.excluded

-- as it is kept: its name is in lower case
abbrev pub in_lower_case : HeaderTest → HeaderTest
in_lower_case test = record test { name = str_to_ascii_lowercase test.name }

-- what every test keeps
unfoldable pub is_kept_test : HeaderTest → Bool
is_kept_test test = is_short_name test.name && are_given_whole test.values && is_header_test test

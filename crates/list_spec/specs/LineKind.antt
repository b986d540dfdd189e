-- The kind of a line of a filter list: Adblock Plus, "How to write filters".
use Rattle.std.specs.Prelude.{ℕ, ◌-◌, List, [], ◌∷◌, length, take, drop, reverse, codes, Bool, false, not, ◌==◌, ◌&&◌, ◌||◌, nat_lt, nat_le, nat_eq, Option, None, Some, is_some, unwrap_or, if◌then◌else◌}
use Rattle.std.specs.List.{starts_with, ends_with, list_any, list_all}
use Rattle.std.specs.Char.{is_ascii}
use Rattle.dnr_base.specs.declared.kind.Kind.{Kind}
use Rattle.dnr_base.specs.Kind.{default_kinds}
use Rattle.dnr_spec.specs.UrlFilter.{max_pattern}
use Rattle.list_spec.specs.declared.domain_entry.DomainEntry.{DomainEntry}
use Rattle.list_spec.specs.declared.reason.Reason.{Reason}
use Rattle.list_spec.specs.declared.reason.Reason.TheVariants.{LineTooLong, ElementHiding, NotAscii, Space, EmptyPattern, AnchorStar}
use Rattle.list_spec.specs.Pieces.{pieces_of, before_place, behind_place}
use Rattle.list_spec.specs.Options.{Asked, Written, asked_of, first_fault, options_in, options_place}

-- ---- what a line may be

-- which URLs a filter matches: all, those that a filter of Chrome's `urlFilter` matches, or those in which a
-- regular expression finds a match, here without the slashes round it
pub data FilterPattern : Type 0 where
  every_url : FilterPattern
  plain : List ℕ → FilterPattern
  regex : List ℕ → FilterPattern

-- `kinds` are the types of requests, in the order of the reference; `document` where the exception holds for
-- all that a page loads
pub record FilterLine : Type 0 where
  pub exception : Bool
  pub pattern : FilterPattern
  pub match_case : Bool
  pub third_party : Option Bool
  pub domains : List DomainEntry
  pub kinds : List Kind
  pub document : Bool

pub data Line : Type 0 where
  blank : Line
  comment : Line
  header : Line
  filter_line : FilterLine → Line
  unsupported : Reason → Line

-- ---- lines

-- a list is cut into lines at LF alone
abbrev pub lines_of : List ℕ → List (List ℕ)
lines_of bytes = pieces_of 10 bytes

-- spaces, tabs and CR are cut off at both ends of a line
abbrev pub is_cut_off : ℕ → Bool
is_cut_off b = b == 32 || b == 9 || b == 13

abbrev pub without_front : List ℕ → List ℕ
without_front [] = []
without_front (b ∷ text) = if is_cut_off b then without_front text else b ∷ text

abbrev pub trimmed : List ℕ → List ℕ
trimmed bytes = reverse (without_front (reverse (without_front bytes)))

-- ---- lines that are no filters

abbrev pub max_list_line : ℕ
max_list_line = 65536

abbrev pub is_header : List ℕ → Bool
is_header text = starts_with nat_eq text (codes "[Adblock") && ends_with nat_eq text (codes "]")

-- what separates the domains of a page from what is hidden on it
abbrev pub hiding_separators : List (List ℕ)
hiding_separators = codes "##" ∷ codes "#@#" ∷ codes "#?#" ∷ codes "#$#" ∷ codes "#%#" ∷ []

abbrev pub begins_hiding : List ℕ → Bool
begins_hiding text = list_any (λ separator. starts_with nat_eq text separator) hiding_separators

-- such a separator stands at some place
abbrev pub hides : List ℕ → Bool
hides [] = false
hides (b ∷ rest) = begins_hiding (b ∷ rest) || hides rest

-- white space or a control character
abbrev pub is_space : ℕ → Bool
is_space b = nat_le b 32 || b == 127

-- ---- filters

-- a regular expression stands between slashes
abbrev pub is_regex : List ℕ → Bool
is_regex text = nat_le 3 (length text) && starts_with nat_eq text (codes "/") && ends_with nat_eq text (codes "/")

abbrev pub pattern_of : List ℕ → FilterPattern
pattern_of text =
    if length text == 0 then every_url
    else (if is_regex text then regex (take (length text - 2) (drop 1 text)) else plain text)

-- the filter of a pattern and options without fault; types that no option speaks of are all but `main_frame`
abbrev pub filter_asked : Bool → List ℕ → Asked → FilterLine
filter_asked exception pattern asked =
    record {
      exception = exception;
      pattern = pattern_of pattern;
      match_case = asked.match_case;
      third_party = asked.third_party;
      domains = asked.domains;
      kinds = unwrap_or asked.types default_kinds;
      document = asked.document;
    }

-- where no option is at fault: the first fault of the pattern, or the filter
abbrev pub line_of_pattern : Bool → List ℕ → Bool → Asked → Line
line_of_pattern exception pattern has_options asked =
    if length pattern == 0 && not has_options then unsupported EmptyPattern
    else (if nat_lt max_pattern (length pattern) then unsupported LineTooLong
    else (if starts_with nat_eq pattern (codes "||*") then unsupported AnchorStar
    else filter_line (filter_asked exception pattern asked)))

abbrev pub line_of_options : Bool → List ℕ → Bool → List Written → Option Reason → Line
line_of_options exception pattern has_options options (Some reason) = unsupported reason
line_of_options exception pattern has_options options None = line_of_pattern exception pattern has_options (asked_of options)

-- a filter behind its `@@`, with its options behind this place
abbrev pub line_cut : Bool → List ℕ → Option ℕ → Line
line_cut exception text place =
    let options = options_in (behind_place place text) in
    line_of_options exception (before_place place text) (is_some place) options (first_fault exception false options)

-- `@@` begins an exception
abbrev pub is_exception : List ℕ → Bool
is_exception text = starts_with nat_eq text (codes "@@")

abbrev pub filter_body : List ℕ → List ℕ
filter_body text = if is_exception text then drop 2 text else text

abbrev pub filter_of : List ℕ → Line
filter_of text = line_cut (is_exception text) (filter_body text) (options_place (filter_body text))

-- ---- the kind of a line

-- the first case that applies to a line without white space at its ends
abbrev pub line_of_trimmed : List ℕ → Line
line_of_trimmed text =
    if length text == 0 then blank
    else (if starts_with nat_eq text (codes "!") then comment
    else (if is_header text then header
    else (if hides text then unsupported ElementHiding
    else (if not (list_all is_ascii text) then unsupported NotAscii
    else (if list_any is_space text then unsupported Space else filter_of text)))))

-- the kind of a line that stands without its LF
abbrev pub line_of : List ℕ → Line
line_of bytes = if nat_lt max_list_line (length bytes) then unsupported LineTooLong else line_of_trimmed (trimmed bytes)

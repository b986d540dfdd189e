-- A urlFilter, and whether it fits a text: Chrome's reference, `RuleCondition.urlFilter`.
use Rattle.std.specs.Prelude.{ℕ, suc, zero, ◌-◌, List, [], ◌∷◌, length, take, drop, slice_index, codes, Bool, true, false, not, ◌==◌, ◌&&◌, ◌||◌, nat_lt, nat_le, nat_eq, Result, Ok, Err, if◌then◌else◌}
use Rattle.std.specs.List.{starts_with, list_all}
use Rattle.std.specs.Char.{is_ascii, to_ascii_lowercase}
use Rattle.dnr_base.specs.declared.span.Span.{Span}
use Rattle.dnr_spec.specs.declared.pattern_refusal.PatternRefusal.{PatternRefusal}
use Rattle.dnr_spec.specs.declared.pattern_refusal.PatternRefusal.TheVariants.{Empty, TooLong, AnchorStar, NotAscii}

-- ---- what a filter says

-- where a filter may begin to fit: at any place, at the beginning of the text, or at the beginning of
-- the host or of one of its subdomains
pub data Anchor : Type 0 where
  anywhere : Anchor
  begin : Anchor
  domain : Anchor

-- `ends` where the filter fits up to the end of the text alone
pub record Filter : Type 0 where
  pub anchor : Anchor
  pub body : List ℕ
  pub ends : Bool

abbrev pub anchor_of : List ℕ → Anchor
anchor_of text = if starts_with nat_eq text (codes "||") then domain else (if starts_with nat_eq text (codes "|") then begin else anywhere)

-- how many bytes the anchor takes
abbrev pub anchor_len : Anchor → ℕ
anchor_len anywhere = 0
anchor_len begin = 1
anchor_len domain = 2

abbrev pub has_end_anchor : List ℕ → Bool
has_end_anchor rest = nat_lt 0 (length rest) && slice_index rest (length rest - 1) == 124

-- what stands behind the anchor, of which a last `|` is the end anchor
abbrev pub with_anchor : Anchor → List ℕ → Filter
with_anchor anchor rest =
    if has_end_anchor rest then record { anchor = anchor; body = take (length rest - 1) rest; ends = true }
    else record { anchor = anchor; body = rest; ends = false }

-- the filter of a text, read from the left
abbrev pub filter_of : List ℕ → Filter
filter_of text = with_anchor (anchor_of text) (drop (anchor_len (anchor_of text)) text)

-- ---- whether it fits

-- `^` stands for any byte but a letter, a digit, `_`, `-`, `.` and `%`
abbrev pub is_letter : ℕ → Bool
is_letter b = (nat_le 97 b && nat_le b 122) || (nat_le 65 b && nat_le b 90)

abbrev pub is_digit : ℕ → Bool
is_digit b = nat_le 48 b && nat_le b 57

abbrev pub is_separator : ℕ → Bool
is_separator b = not (is_letter b || is_digit b || b == 95 || b == 45 || b == 46 || b == 37)

-- under folding, ASCII letters are one in both cases
abbrev pub is_same : Bool → ℕ → ℕ → Bool
is_same fold a b = if fold then to_ascii_lowercase a == to_ascii_lowercase b else a == b

-- the test passes at some end of the text, the empty one included
abbrev pub some_end : (List ℕ → Bool) → List ℕ → Bool
some_end test [] = test []
some_end test (b ∷ rest) = test (b ∷ rest) || some_end test rest

-- a separator stands here and the test passes behind it, or the text ends here and the test passes
abbrev pub at_separator : (List ℕ → Bool) → List ℕ → Bool
at_separator test [] = test []
at_separator test (b ∷ rest) = is_separator b && test rest

-- this byte stands here and the test passes behind it
abbrev pub at_byte : Bool → ℕ → (List ℕ → Bool) → List ℕ → Bool
at_byte fold c test [] = false
at_byte fold c test (b ∷ rest) = is_same fold b c && test rest

abbrev pub is_nothing : List ℕ → Bool
is_nothing [] = true
is_nothing (b ∷ rest) = false

-- the body fits a beginning of this rest of the text, or all of it where `ends` is true
abbrev pub fits_at : Bool → Bool → List ℕ → List ℕ → Bool
fits_at ends fold [] rest = not ends || is_nothing rest
fits_at ends fold (c ∷ body) rest =
    if c == 42 then some_end (fits_at ends fold body) rest
    else (if c == 94 then at_separator (fits_at ends fold body) rest else at_byte fold c (fits_at ends fold body) rest)

-- the test passes at some number below this one
abbrev pub some_below : (ℕ → Bool) → ℕ → Bool
some_below test zero = false
some_below test (suc n) = test n || some_below test n

-- a `.` of the host stands before this place
abbrev pub follows_dot : List ℕ → Span → ℕ → Bool
follows_dot text host place = nat_lt host.start place && slice_index text (place - 1) == 46

-- the filter fits the text, in which the host stands there, from a place at which its anchor lets it begin: with
-- `||` from the host's start, even of an empty host, or from a place inside the host that follows a dot of it
abbrev pub fits_from : Anchor → Bool → Bool → List ℕ → List ℕ → Span → Bool
fits_from anywhere ends fold body text host = some_end (fits_at ends fold body) text
fits_from begin ends fold body text host = fits_at ends fold body text
fits_from domain ends fold body text host =
    fits_at ends fold body (drop host.start text)
    || some_below (λ place. follows_dot text host place && fits_at ends fold body (drop place text)) host.end

-- the filter of the pattern fits the text; `fold` where the case of letters does not matter
abbrev pub fits : List ℕ → List ℕ → Span → Bool → Bool
fits pattern text host fold =
    let filter = filter_of pattern in fits_from filter.anchor filter.ends fold filter.body text host

-- ---- which texts are filters

abbrev pub max_pattern : ℕ
max_pattern = 8192

-- the pattern of a text, or the first reason that it is none
abbrev pub pattern_of : List ℕ → Result (List ℕ) PatternRefusal
pattern_of text =
    if length text == 0 then Err Empty
    else (if nat_lt max_pattern (length text) then Err TooLong
    else (if starts_with nat_eq text (codes "||*") then Err AnchorStar
    else (if list_all is_ascii text then Ok text else Err NotAscii)))

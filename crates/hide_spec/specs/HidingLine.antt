-- Lines of a filter list that hide elements of a page: Adblock Plus, "How to write filters", "Element hiding", by which
-- EasyList is written.
use Rattle.std.specs.Prelude.{ℕ, List, [], ◌∷◌, map, length, drop, take, reverse, codes, suc, Bool, true, false, not, ◌==◌, ◌||◌, nat_lt, nat_eq, Option, Some, None, option_map, if◌then◌else◌}
use Rattle.std.specs.List.{starts_with, list_all}
use Rattle.std.specs.Str.{is_utf8}
use Rattle.dnr_spec.specs.Domains.{is_domain}
use Rattle.list_spec.specs.declared.domain_entry.DomainEntry.{DomainEntry}
use Rattle.list_spec.specs.Pieces.{pieces_of}
use Rattle.list_spec.specs.Entries.{entry_of, has_conflict}
use Rattle.list_spec.specs.LineKind.{max_list_line, trimmed, is_header, begins_hiding}
use Rattle.hide_spec.specs.declared.hide_reason.HideReason.{HideReason}
use Rattle.hide_spec.specs.declared.hide_reason.HideReason.TheVariants.{LineTooLong, HideSyntax, NotUtf8, BadDomain, EmptySelector, BothDomains}

-- ---- what a line may be

-- Elements that the selector names are hidden, or an exception keeps them: on the pages that `domains` speak of.
pub record HidingLine : Type 0 where
  pub exception : Bool
  pub domains : List DomainEntry
  pub selector : List ℕ

-- a line that says nothing of elements is `other`
pub data HideLine : Type 0 where
  other : HideLine
  hiding : HidingLine → HideLine
  unsupported : HideReason → HideLine

-- ---- the parts of a line

-- the leftmost place at which one of the five separators stands
abbrev pub separator_place : List ℕ → Option ℕ
separator_place [] = None
separator_place (b ∷ rest) = if begins_hiding (b ∷ rest) then Some 0 else option_map suc (separator_place rest)

-- domains stand between commas, an excluded one behind a `~`; none may stand there
abbrev pub hide_entries : List ℕ → List DomainEntry
hide_entries text = if length text == 0 then [] else map entry_of (pieces_of 44 text)

-- spaces and tabs are cut off at both ends of a selector
abbrev pub is_space_or_tab : ℕ → Bool
is_space_or_tab b = b == 32 || b == 9

abbrev pub behind_spaces : List ℕ → List ℕ
behind_spaces [] = []
behind_spaces (b ∷ text) = if is_space_or_tab b then behind_spaces text else b ∷ text

abbrev pub selector_of : List ℕ → List ℕ
selector_of text = reverse (behind_spaces (reverse (behind_spaces text)))

-- ---- the first reason

-- of a line whose separator is `##` or `#@#`
abbrev pub hide_fault : HidingLine → Option HideReason
hide_fault line =
    if not (is_utf8 line.selector) then Some NotUtf8
    else (if not (list_all (λ entry. is_domain entry.domain) line.domains) then Some BadDomain
    else (if length line.selector == 0 then Some EmptySelector
    else (if has_conflict line.domains then Some BothDomains else None)))

abbrev pub unless_fault : HidingLine → Option HideReason → HideLine
unless_fault line None = hiding line
unless_fault line (Some reason) = unsupported reason

abbrev pub hiding_unless_fault : HidingLine → HideLine
hiding_unless_fault line = unless_fault line (hide_fault line)

-- ---- the kind of a line

abbrev pub hiding_line : Bool → List ℕ → List ℕ → HidingLine
hiding_line exception before behind =
    record { exception = exception; domains = hide_entries before; selector = selector_of behind }

-- a line by what stands before its separator and from there on: `##` hides, `#@#` makes an exception, and the other
-- separators belong to the syntaxes of other blockers
abbrev pub line_parted : List ℕ → List ℕ → HideLine
line_parted before here =
    if starts_with nat_eq here (codes "##") then hiding_unless_fault (hiding_line false before (drop 2 here))
    else (if starts_with nat_eq here (codes "#@#") then hiding_unless_fault (hiding_line true before (drop 3 here))
    else unsupported HideSyntax)

-- a line without a separator is no hiding line
abbrev pub line_parted_at : List ℕ → Option ℕ → HideLine
line_parted_at text None = other
line_parted_at text (Some place) = line_parted (take place text) (drop place text)

-- a line without white space at its ends: it may be blank, a comment or a list's header
abbrev pub hide_line_of_trimmed : List ℕ → HideLine
hide_line_of_trimmed text =
    if length text == 0 then other
    else (if starts_with nat_eq text (codes "!") then other
    else (if is_header text then other else line_parted_at text (separator_place text)))

-- a line that stands without its LF
abbrev pub hide_line_of : List ℕ → HideLine
hide_line_of bytes = if nat_lt max_list_line (length bytes) then unsupported LineTooLong else hide_line_of_trimmed (trimmed bytes)

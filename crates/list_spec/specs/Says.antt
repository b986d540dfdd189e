-- What a filter list says of a request: Adblock Plus, "How to write filters". It speaks of lines alone, and of no
-- rules.
use Rattle.std.specs.Prelude.{ℕ, ◌+◌, List, [], ◌∷◌, length, filter, Bool, true, false, not, ◌&&◌, ◌||◌, nat_le, Option, Some, None, is_some, if◌then◌else◌}
use Rattle.std.specs.List.{list_all, list_any, filter_map}
use Rattle.dnr_base.specs.declared.frame.Frame.{Frame}
use Rattle.dnr_base.specs.declared.request.Request.{Request}
use Rattle.dnr_base.specs.declared.kind.Kind.TheVariants.{MainFrame, SubFrame}
use Rattle.dnr_base.specs.Kind.{has_kind, same_kind}
use Rattle.dnr_base.specs.View.{View, text_of, host_of}
use Rattle.dnr_base.specs.Request.{Part, own_part, frame_part_of}
use Rattle.dnr_spec.specs.UrlFilter.{fits}
use Rattle.dnr_spec.specs.Patterns.{found, groups_of}
use Rattle.dnr_spec.specs.Domains.{covers}
use Rattle.dnr_spec.specs.Suffixes.{SuffixRule}
use Rattle.dnr_spec.specs.Party.{is_third_party}
use Rattle.list_spec.specs.declared.domain_entry.DomainEntry.{DomainEntry}
use Rattle.list_spec.specs.declared.reason.Reason.{Reason}
use Rattle.list_spec.specs.declared.reason.Reason.TheVariants.{BadRegex}
use Rattle.list_spec.specs.LineKind.{FilterPattern, every_url, plain, regex, FilterLine, Line, blank, comment, header, filter_line, unsupported, line_of}

-- ---- the filters of a list

-- the most bytes of a regular expression, without its slashes
abbrev pub max_regex : ℕ
max_regex = 4096

-- a regular expression is one that the grammar of `regex` reads, and not too long
abbrev pub is_usable : FilterPattern → Bool
is_usable every_url = true
is_usable (plain pattern) = true
is_usable (regex pattern) = nat_le (length pattern) max_regex && is_some (groups_of pattern)

-- the filter of a line; a line that is none, or has a pattern that can't be used, gives none
abbrev pub filter_in : Line → Option FilterLine
filter_in blank = None
filter_in comment = None
filter_in header = None
filter_in (filter_line filter) = if is_usable filter.pattern then Some filter else None
filter_in (unsupported reason) = None

abbrev pub filters_of : List (List ℕ) → List FilterLine
filters_of lines = filter_map (λ line. filter_in (line_of line)) lines

-- why a line that is neither blank nor a comment nor a header gives no filter
abbrev pub reason_of : Line → Option Reason
reason_of blank = None
reason_of comment = None
reason_of header = None
reason_of (filter_line filter) = if is_usable filter.pattern then None else Some BadRegex
reason_of (unsupported reason) = Some reason

-- ---- a filter matches

-- case matters only where `match-case` is given
abbrev pub matches_url : FilterPattern → Bool → View → Bool
matches_url every_url case view = true
matches_url (plain pattern) case view = fits pattern (text_of view) view.host (not case)
matches_url (regex pattern) case view = is_some (found pattern (not case) (text_of view))

abbrev pub is_party : Option Bool → Bool → Bool
is_party None third = true
is_party (Some true) third = third
is_party (Some false) third = not third

-- the entries whose domain covers the host
abbrev pub covering : List DomainEntry → List ℕ → List DomainEntry
covering entries host = filter (λ entry. covers entry.domain host) entries

-- no domain of the entries is longer
abbrev pub is_longest : List DomainEntry → DomainEntry → Bool
is_longest entries entry = list_all (λ other. nat_le (length other.domain) (length entry.domain)) entries

-- where no entry covers the host, the filter is for it unless some domain is listed without `~`
abbrev pub lists_none : List DomainEntry → Bool
lists_none entries = list_all (λ entry. entry.excluded) entries

-- of the entries that cover the host the longest decides
abbrev pub longest_is_listed : List DomainEntry → List DomainEntry → Bool
longest_is_listed entries [] = lists_none entries
longest_is_listed entries (first ∷ others) = list_any (λ entry. not entry.excluded && is_longest (first ∷ others) entry) (first ∷ others)

-- the filter is for pages of the initiator's host
abbrev pub is_for : List DomainEntry → Option (List ℕ) → Bool
is_for entries None = lists_none entries
is_for entries (Some host) = longest_is_listed entries (covering entries host)

-- the filter matches the part, whatever the types
abbrev pub matches : List SuffixRule → FilterLine → Part → Bool
matches suffixes filter part =
    matches_url filter.pattern filter.match_case part.view
    && is_party filter.third_party (is_third_party suffixes (host_of part.view) part.initiator)
    && is_for filter.domains part.initiator

-- the filter matches the request itself, whose type is one of its types
abbrev pub fits_request : List SuffixRule → Request → FilterLine → Bool
fits_request suffixes request filter = has_kind filter.kinds request.kind && matches suffixes filter (own_part request)

-- ---- a page is exempt

abbrev pub matches_part : List SuffixRule → FilterLine → Option Part → Bool
matches_part suffixes filter None = false
matches_part suffixes filter (Some part) = matches suffixes filter part

-- it matches one of the frames, which are counted from this place on
abbrev pub matches_frame : List SuffixRule → FilterLine → Request → ℕ → List Frame → Bool
matches_frame suffixes filter request place [] = false
matches_frame suffixes filter request place (frame ∷ frames) =
    matches_part suffixes filter (frame_part_of request place frame) || matches_frame suffixes filter request (place + 1) frames

-- it matches the page: the request itself, where that asks for a page, or a frame in which the request is made
abbrev pub matches_page : List SuffixRule → FilterLine → Request → Bool
matches_page suffixes filter request =
    ((same_kind request.kind MainFrame || same_kind request.kind SubFrame) && matches suffixes filter (own_part request))
    || matches_frame suffixes filter request 0 request.frames

abbrev pub exempts : List SuffixRule → Request → FilterLine → Bool
exempts suffixes request filter = filter.exception && filter.document && matches_page suffixes filter request

-- ---- what the list says

abbrev pub is_blocked_by : List SuffixRule → List FilterLine → Request → Bool
is_blocked_by suffixes filters request =
    list_any (λ filter. not filter.exception && fits_request suffixes request filter) filters
    && not (list_any (λ filter. filter.exception && fits_request suffixes request filter) filters)
    && not (list_any (exempts suffixes request) filters)

-- the list blocks the request, where these are the suffix rules: a blocking filter fits it, no exception fits it,
-- and no exception for all that a page loads matches its page
abbrev pub says : List (List ℕ) → List SuffixRule → Request → Bool
says lines suffixes request = is_blocked_by suffixes (filters_of lines) request

-- The view that a text gives, or why it gives none. The URL is the one that the URL Standard reads in
-- the text without a base; where its host stands is read off its serialization (URL Standard, 4.5).
use Rattle.std.specs.Prelude.{ℕ, ◌+◌, ◌-◌, List, length, drop, slice_range, codes, false, nat_lt, nat_eq, Option, Some, None, option_map, option_and_then, Result, Ok, Err, if◌then◌else◌}
use Rattle.std.specs.List.{starts_with}
use Rattle.url.specs.Input.{split_once, rsplit_once}
use Rattle.url.specs.Parser.{parse_url, host_len}
use Rattle.url.specs.Parts.{Parts, serialize}
use Rattle.url.specs.declared.error.ParseError.{ParseError}
use Rattle.dnr_base.specs.declared.scheme.Scheme.{Scheme}
use Rattle.dnr_base.specs.declared.span.Span.{Span}
use Rattle.dnr_spec.specs.declared.view_refusal.ViewRefusal.{ViewRefusal}
use Rattle.dnr_spec.specs.declared.view_refusal.ViewRefusal.TheVariants.{UrlTooLong, BadUrl, BadScheme, BadHost}
use Rattle.dnr_base.specs.Scheme.{scheme_named}
use Rattle.dnr_base.specs.View.{View, is_host}

-- the most bytes of a URL's text, and of its serialization
abbrev pub max_url : ℕ
max_url = 65536

-- what stands before the first `#`
abbrev pub without_fragment : List ℕ → List ℕ
without_fragment full = (split_once 35 full).0

-- what stands before the first `:`
abbrev pub scheme_part : List ℕ → List ℕ
scheme_part text = (split_once 58 text).0

-- what follows the first `:`, up to the first `?`
abbrev pub body_part : List ℕ → Option (List ℕ)
body_part text = (split_once 58 (split_once 63 text).0).1

-- between `//` and the next `/` or the end, where the body begins with `//`
abbrev pub authority_in : List ℕ → Option (List ℕ)
authority_in body = if starts_with nat_eq body (codes "//") then Some (split_once 47 (drop 2 body)).0 else None

abbrev pub authority_of : List ℕ → Option (List ℕ)
authority_of text = option_and_then authority_in (body_part text)

-- the authority without its user information, which ends with `@`
abbrev pub host_and_port : List ℕ → List ℕ
host_and_port authority = (rsplit_once 64 authority).1

-- where the host stands, which ends at the first `:` that is not between brackets
abbrev pub host_at : ℕ → List ℕ → List ℕ → Span
host_at start authority rest =
    let first = start + (length authority - length rest) in
    record { start = first; end = first + host_len false rest }

-- where the host stands in a text, if the text has an authority
abbrev pub host_span : List ℕ → Option Span
host_span text =
    option_map (λ authority. host_at (length (scheme_part text) + 3) authority (host_and_port authority))
    (authority_of text)

-- the view, unless its serialization is too long
abbrev pub if_short : View → Result View ViewRefusal
if_short view = if nat_lt max_url (length view.full) then Err UrlTooLong else Ok view

abbrev pub with_host : List ℕ → Scheme → Option Span → Result View ViewRefusal
with_host full scheme None = Err BadHost
with_host full scheme (Some host) =
    if is_host (slice_range full host.start host.end)
    then if_short (record { full = full; cut = length (without_fragment full); scheme = scheme; host = host })
    else Err BadHost

abbrev pub with_scheme : List ℕ → Option Scheme → Result View ViewRefusal
with_scheme full None = Err BadScheme
with_scheme full (Some scheme) = with_host full scheme (host_span (without_fragment full))

-- the view of a serialization
abbrev pub view_of_full : List ℕ → Result View ViewRefusal
view_of_full full = with_scheme full (scheme_named (scheme_part full))

abbrev pub view_of_url : Result Parts ParseError → Result View ViewRefusal
view_of_url (Ok url) = view_of_full (serialize url)
view_of_url (Err e) = Err BadUrl

-- the view of a text
abbrev pub view_of : List ℕ → Result View ViewRefusal
view_of text = if nat_lt max_url (length text) then Err UrlTooLong else view_of_url (parse_url None text)

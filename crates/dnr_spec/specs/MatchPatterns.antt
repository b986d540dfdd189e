-- Match patterns, by which a manifest names the URLs that its extension may touch: Chrome's reference, "Match patterns"
-- and `host_permissions`. A text of another form fits nothing.
use Rattle.std.specs.Prelude.{ℕ, List, length, map, take, drop, codes, Bool, true, false, ◌==◌, ◌&&◌, ◌||◌, nat_lt, nat_eq, Option, Some, None, if◌then◌else◌}
use Rattle.std.specs.List.{list_any, starts_with, position_or_len}
use Rattle.std.specs.Option.{option_map_or}
use Rattle.std.specs.Str.{bytes_eq}
use Rattle.dnr_base.specs.declared.scheme.Scheme.{Scheme}
use Rattle.dnr_base.specs.declared.scheme.Scheme.TheVariants.{Http, Https, Ws, Wss, Ftp, ChromeExtension}
use Rattle.dnr_base.specs.Scheme.{all_schemes, scheme_text}
use Rattle.dnr_base.specs.View.{View, text_of, host_of}
use Rattle.dnr_spec.specs.declared.piece.Piece.{Piece}
use Rattle.dnr_spec.specs.declared.piece.Piece.TheVariants.{AnyBytes, Byte}
use Rattle.dnr_spec.specs.Domains.{is_domain, lower_case, covers}
use Rattle.dnr_spec.specs.Wildcards.{takes}

-- ---- the scheme

-- `http` and `https`
abbrev pub is_web : Scheme → Bool
is_web Http = true
is_web Https = true
is_web Ws = false
is_web Wss = false
is_web Ftp = false
is_web ChromeExtension = false

abbrev pub fits_scheme : List ℕ → Scheme → Bool
fits_scheme text scheme = if bytes_eq text (codes "*") then is_web scheme else bytes_eq text (scheme_text scheme)

-- some scheme fits it
abbrev pub is_scheme_part : List ℕ → Bool
is_scheme_part text = list_any (fits_scheme text) all_schemes

-- ---- the host

-- `*.` and a domain
abbrev pub has_subdomains : List ℕ → Bool
has_subdomains text = starts_with nat_eq text (codes "*.")

abbrev pub is_host_part : List ℕ → Bool
is_host_part text =
    bytes_eq text (codes "*") || (if has_subdomains text then is_domain (drop 2 text) else is_domain text)

-- `*` covers every host, `*.` and a domain that host and its subdomains, and a domain itself alone
abbrev pub covers_host : List ℕ → List ℕ → Bool
covers_host text host =
    bytes_eq text (codes "*")
    || (if has_subdomains text then covers (lower_case (drop 2 text)) host else bytes_eq (lower_case text) host)

-- ---- the path

abbrev pub path_piece : ℕ → Piece
path_piece b = if b == 42 then AnyBytes else Byte b

-- what stands in the URL behind its authority, without the fragment
abbrev pub behind_authority : View → List ℕ
behind_authority view =
    let rest = drop view.host.end (text_of view) in drop (position_or_len (λ b. b == 47 || b == 63) rest) rest

-- the whole of it, with its case
abbrev pub fits_path : List ℕ → View → Bool
fits_path path view = takes false (map path_piece path) (behind_authority view)

-- ---- the whole

-- the texts of a pattern `scheme://host/path`; the path begins with its `/`
pub record MatchParts : Type 0 where
  pub scheme : List ℕ
  pub host : List ℕ
  pub path : List ℕ

-- what stands before the first of these bytes, and from it on
abbrev pub before : ℕ → List ℕ → List ℕ
before byte text = take (position_or_len (λ b. b == byte) text) text

abbrev pub from : ℕ → List ℕ → List ℕ
from byte text = drop (position_or_len (λ b. b == byte) text) text

-- the texts around the first `:` with what should be its two slashes, and around the first `/` behind them
abbrev pub cut_parts : List ℕ → MatchParts
cut_parts text =
    let rest = drop 3 (from 58 text) in record { scheme = before 58 text; host = before 47 rest; path = from 47 rest }

-- it has the form of a pattern with parts
abbrev pub has_parts : List ℕ → Bool
has_parts text =
    starts_with nat_eq (from 58 text) (codes "://") && is_scheme_part (cut_parts text).scheme
    && is_host_part (cut_parts text).host && nat_lt 0 (length (cut_parts text).path)

abbrev pub all_urls : List ℕ
all_urls = codes "<all_urls>"

-- the parts of a pattern, if the text has them
abbrev pub match_parts_of : List ℕ → Option MatchParts
match_parts_of text = if has_parts text then Some (cut_parts text) else None

abbrev pub parts_fit : View → MatchParts → Bool
parts_fit view parts =
    fits_scheme parts.scheme view.scheme && covers_host parts.host (host_of view) && fits_path parts.path view

-- the pattern fits the URL
unfoldable pub match_fits : List ℕ → View → Bool
match_fits text view = bytes_eq text all_urls || option_map_or (parts_fit view) (match_parts_of text) false

-- the pattern has a host that covers this one
unfoldable pub match_covers : List ℕ → List ℕ → Bool
match_covers text host =
    bytes_eq text all_urls || option_map_or (λ parts. covers_host parts.host host) (match_parts_of text) false

-- What a transform makes of a URL: Chrome's reference of declarativeNetRequest, `URLTransform`. It works on the
-- parts that the URL Standard reads (4.1) and assembles a text from the old and the new ones.
use Rattle.std.specs.Prelude.{ℕ, Bool, not, ◌&&◌, ◌||◌, ◌==◌, nat_le, List, [], ◌∷◌, ◌++◌, length, filter, count_by, codes, decimal, Option, Some, None, unwrap_or, option_map, slice_get, nat_eq, if◌then◌else◌}
use Rattle.std.specs.Option.{option_map_or}
use Rattle.std.specs.List.{flat_map, list_any, slice_split, join_with_byte, starts_with}
use Rattle.std.specs.Char.{is_ascii_alphanumeric}
use Rattle.std.specs.Str.{bytes_eq}
use Rattle.std.specs.Str.Lossy.{utf8_lossy}
use Rattle.percent_encoding.specs.Percent.{percent_encode_byte}
use Rattle.form_urlencoded.specs.Form.{is_nonempty, decode, split_pair, serialize_pair}
use Rattle.url.specs.Host.{host_text}
use Rattle.url.specs.Parts.{Parts, host_or_empty}
use Rattle.dnr_base.specs.declared.query_pair.QueryPair.{QueryPair}
use Rattle.dnr_base.specs.declared.query_transform.QueryTransform.{QueryTransform}
use Rattle.dnr_base.specs.declared.transform.Transform.{Transform}
use Rattle.dnr_base.specs.Scheme.{scheme_text}

-- ---- the parts of a URL, as they are written

-- the query has its `?` and the fragment its `#`, the port is in decimal digits; what is not there is empty
pub record Components : Type 0 where
  pub scheme : List ℕ
  pub username : List ℕ
  pub password : List ℕ
  pub host : List ℕ
  pub port : List ℕ
  pub path : List ℕ
  pub query : List ℕ
  pub fragment : List ℕ

-- a part behind its mark, if it is there
abbrev pub marked : ℕ → Option (List ℕ) → List ℕ
marked mark None = []
marked mark (Some part) = mark ∷ part

abbrev pub components_of : Parts → Components
components_of url = record {
  scheme = url.scheme;
  username = url.username;
  password = url.password;
  host = host_text (host_or_empty url);
  port = unwrap_or (option_map decimal url.port) [];
  path = url.path;
  query = marked 63 url.query;
  fragment = marked 35 url.fragment;
}

-- `:` and the password, unless it is empty
abbrev pub password_text : List ℕ → List ℕ
password_text password = if is_nonempty password then codes ":" ++ password else []

-- the user information and its `@`, unless the username and the password are empty
abbrev pub user_text : List ℕ → List ℕ → List ℕ
user_text username password =
    if is_nonempty username || is_nonempty password then username ++ password_text password ++ codes "@" else []

-- `:` and the port, unless it is empty
abbrev pub port_text : List ℕ → List ℕ
port_text port = if is_nonempty port then codes ":" ++ port else []

-- the text of the parts, in the order of the URL Standard's serializer (4.5)
abbrev pub assembled : Components → List ℕ
assembled parts =
    parts.scheme ++ codes "://" ++ user_text parts.username parts.password ++ parts.host ++ port_text parts.port
    ++ parts.path ++ parts.query ++ parts.fragment

-- ---- new parts

-- a letter, a digit, `-`, `.`, `_` or `~`
abbrev pub is_unreserved : ℕ → Bool
is_unreserved b = is_ascii_alphanumeric b || b == 45 || b == 46 || b == 95 || b == 126

-- each other byte as `%` and two upper-case hexadecimal digits
abbrev pub encoded : List ℕ → List ℕ
encoded text = flat_map (λ b. if is_unreserved b then b ∷ [] else percent_encode_byte b) text

-- with a leading `/`, unless it has one or is empty
abbrev pub rooted : List ℕ → List ℕ
rooted path = if is_nonempty path && not (starts_with nat_eq path (codes "/")) then codes "/" ++ path else path

-- ---- new pieces of the query

-- what follows the `?` of a query
abbrev pub bare_query : List ℕ → List ℕ
bare_query [] = []
bare_query (mark ∷ query) = if mark == 63 then query else []

-- what stands between the `&` of a query, without the empty pieces
abbrev pub pieces_of : List ℕ → List (List ℕ)
pieces_of query = filter is_nonempty (slice_split (λ b. b == 38) query)

-- what stands before the first `=`, decoded as the URL Standard decodes a form (5.1)
abbrev pub key_of : List ℕ → List ℕ
key_of piece = utf8_lossy (decode (split_pair piece).0)

-- no key of the list is the piece's
abbrev pub is_kept : List (List ℕ) → List ℕ → Bool
is_kept removed piece = not (list_any (bytes_eq (key_of piece)) removed)

-- how many of the pieces have this key
abbrev pub pieces_with : List ℕ → List (List ℕ) → ℕ
pieces_with key pieces = count_by (λ piece. bytes_eq key (key_of piece)) pieces

-- the pairs of this key, in their order
abbrev pub pairs_with : List ℕ → List QueryPair → List QueryPair
pairs_with key pairs = filter (λ pair. bytes_eq key pair.key) pairs

-- the key, `=` and the value, encoded as the URL Standard encodes a form (5.2)
abbrev pub piece_of : QueryPair → List ℕ
piece_of pair = serialize_pair (pair.key, pair.value)

-- what becomes of a piece that stands behind these others: the k-th piece of a key gives way to the k-th pair of
-- that key, and stays as it is where there is none
abbrev pub replaced : List QueryPair → List (List ℕ) → List ℕ → List ℕ
replaced pairs before piece =
    option_map_or piece_of (slice_get (pairs_with (key_of piece) pairs) (pieces_with (key_of piece) before)) piece

-- the same of each piece, the first of which stands behind these others
abbrev pub all_replaced : List QueryPair → List (List ℕ) → List (List ℕ) → List (List ℕ)
all_replaced pairs before [] = []
all_replaced pairs before (piece ∷ rest) =
    replaced pairs before piece ∷ all_replaced pairs (before ++ piece ∷ []) rest

-- a pair that stands behind these others is the k-th of its key, and there is no k-th piece of that key
abbrev pub is_left_over : List (List ℕ) → List QueryPair → QueryPair → Bool
is_left_over pieces before pair = nat_le (pieces_with pair.key pieces) (length (pairs_with pair.key before))

-- the new pieces of such pairs, without those that only replace
abbrev pub appended : List (List ℕ) → List QueryPair → List QueryPair → List (List ℕ)
appended pieces before [] = []
appended pieces before (pair ∷ rest) =
    let later = appended pieces (before ++ pair ∷ []) rest in
    if is_left_over pieces before pair && not pair.replace_only then piece_of pair ∷ later else later

-- the query of these pieces, with its `?`; without pieces there is none
abbrev pub query_of : List (List ℕ) → List ℕ
query_of [] = []
query_of (piece ∷ rest) = 63 ∷ join_with_byte 38 (piece ∷ rest)

-- a query without its `?` after the changes
abbrev pub changed_query : QueryTransform → List ℕ → List ℕ
changed_query changes query =
    let pieces = filter (is_kept changes.remove) (pieces_of query) in
    query_of (all_replaced changes.add [] pieces ++ appended pieces [] changes.add)

-- ---- the whole transform

-- the new query in the place of this one, which has its `?`
abbrev pub new_query : Option (List ℕ) → Option QueryTransform → List ℕ → List ℕ
new_query (Some query) changes old = query
new_query None (Some changes) old = changed_query changes (bare_query old)
new_query None None old = old

-- a part that is absent stays, and an empty one clears
abbrev pub transformed : Transform → Components → Components
transformed transform old = record {
  scheme = option_map_or scheme_text transform.scheme old.scheme;
  username = option_map_or encoded transform.username old.username;
  password = option_map_or encoded transform.password old.password;
  host = unwrap_or transform.host old.host;
  port = unwrap_or transform.port old.port;
  path = option_map_or rooted transform.path old.path;
  query = new_query transform.query transform.query_transform old.query;
  fragment = unwrap_or transform.fragment old.fragment;
}

-- the text that a transform makes of a URL
abbrev pub transformed_text : Transform → Parts → List ℕ
transformed_text transform url = assembled (transformed transform (components_of url))

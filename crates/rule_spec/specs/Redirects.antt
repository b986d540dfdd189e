-- Which redirects a rule may have: Chrome's reference of declarativeNetRequest, `Redirect` and `URLTransform`, with
-- the limits of this engine.
use Rattle.std.specs.Prelude.{◌≡◌, ℕ, ◌+◌, ◌-◌, ◌*◌, ◌≤◌, List, [], ◌∷◌, length, codes, fold, Bool, true, false, not, ◌==◌, ◌&&◌, ◌||◌, nat_le, nat_eq, IsTrue, Option, Some, None, is_none, IfSome}
use Rattle.std.specs.Option.{option_map_or}
use Rattle.std.specs.Result.{is_ok}
use Rattle.std.specs.List.{list_all, list_any, starts_with}
use Rattle.std.specs.Char.{is_ascii_digit}
use Rattle.std.specs.Str.{bytes_eq, str_to_ascii_lowercase}
use Rattle.url.specs.Parts.{Parts}
use Rattle.dnr_base.specs.declared.scheme.Scheme.{Scheme}
use Rattle.dnr_base.specs.declared.scheme.Scheme.TheVariants.{Http, Https, Ws, Wss, Ftp, ChromeExtension}
use Rattle.dnr_base.specs.declared.redirect.Redirect.{Redirect}
use Rattle.dnr_base.specs.declared.redirect.Redirect.TheVariants as redirect
use Rattle.dnr_base.specs.declared.transform.Transform.{Transform}
use Rattle.dnr_base.specs.declared.query_transform.QueryTransform.{QueryTransform}
use Rattle.dnr_base.specs.declared.query_pair.QueryPair.{QueryPair}
use Rattle.dnr_spec.specs.Domains.{is_address, is_label_byte}
use Rattle.dnr_spec.specs.Substitution.{substitution_of}
use Rattle.dnr_spec.specs.Target.{url_of}

-- ---- texts

-- the most bytes of a text of a redirect
abbrev pub max_text : ℕ
max_text = 8192

abbrev pub is_short : List ℕ → Bool
is_short text = nat_le (length text) max_text

-- letters, digits, `-`, `.` and `_`, or an address between brackets
abbrev pub is_new_host : List ℕ → Bool
is_new_host text = is_address text || (nat_le 1 (length text) && list_all (λ b. is_label_byte b || b == 46) text)

-- the number that decimal digits are
abbrev pub number_in : List ℕ → ℕ
number_in digits = fold (λ n b. 10 * n + (b - 48)) 0 digits

-- empty, or a port
abbrev pub is_new_port : List ℕ → Bool
is_new_port text = nat_le (length text) 5 && list_all is_ascii_digit text && nat_le (number_in text) 65535

abbrev pub has_byte : ℕ → List ℕ → Bool
has_byte b text = list_any (λ other. b == other) text

-- without `?` and `#`
abbrev pub is_new_path : List ℕ → Bool
is_new_path text = not (has_byte 63 text) && not (has_byte 35 text)

-- empty, or begins with this byte
abbrev pub begins_with : ℕ → List ℕ → Bool
begins_with b [] = true
begins_with b (first ∷ rest) = first == b

abbrev pub is_new_query : List ℕ → Bool
is_new_query text = begins_with 63 text && not (has_byte 35 text)

abbrev pub is_new_fragment : List ℕ → Bool
is_new_fragment text = begins_with 35 text

-- the schemes that a transform may give
abbrev pub is_new_scheme : Scheme → Bool
is_new_scheme Http = true
is_new_scheme Https = true
is_new_scheme Ws = false
is_new_scheme Wss = false
is_new_scheme Ftp = true
is_new_scheme ChromeExtension = true

-- a path inside an extension
abbrev pub is_extension_path : List ℕ → Bool
is_extension_path text = starts_with nat_eq text (codes "/")

-- the most bytes of a URL that a rule leads to
abbrev pub max_url : ℕ
max_url = 65536

abbrev pub is_no_script : Parts → Bool
is_no_script url = not (bytes_eq url.scheme (codes "javascript"))

-- the URL Standard reads it, and it is no script
abbrev pub is_redirect_url : List ℕ → Bool
is_redirect_url text = nat_le (length text) max_url && option_map_or is_no_script (url_of text) false

-- a substitution needs a regexFilter, of which this is the count of groups, and names groups up to that
abbrev pub is_substitution : Option ℕ → List ℕ → Bool
is_substitution None text = false
is_substitution (Some groups) text = is_ok (substitution_of text groups)

-- the most entries of the two lists of a queryTransform together
abbrev pub max_entries : ℕ
max_entries = 1024

-- ---- transforms

-- a part that is there is short, and passes this test
abbrev pub IsPart : (List ℕ → Bool) → Option (List ℕ) → Type 0
IsPart test part = IfSome part (λ text. IsTrue (is_short text && test text))

-- a host as it is kept: the lower case of one that is short and passes the test
abbrev pub IsKeptHost : List ℕ → Type 0
IsKeptHost host = (text : List ℕ) × IsTrue (is_short text && is_new_host text) × (host ≡ str_to_ascii_lowercase text)

abbrev pub is_short_pair : QueryPair → Bool
is_short_pair pair = is_short pair.key && is_short pair.value

pub record AreChanges (changes : QueryTransform) : Type 0 where
  pub few : length changes.remove + length changes.add ≤ max_entries
  pub keys : IsTrue (list_all is_short changes.remove)
  pub pairs : IsTrue (list_all is_short_pair changes.add)

pub record IsTransform (transform : Transform) : Type 0 where
  pub scheme : IfSome transform.scheme (λ scheme. IsTrue (is_new_scheme scheme))
  pub host : IfSome transform.host IsKeptHost
  pub port : IsPart is_new_port transform.port
  pub path : IsPart is_new_path transform.path
  pub query : IsPart is_new_query transform.query
  pub changes : IfSome transform.query_transform AreChanges
  pub one_query : IsTrue (is_none transform.query || is_none transform.query_transform)
  pub fragment : IsPart is_new_fragment transform.fragment
  pub username : IsPart (λ text. true) transform.username
  pub password : IsPart (λ text. true) transform.password

-- ---- redirects

-- `groups` is the count of groups of the rule's regexFilter, if it has one
abbrev pub IsRedirect : Option ℕ → Redirect → Type 0
IsRedirect groups (redirect.ExtensionPath path) = IsTrue (is_short path && is_extension_path path)
IsRedirect groups (redirect.Transform transform) = IsTransform transform
IsRedirect groups (redirect.Url url) = IsTrue (is_redirect_url url)
IsRedirect groups (redirect.RegexSubstitution text) = IsTrue (is_substitution groups text)

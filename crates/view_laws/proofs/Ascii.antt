-- The serialization of a URL that is read without a base is ASCII.
use Rattle.std.proofs.Common.{◌≡◌, ℕ, ◌+◌, ◌^◌, ◌<◌, Bool, true, false, cond, ◌&&◌, ◌||◌, ◌==◌, nat_lt, List, [], ◌∷◌, get_or, take, drop, Option, Some, None, Ok, Err, IsAscii, subst, arith, lit<}
use Rattle.std.specs.Prelude.{is_some, unwrap_or, option_map, decimal, codes}
use Rattle.std.specs.Char.{is_ascii_digit, is_ascii_alphabetic}
use Rattle.std.specs.List.{concat, list_all, prefix_len}
use Rattle.std.specs.Str.Parse.{digits_value}
use Rattle.std.proofs.lemmas.Bool.{cond_both, and_parts}
use Rattle.std.proofs.lemmas.Bool.Decides.{nat_tests}
use Rattle.std.proofs.lemmas.Fmt.{IsAscii-decimal}
use Rattle.std.proofs.lemmas.List.Elements.{All-weaker}
use Rattle.std.proofs.lemmas.Str.{IsAscii-append}
use Rattle.std.proofs.lemmas.Str.Ascii.{IsAscii-nil, IsAscii-cons, IsAscii-from_all, IsAscii-map, lowercase_ascii}
use Rattle.percent_encoding.proofs.PercentLemmas.{IsAscii-percent_encode}
use Rattle.percent_encoding.specs.declared.ascii_set.AsciiSet.{AsciiSet}
use Rattle.percent_encoding.specs.Percent.{percent_encode}
use Rattle.url.specs.declared.sets.TheConstants.{FRAGMENT, USERINFO, OPAQUE_PATH}
use Rattle.url.specs.declared.host.Host.{Host}
use Rattle.url.specs.declared.host.Host.TheVariants.{Domain}
use Rattle.url.specs.declared.scheme.SchemeType.TheVariants.{File, NotSpecial}
use Rattle.url.specs.Head.{scheme_only, with_authority}
use Rattle.url.specs.Host.{parse_host, parse_file_host}
use Rattle.url.specs.Input.{when, is_empty, lowercase, split_once, rsplit_once, strip_tabs_and_new_lines, trim_c0_control_and_space}
use Rattle.url.specs.Parser.{Parsed, and_then, split_port, without_default_port, parse_port, lacks_host, parse_authority, with_path, leading_slashes, after_double_slash, parse_non_special, skip_slashes, file_with_host, after_file_double_slash, parse_file, parse_body, with_tail, end_path, before_tail, parse_parts, split_scheme, parse_by_scheme, parse_url}
use Rattle.url.specs.Parts.{Parts, kind_of, has_authority, host_or_empty, needs_guard, query_set, pieces, serialize}
use Rattle.url.specs.Path.{segment_len, is_windows_drive_letter, parse_path, parse_path_start, escape_end}
use Rattle.url.specs.Scheme.{scheme_type, is_special, is_file, is_scheme_byte, scheme_len}
use Rattle.url.proofs.InputLemmas.{Passes, All-take-prefix_len}
use Rattle.view_laws.proofs.Hosts.{IfRead, IsAsciiHost, host_ascii, file_ascii}
use Rattle.view_laws.proofs.Paths.{path_ascii, start_ascii, escape_ascii}

abbrev port_text : Option ℕ → List ℕ
port_text port = unwrap_or (option_map decimal port) []

-- each part of the URL is ASCII
record AllAscii (url : Parts) : Type 0 where
  scheme : IsAscii url.scheme
  username : IsAscii url.username
  password : IsAscii url.password
  host : IsAsciiHost (host_or_empty url)
  port : IsAscii (port_text url.port)
  path : IsAscii url.path
  query : IsAscii (unwrap_or url.query [])
  fragment : IsAscii (unwrap_or url.fragment [])

-- ---- the serialization

abbrev EachAscii : List (List ℕ) → Type 0
EachAscii [] = Unit {0}
EachAscii (x ∷ xs) = IsAscii x × EachAscii xs

concat_ascii : (xs : List (List ℕ)) → EachAscii xs → IsAscii (concat xs)
concat_ascii [] each = IsAscii-nil
concat_ascii (x ∷ xs) each = IsAscii-append x (concat xs) each.0 (concat_ascii xs each.1)

mark_ascii : (given : Bool) (b : ℕ) → b < 128 → IsAscii (when given (b ∷ []))
mark_ascii true b below = IsAscii-cons b [] below IsAscii-nil
mark_ascii false b below = IsAscii-nil

slashes_ascii : (given : Bool) → IsAscii (cond given (codes "://") (codes ":"))
slashes_ascii true = IsAscii-cons 58 (47 ∷ 47 ∷ []) (lit< tt) (IsAscii-cons 47 (47 ∷ []) (lit< tt) (IsAscii-cons 47 [] (lit< tt) IsAscii-nil))
slashes_ascii false = IsAscii-cons 58 [] (lit< tt) IsAscii-nil

guard_ascii : (given : Bool) → IsAscii (when given (codes "/."))
guard_ascii true = IsAscii-cons 47 (46 ∷ []) (lit< tt) (IsAscii-cons 46 [] (lit< tt) IsAscii-nil)
guard_ascii false = IsAscii-nil

written_ascii : (url : Parts) → AllAscii url → IsAscii (serialize url)
written_ascii url all =
    concat_ascii (pieces url) (
      all.scheme,
      (
        slashes_ascii (has_authority url),
        (
          all.username,
          (
            mark_ascii _ 58 (lit< tt),
            (
              all.password,
              (
                mark_ascii _ 64 (lit< tt),
                (
                  all.host,
                  (
                    mark_ascii _ 58 (lit< tt),
                    (all.port, (guard_ascii (needs_guard url), (all.path, (mark_ascii _ 63 (lit< tt), (all.query, (mark_ascii _ 35 (lit< tt), (all.fragment, tt))))))),
                  ),
                ),
              ),
            ),
          ),
        ),
      ),
    )

-- ---- the parts, one step after another

then_read : {T U : Type 0} (P : T → Type 0) (Q : U → Type 0) (read : Parsed T) (next : T → Parsed U) → IfRead P read → ((x : T) → P x → IfRead Q (next x)) → IfRead Q (and_then read next)
then_read P Q (Ok x) next first later = later x first
then_read P Q (Err e) next first later = tt

default_left_out : (scheme : List ℕ) (n : ℕ) → n < 2 ^ 16 → IsAscii (port_text (without_default_port scheme (Some n)))
default_left_out scheme n fits =
    cond_both _ None (Some n) (λ (port : Option ℕ). IsAscii (port_text port)) (λ _. IsAscii-nil) (λ _. IsAscii-decimal n (omega (arith, fits)))

port_ascii : (scheme digits : List ℕ) → IfRead (λ port. IsAscii (port_text port)) (parse_port scheme digits)
unfolding parse_port
port_ascii scheme digits =
    cond_both (is_empty digits) _ _ (IfRead (λ port. IsAscii (port_text port))) (λ _. IsAscii-nil)
    (λ _. cond_both (list_all is_ascii_digit digits && nat_lt (digits_value 10 digits) (2 ^ 16)) _ _ (IfRead (λ port. IsAscii (port_text port)))
    (λ both. let below : nat_lt (digits_value 10 digits) (2 ^ 16) ≡ true = (and_parts (list_all is_ascii_digit digits) (nat_lt (digits_value 10 digits) (2 ^ 16)) both).1 in default_left_out scheme (digits_value 10 digits) (grind (arith, nat_tests))) (λ _. tt))

head_ascii : (scheme username password : List ℕ) (host : Host (List ℕ)) (port : Option ℕ) → IsAscii scheme → IsAsciiHost host → IsAscii (port_text port)
    → AllAscii (with_authority scheme username password host port)
head_ascii scheme username password host port ascii named numbered = record {
  scheme = ascii;
  username = IsAscii-percent_encode USERINFO username;
  password = IsAscii-percent_encode USERINFO password;
  host = named;
  port = numbered;
  path = IsAscii-nil;
  query = IsAscii-nil;
  fragment = IsAscii-nil;
}

path_put : (url : Parts) (path : List ℕ) → AllAscii url → IsAscii path → AllAscii (with_path url path)
path_put url path all ascii = record {
  scheme = all.scheme;
  username = all.username;
  password = all.password;
  host = all.host;
  port = all.port;
  path = ascii;
  query = all.query;
  fragment = all.fragment;
}

encoded_part : (set : AsciiSet) (part : Option (List ℕ)) → IsAscii (unwrap_or (option_map (percent_encode set) part) [])
encoded_part set None = IsAscii-nil
encoded_part set (Some bytes) = IsAscii-percent_encode set bytes

tail_put : (url : Parts) (query fragment : Option (List ℕ)) → AllAscii url → AllAscii (with_tail url query fragment)
tail_put url query fragment all = record {
  scheme = all.scheme;
  username = all.username;
  password = all.password;
  host = all.host;
  port = all.port;
  path = all.path;
  query = encoded_part (query_set (kind_of url)) query;
  fragment = encoded_part FRAGMENT fragment;
}

authority_ascii : (scheme bytes : List ℕ) → IsAscii scheme → IfRead AllAscii (parse_authority scheme bytes)
unfolding parse_authority
authority_ascii scheme bytes ascii =
    let at = rsplit_once 64 bytes in
    let placed = split_port at.1 in
    let user = split_once 58 (unwrap_or at.0 []) in
    cond_both (lacks_host at.0 placed.0 placed.1) _ _ (IfRead AllAscii) (λ _. tt)
    (λ _. then_read IsAsciiHost AllAscii (parse_host (scheme_type scheme) placed.0) _ (host_ascii (scheme_type scheme) placed.0)
    (λ host named. then_read (λ port. IsAscii (port_text port)) AllAscii (parse_port scheme (unwrap_or placed.1 [])) _ (port_ascii scheme (unwrap_or placed.1 []))
    (λ port numbered. head_ascii scheme user.0 (unwrap_or user.1 []) host port ascii named numbered)))

slashes_read : (scheme bytes : List ℕ) → IsAscii scheme → IfRead AllAscii (after_double_slash scheme bytes)
unfolding after_double_slash
slashes_read scheme bytes ascii =
    let kind = scheme_type scheme in
    let len = segment_len kind bytes in
    then_read AllAscii AllAscii (parse_authority scheme (take len bytes)) _ (authority_ascii scheme (take len bytes) ascii)
    (λ head all. path_put head (parse_path_start kind [] (drop len bytes)) all (start_ascii kind [] (drop len bytes) IsAscii-nil))

bare_ascii : (scheme : List ℕ) → IsAscii scheme → AllAscii (scheme_only scheme)
bare_ascii scheme ascii = record {
  scheme = ascii;
  username = IsAscii-nil;
  password = IsAscii-nil;
  host = IsAscii-nil;
  port = IsAscii-nil;
  path = IsAscii-nil;
  query = IsAscii-nil;
  fragment = IsAscii-nil;
}

other_read : (scheme body : List ℕ) → IsAscii scheme → IfRead AllAscii (parse_non_special scheme body)
unfolding parse_non_special
other_read scheme body ascii =
    let slashes = leading_slashes NotSpecial body in
    cond_both (slashes == 2) _ _ (IfRead AllAscii) (λ _. slashes_read scheme (drop 2 body) ascii)
    (λ _. cond_both (slashes == 1) _ _ (IfRead AllAscii)
    (λ _. path_put (scheme_only scheme) _ (bare_ascii scheme ascii) (path_ascii NotSpecial [] (drop 1 body) IsAscii-nil))
    (λ _. path_put (scheme_only scheme) _ (bare_ascii scheme ascii) (IsAscii-percent_encode OPAQUE_PATH body)))

file_text : IsAscii (codes "file")
file_text = IsAscii-cons 102 (105 ∷ 108 ∷ 101 ∷ []) (lit< tt) (IsAscii-cons 105 (108 ∷ 101 ∷ []) (lit< tt) (IsAscii-cons 108 (101 ∷ []) (lit< tt) (IsAscii-cons 101 [] (lit< tt) IsAscii-nil)))

file_head : (host : Host (List ℕ)) → IsAsciiHost host → AllAscii (file_with_host host)
file_head host named = head_ascii (codes "file") [] [] host None file_text named IsAscii-nil

file_slashes_read : (bytes : List ℕ) → IfRead AllAscii (after_file_double_slash bytes)
unfolding after_file_double_slash
file_slashes_read bytes =
    let len = segment_len File bytes in
    cond_both (is_windows_drive_letter (take len bytes)) _ _ (IfRead AllAscii)
    (λ _. path_put (file_with_host (Domain [])) (parse_path File [] bytes) (file_head (Domain []) IsAscii-nil) (path_ascii File [] bytes IsAscii-nil))
    (λ _. then_read IsAsciiHost AllAscii (parse_file_host (take len bytes)) _ (file_ascii (take len bytes))
    (λ host named. path_put (file_with_host host) (parse_path_start File [] (drop len bytes)) (file_head host named) (start_ascii File [] (drop len bytes) IsAscii-nil)))

file_read : (body : List ℕ) → IfRead AllAscii (parse_file None body)
unfolding parse_file
file_read body =
    let slashes = leading_slashes File body in
    cond_both (slashes == 2) _ _ (IfRead AllAscii) (λ _. file_slashes_read (drop slashes body))
    (λ _. path_put (file_with_host (Domain [])) _ (file_head (Domain []) IsAscii-nil) (path_ascii File [] (drop slashes body) IsAscii-nil))

body_read : (scheme body : List ℕ) → IsAscii scheme → IfRead AllAscii (parse_body scheme None body)
unfolding parse_body
body_read scheme body ascii =
    cond_both (is_file (scheme_type scheme)) _ _ (IfRead AllAscii) (λ _. file_read body)
    (λ _. cond_both (is_special (scheme_type scheme)) _ _ (IfRead AllAscii) (λ _. slashes_read scheme (skip_slashes body) ascii) (λ _. other_read scheme body ascii))

ended : (has_tail : Bool) (url : Parts) → AllAscii url → AllAscii (end_path has_tail url)
ended has_tail url all = cond_both _ _ url AllAscii (λ _. path_put url (escape_end url.path) all (escape_ascii url.path all.path)) (λ _. all)

parts_read : (scheme body : List ℕ) (query fragment : Option (List ℕ)) → IsAscii scheme → IfRead AllAscii (parse_parts scheme None body query fragment)
unfolding parse_parts
parts_read scheme body query fragment ascii =
    then_read AllAscii AllAscii (parse_body scheme None body) _ (body_read scheme body ascii)
    (λ url all. tail_put (before_tail url query fragment) query fragment (ended (is_some query || is_some fragment) url all))

-- ---- the scheme

scheme_byte : (b : ℕ) → Passes is_scheme_byte b → b < 128
scheme_byte b passes = grind (arith, nat_tests)

front_ascii : (bytes : List ℕ) → IsAscii (take (scheme_len bytes) bytes)
unfolding scheme_len
front_ascii bytes =
    cond_both (is_ascii_alphabetic (get_or bytes 0 0)) (prefix_len is_scheme_byte bytes) 0 (λ n. IsAscii (take n bytes))
    (λ _. let front = take (prefix_len is_scheme_byte bytes) bytes in IsAscii-from_all front (All-weaker (Passes is_scheme_byte) (λ b. b < 128) scheme_byte front (All-take-prefix_len is_scheme_byte bytes)))
    (λ _. IsAscii-nil)

-- the scheme is ASCII, if there is one
abbrev IfScheme : Option (List ℕ × List ℕ) → Type 0
IfScheme None = Unit {0}
IfScheme (Some split) = IsAscii split.0

scheme_ascii : (bytes : List ℕ) → IfScheme (split_scheme bytes)
unfolding split_scheme
scheme_ascii bytes =
    let len = scheme_len bytes in
    cond_both (nat_lt 0 len && get_or bytes len 0 == 58) (Some (take len bytes, drop (len + 1) bytes)) None IfScheme (λ _. front_ascii bytes) (λ _. tt)

by_scheme : (split : Option (List ℕ × List ℕ)) (body : List ℕ) (query fragment : Option (List ℕ)) → IfScheme split → IfRead AllAscii (parse_by_scheme split None body query fragment)
by_scheme None body query fragment ascii = tt
by_scheme (Some split) body query fragment ascii =
    parts_read (lowercase split.0) split.1 query fragment (IsAscii-map _ split.0 lowercase_ascii ascii)

whole_read : (text : List ℕ) → IfRead AllAscii (parse_url None text)
unfolding parse_url
whole_read text =
    let hash = split_once 35 (strip_tabs_and_new_lines (trim_c0_control_and_space text)) in
    let question = split_once 63 hash.0 in
    by_scheme (split_scheme question.0) question.0 question.1 hash.1 (scheme_ascii question.0)

-- the serialization of the URL that a text gives
pub url_ascii : (text : List ℕ) (url : Parts) → parse_url None text ≡ Ok url → IsAscii (serialize url)
url_ascii text url is = written_ascii url (subst (IfRead AllAscii) is (whole_read text))

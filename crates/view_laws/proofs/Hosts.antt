-- The host that a URL has which is read is written in ASCII.
use Rattle.std.proofs.Common.{◌≡◌, ℕ, zero, suc, ◌-◌, ◌^◌, ◌<◌, ◌==◌, List, [], ◌∷◌, ◌++◌, length, get_or, Option, Some, None, Result, Ok, Err, IsAscii, refl, arith, lit<}
use Rattle.std.specs.Prelude.{bytes_eq, codes, slice_range}
use Rattle.std.specs.Int.{w32, to_be_bytes}
use Rattle.std.specs.List.{list_any}
use Rattle.std.specs.Net.Reader.{whole_value, read_ipv6}
use Rattle.std.specs.Net.Text.{ipv4_text, hex_groups_text}
use Rattle.std.specs.Result.{result_map_both}
use Rattle.std.proofs.NetLemmas.Alphabet.{IsDigitOrDot, IsHexOrColon, All-ipv4_text, All-hex_groups_text}
use Rattle.std.proofs.NetLemmas.Ipv6.{read_ipv6_sound}
use Rattle.std.proofs.lemmas.Bool.{cond_both}
use Rattle.std.proofs.lemmas.List.Elements.{All-weaker}
use Rattle.std.proofs.lemmas.Str.{IsAscii-append}
use Rattle.std.proofs.lemmas.Str.Ascii.{IsAscii-nil, IsAscii-cons, IsAscii-from_all}
use Rattle.percent_encoding.specs.declared.ascii_set.TheConstants.{CONTROLS}
use Rattle.percent_encoding.specs.Percent.{percent_encode, percent_decode}
use Rattle.percent_encoding.proofs.PercentLemmas.{IsAscii-percent_encode, IsAscii_from_kept}
use Rattle.url.specs.declared.sets.TheConstants.{FORBIDDEN_DOMAIN}
use Rattle.url.specs.declared.error.ParseError.{ParseError}
use Rattle.url.specs.declared.error.ParseError.TheVariants.{InvalidDomainCharacter}
use Rattle.url.specs.declared.host.Host.{Host}
use Rattle.url.specs.declared.host.Host.TheVariants.{Domain, Ipv4, Ipv6}
use Rattle.url.specs.declared.scheme.SchemeType.{SchemeType}
use Rattle.url.specs.declared.scheme.SchemeType.TheVariants.{File, SpecialNotFile, NotSpecial}
use Rattle.url.specs.Host.{host_text, is_forbidden_in_domain, is_forbidden_in_host, ascii_domain, ipv6_host, ipv4_host, host_of_ascii, parse_bracketed, parse_special_host, parse_opaque_host, parse_file_host, without_localhost, parse_host}
use Rattle.url.specs.Ipv4.{ends_in_a_number, parse_ipv4}
use Rattle.url.specs.Input.{is_empty}
use Rattle.url.proofs.HostLemmas.{none_from_list_any}
use Rattle.view_laws.proofs.Segments.{segments_fit}

-- what holds of a value, if there is one
abbrev pub IfRead : {T : Type 0} → (T → Type 0) → Result T ParseError → Type 0
IfRead P (Ok x) = P x
IfRead P (Err e) = Unit {0}

abbrev pub IsAsciiHost : Host (List ℕ) → Type 0
IsAsciiHost host = IsAscii (host_text host)

-- ---- addresses

bracketed : (segments : List ℕ) → ((k : ℕ) → get_or segments k 0 < 2 ^ 16) → IsAscii (codes "[" ++ hex_groups_text segments ++ codes "]")
bracketed segments fit =
    let text = hex_groups_text segments in
    let inner : IsAscii text = IsAscii-from_all text (All-weaker IsHexOrColon (λ b. b < 128) (λ b hex. grind arith) text (All-hex_groups_text segments fit)) in
    IsAscii-cons 91 (text ++ 93 ∷ []) (lit< tt) (IsAscii-append text (93 ∷ []) inner (IsAscii-cons 93 [] (lit< tt) IsAscii-nil))

from_read : (text : List ℕ) (read : Option (List ℕ × List ℕ)) → read_ipv6 text ≡ read → IfRead IsAsciiHost (ipv6_host (whole_value read))
from_read text None is = tt
from_read text (Some (segments, rest)) is =
    let sound = read_ipv6_sound text segments rest is in
    cond_both (length rest == 0) (Some segments) None (λ (whole : Option (List ℕ)). IfRead IsAsciiHost (ipv6_host whole))
    (λ _. bracketed segments (segments_fit sound.0 segments sound.2)) (λ _. tt)

address_ascii : (bytes : List ℕ) → IfRead IsAsciiHost (parse_bracketed bytes)
unfolding parse_bracketed
address_ascii bytes =
    let text = slice_range bytes 1 (length bytes - 1) in
    cond_both (get_or bytes (length bytes - 1) 0 == 93) _ _ (IfRead IsAsciiHost) (λ _. from_read text (read_ipv6 text) refl) (λ _. tt)

octets_fit : (bits k : ℕ) → get_or (to_be_bytes w32 bits) k 0 < 2 ^ 8
octets_fit bits zero = omega arith
octets_fit bits (suc zero) = omega arith
octets_fit bits (suc (suc zero)) = omega arith
octets_fit bits (suc (suc (suc zero))) = omega arith
octets_fit bits (suc (suc (suc (suc k)))) = omega arith

dotted_ascii : (bits : Option ℕ) → IfRead IsAsciiHost (ipv4_host bits)
dotted_ascii None = tt
dotted_ascii (Some bits) =
    let octets = to_be_bytes w32 bits in
    IsAscii-from_all (ipv4_text octets) (All-weaker IsDigitOrDot (λ b. b < 128) (λ b digit. grind arith) (ipv4_text octets) (All-ipv4_text octets (octets_fit bits)))

-- ---- names

domain_ascii : (domain : Option (List ℕ)) → IfRead IsAsciiHost (host_of_ascii domain)
domain_ascii None = tt
domain_ascii (Some domain) =
    cond_both (is_empty domain) _ _ (IfRead IsAsciiHost) (λ _. tt)
    (λ _. cond_both (list_any is_forbidden_in_domain domain) _ _ (IfRead IsAsciiHost) (λ _. tt)
    (λ none. cond_both (ends_in_a_number domain) _ _ (IfRead IsAsciiHost) (λ _. dotted_ascii (parse_ipv4 domain))
    (λ _. IsAscii_from_kept FORBIDDEN_DOMAIN domain (none_from_list_any is_forbidden_in_domain domain none))))

special_ascii : (bytes : List ℕ) → IfRead IsAsciiHost (parse_special_host bytes)
unfolding parse_special_host
special_ascii bytes = cond_both (get_or bytes 0 0 == 91) _ _ (IfRead IsAsciiHost) (λ _. address_ascii bytes) (λ _. domain_ascii (ascii_domain (percent_decode bytes)))

opaque_ascii : (bytes : List ℕ) → IfRead IsAsciiHost (parse_opaque_host bytes)
unfolding parse_opaque_host
opaque_ascii bytes =
    cond_both (get_or bytes 0 0 == 91) _ _ (IfRead IsAsciiHost) (λ _. address_ascii bytes)
    (λ _. cond_both (list_any is_forbidden_in_host bytes) (Err InvalidDomainCharacter) (Ok (Domain (percent_encode CONTROLS bytes))) (IfRead IsAsciiHost) (λ _. tt) (λ _. IsAscii-percent_encode CONTROLS bytes))

without_ascii : (host : Host (List ℕ)) → IsAsciiHost host → IsAsciiHost (without_localhost host)
without_ascii (Domain domain) ascii = cond_both (bytes_eq domain (codes "localhost")) [] domain IsAscii (λ _. IsAscii-nil) (λ _. ascii)
without_ascii (Ipv4 address) ascii = ascii
without_ascii (Ipv6 address) ascii = ascii

mapped_ascii : (read : Result (Host (List ℕ)) ParseError) → IfRead IsAsciiHost read → IfRead IsAsciiHost (result_map_both without_localhost (λ (e : ParseError). e) read)
mapped_ascii (Ok host) ascii = without_ascii host ascii
mapped_ascii (Err e) ascii = tt

pub file_ascii : (bytes : List ℕ) → IfRead IsAsciiHost (parse_file_host bytes)
unfolding parse_file_host
file_ascii bytes =
    cond_both (is_empty bytes) _ _ (IfRead IsAsciiHost) (λ _. IsAscii-nil) (λ _. mapped_ascii (parse_special_host bytes) (special_ascii bytes))

-- the host of a URL of any kind
pub host_ascii : (kind : SchemeType) (bytes : List ℕ) → IfRead IsAsciiHost (parse_host kind bytes)
host_ascii File bytes = file_ascii bytes
host_ascii SpecialNotFile bytes = special_ascii bytes
host_ascii NotSpecial bytes = opaque_ascii bytes

-- The host and the scheme of a plain URL.
use Rattle.std.proofs.Common.{◌≡◌, ℕ, ◌<◌, true, false, List, [], ◌∷◌, length, get_or, Option, Some, None, sym, refl, arith, lit<}
use Rattle.std.specs.List.{list_all}
use Rattle.std.specs.Char.{is_ascii_digit, is_ascii_uppercase}
use Rattle.std.proofs.lemmas.Bool.{cond-false, true≢false}
use Rattle.std.proofs.lemmas.Bool.Decides.{nat_tests}
use Rattle.std.proofs.lemmas.List.Elements.{All-weaker}
use Rattle.percent_encoding.specs.Percent.{IsKept}
use Rattle.url.specs.declared.sets.TheConstants.{FORBIDDEN_DOMAIN}
use Rattle.url.specs.declared.scheme.SchemeType.TheVariants.{SpecialNotFile}
use Rattle.url.specs.Input.{rsplit_once}
use Rattle.url.specs.Scheme.{IsScheme, scheme_len, scheme_type, default_port}
use Rattle.url.specs.Host.{IsDomain}
use Rattle.url.specs.Ipv4.{last_label_of, ends_in_a_number, is_number, parse_number}
use Rattle.url.proofs.InputLemmas.{Passes, All_from_list_all, map_fixed, lowercase_other, is_empty_nonempty}
use Rattle.url.proofs.SetLemmas.{kept_from_passes}
use Rattle.dnr_base.specs.declared.scheme.Scheme.{Scheme}
use Rattle.dnr_base.specs.declared.scheme.Scheme.TheVariants.{Http, Https, Ws, Wss, Ftp, ChromeExtension}
use Rattle.dnr_base.specs.Scheme.{scheme_text, scheme_named}
use Rattle.dnr_base.specs.View.{is_name_byte}
use Rattle.url_view.specs.Plain.{is_web, is_lower_letter, is_named}

name_byte_kept : (b : ℕ) → Passes is_name_byte b → IsKept FORBIDDEN_DOMAIN b
name_byte_kept b passes =
    kept_from_passes is_name_byte FORBIDDEN_DOMAIN refl b (grind (arith, nat_tests)) passes

name_byte_lower : (b : ℕ) → Passes is_name_byte b → is_ascii_uppercase b ≡ false
name_byte_lower b passes = grind (arith, nat_tests)

-- a label that begins with a letter is no number
no_number : (front : Option (List ℕ)) (last : List ℕ) → is_lower_letter (get_or last 0 0) ≡ true
    → (last_label_of front last ≡ last) × ((list_all is_ascii_digit last) ≡ false) × (is_number (parse_number last) ≡ false)
unfolding parse_number
no_number front [] letter = absurd (true≢false (sym letter))
no_number None (b ∷ last) letter = (refl, grind (arith, nat_tests), grind (arith, nat_tests))
no_number (Some front) (b ∷ last) letter =
    (cond-false _ (rsplit_once 46 front).1 (b ∷ last) (is_empty_nonempty (b ∷ last) (omega arith)), grind (arith, nat_tests), grind (arith, nat_tests))

not_in_a_number : (host : List ℕ) → is_named host ≡ true → ends_in_a_number host ≡ false
unfolding ends_in_a_number
not_in_a_number host named =
    let r = rsplit_once 46 host in
    let no = no_number r.0 r.1 named in
    rw (no.0, no.1, no.2) (grind (arith, nat_tests))

pub is_domain : (host : List ℕ) → list_all is_name_byte host ≡ true → is_named host ≡ true
    → IsDomain host
is_domain host name named =
    let all = All_from_list_all is_name_byte host name in
    record {
      allowed = All-weaker (Passes is_name_byte) (IsKept FORBIDDEN_DOMAIN) name_byte_kept host all;
      lower = map_fixed _ host (All-weaker (Passes is_name_byte) _ (λ b passes. lowercase_other b (name_byte_lower b passes)) host all);
      named = not_in_a_number host named;
    }

pub host_is_long : (host : List ℕ) → is_named host ≡ true → 0 < length host
unfolding rsplit_once
host_is_long [] named = absurd (true≢false (sym named))
host_is_long (b ∷ host) named = omega arith

-- ---- the scheme

pub is_scheme : (scheme : Scheme) → is_web scheme ≡ true → IsScheme (scheme_text scheme)
unfolding scheme_len
is_scheme Http web = record { nonempty = lit< tt; whole = refl; lower = refl }
is_scheme Https web = record { nonempty = lit< tt; whole = refl; lower = refl }
is_scheme Ws web = record { nonempty = lit< tt; whole = refl; lower = refl }
is_scheme Wss web = record { nonempty = lit< tt; whole = refl; lower = refl }
is_scheme Ftp web = absurd (true≢false (sym web))
is_scheme ChromeExtension web = absurd (true≢false (sym web))

pub is_special_scheme : (scheme : Scheme) → is_web scheme ≡ true
    → scheme_type (scheme_text scheme) ≡ SpecialNotFile
unfolding scheme_type default_port
is_special_scheme Http web = refl
is_special_scheme Https web = refl
is_special_scheme Ws web = refl
is_special_scheme Wss web = refl
is_special_scheme Ftp web = absurd (true≢false (sym web))
is_special_scheme ChromeExtension web = absurd (true≢false (sym web))

pub is_named_scheme : (scheme : Scheme) → scheme_named (scheme_text scheme) ≡ Some scheme
is_named_scheme Http = refl
is_named_scheme Https = refl
is_named_scheme Ws = refl
is_named_scheme Wss = refl
is_named_scheme Ftp = refl
is_named_scheme ChromeExtension = refl

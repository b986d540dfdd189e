-- A test of response headers that is read is kept with its name in lower case.
use Rattle.std.proofs.Common.{◌≡◌, ℕ, List, [], ◌∷◌, map, length, Bool, true, false, ◌&&◌, ◌||◌, ◌==◌, nat_lt, nat_le, Option, Some, None, refl, sym, ap, ◌∙◌, arith}
use Rattle.std.specs.Prelude.{IfSome, unwrap_or, option_map}
use Rattle.std.specs.Option.{option_map_or}
use Rattle.std.specs.List.{list_all, list_any}
use Rattle.std.specs.Char.{to_ascii_lowercase}
use Rattle.std.specs.Str.{bytes_eq, str_to_ascii_lowercase}
use Rattle.std.proofs.lemmas.Bool.{and_parts}
use Rattle.std.proofs.lemmas.Bool.Decides.{nat_tests}
use Rattle.std.proofs.lemmas.List.{length-map}
use Rattle.std.proofs.lemmas.Slice.Eq.{bytes_eq-Decides}
use Rattle.http_header.specs.Token.{is_token_byte, lowercase}
use Rattle.http_header.proofs.TokenLemmas.{is_token_byte-to_ascii_lowercase, lowercase-lowercase_lem}
use Rattle.dnr_base.specs.Request.{is_short_name}
use Rattle.dnr_spec.specs.Headers.{is_name}
use Rattle.dnr_spec.specs.HeaderTests.{HeaderTest, are_given_whole, are_value_patterns, is_header_test, in_lower_case, is_kept_test}
use Rattle.rule_spec.specs.IsRule.{AreTests, IsGivenWhole}
use Rattle.json_spec.specs.ReadRule.{lists_no_value}

-- ---- names

shorter : (all : Bool) (n : ℕ) → ((nat_lt 0 n && all) && nat_le n 65535) && nat_le n 256 ≡ (nat_lt 0 n && nat_le n 256) && all
shorter true n = grind (arith, nat_tests)
shorter false n = grind (arith, nat_tests)

in_order : (all same : Bool) (n : ℕ) → (((nat_lt 0 n && all) && nat_le n 65535) && same) && nat_le n 256 ≡ ((nat_lt 0 n && nat_le n 256) && all) && same
in_order true true n = grind (arith, nat_tests)
in_order true false n = grind (arith, nat_tests)
in_order false true n = grind (arith, nat_tests)
in_order false false n = grind (arith, nat_tests)

-- the two tests of names, with one test of the length
abbrev is_short_token : List ℕ → Bool
is_short_token name = (nat_lt 0 (length name) && nat_le (length name) 256) && list_all is_token_byte name

is_name_by_bytes : (name : List ℕ) → is_name name ≡ is_short_token name
unfolding is_name is_token_byte
is_name_by_bytes name = shorter (list_all is_token_byte name) (length name)

is_short_by_bytes : (name : List ℕ) → is_short_name name ≡ is_short_token name && bytes_eq (lowercase name) name
unfolding is_token_byte
is_short_by_bytes name = in_order (list_all is_token_byte name) (bytes_eq (lowercase name) name) (length name)

tokens_lowered : (name : List ℕ) → list_all is_token_byte name ≡ true → list_all is_token_byte (map to_ascii_lowercase name) ≡ true
tokens_lowered [] h = refl
tokens_lowered (b ∷ name) h =
    let both = and_parts (is_token_byte b) (list_all is_token_byte name) h in
    ap (λ t. t && list_all is_token_byte (map to_ascii_lowercase name)) (is_token_byte-to_ascii_lowercase b both.0) ∙ tokens_lowered name both.1

token_lowered : (name : List ℕ) → is_short_token name ≡ true → is_short_token (lowercase name) ≡ true
token_lowered name h =
    let both = and_parts (nat_lt 0 (length name) && nat_le (length name) 256) (list_all is_token_byte name) h in
    ap (λ n. (nat_lt 0 n && nat_le n 256) && list_all is_token_byte (lowercase name)) (length-map name to_ascii_lowercase)
    ∙ ap (λ t. t && list_all is_token_byte (lowercase name)) both.0
    ∙ tokens_lowered name both.1

name_lowered : (name : List ℕ) → is_name name ≡ true → (is_name (str_to_ascii_lowercase name) ≡ true) × (is_short_name (str_to_ascii_lowercase name) ≡ true)
name_lowered name h =
    let lower = str_to_ascii_lowercase name in
    let token : is_short_token lower ≡ true = token_lowered name (sym (is_name_by_bytes name) ∙ h) in
    let same : bytes_eq (lowercase lower) lower ≡ true = (bytes_eq-Decides (lowercase lower) lower).1 (lowercase-lowercase_lem name) in
    (is_name_by_bytes lower ∙ token, is_short_by_bytes lower ∙ ap (λ t. t && bytes_eq (lowercase lower) lower) token ∙ same)

-- ---- tests

-- patterns that are given are some
values_given : (values : Option (List (List ℕ))) → option_map_or (λ patterns. length patterns == 0) values false ≡ false → are_given_whole values ≡ true
values_given None h = refl
values_given (Some patterns) h = grind (arith, nat_tests)

form_lowered : (name : List ℕ) (values excluded : Bool) → (is_name name && values && excluded) ≡ true
    → (is_name (str_to_ascii_lowercase name) && values && excluded) ≡ true
form_lowered name values excluded h =
    let both = and_parts (is_name name && values) excluded h in
    let first = and_parts (is_name name) values both.0 in
    ap (λ t. t && values && excluded) (name_lowered name first.0).0 ∙ ap (λ t. t && excluded) first.1 ∙ both.1

kept_by : (name : List ℕ) (given values excluded : Bool) → given ≡ true → (is_name name && values && excluded) ≡ true
    → (is_short_name (str_to_ascii_lowercase name) && given && (is_name (str_to_ascii_lowercase name) && values && excluded)) ≡ true
kept_by name given values excluded some form =
    let named = (and_parts (is_name name) values (and_parts (is_name name && values) excluded form).0).0 in
    let rest = is_name (str_to_ascii_lowercase name) && values && excluded in
    ap (λ t. t && given && rest) (name_lowered name named).1
    ∙ ap (λ t. t && rest) some
    ∙ form_lowered name values excluded form

is_kept : (test : HeaderTest) → lists_no_value test ≡ false → is_header_test test ≡ true → is_kept_test (in_lower_case test) ≡ true
unfolding is_kept_test
is_kept test some form =
    kept_by test.name (are_given_whole test.values) (option_map_or are_value_patterns test.values true) (are_value_patterns test.excluded)
    (values_given test.values some) form

neither : (a b : Bool) → (a || b) ≡ false → (a ≡ false) × (b ≡ false)
neither true b h = cc
neither false b h = (refl, h)

are_kept : (tests : List HeaderTest) → list_any lists_no_value tests ≡ false → list_all is_header_test tests ≡ true → AreTests (map in_lower_case tests)
are_kept [] some form = refl
are_kept (test ∷ tests) some form =
    let first = neither (lists_no_value test) (list_any lists_no_value tests) some in
    let second = and_parts (is_header_test test) (list_all is_header_test tests) form in
    ap (λ t. t && list_all is_kept_test (map in_lower_case tests)) (is_kept test first.0 second.0) ∙ are_kept tests first.1 second.1

-- ---- both lists of tests

-- no test lists no value, and each has its form
pub record PassTests (tests : List HeaderTest) : Type 0 where
  pub values : list_any lists_no_value tests ≡ false
  pub form : list_all is_header_test tests ≡ true

pub tests_kept : (o : Option (List HeaderTest)) → IfSome o PassTests → IfSome (option_map (map in_lower_case) o) AreTests
tests_kept None h = tt
tests_kept (Some tests) h = are_kept tests h.values h.form

pub or_no_tests_kept : (o : Option (List HeaderTest)) → IfSome o PassTests → AreTests (map in_lower_case (unwrap_or o []))
or_no_tests_kept None h = refl
or_no_tests_kept (Some tests) h = are_kept tests h.values h.form

pub tests_given : (o : Option (List HeaderTest)) → IsGivenWhole o → IsGivenWhole (option_map (map in_lower_case) o)
tests_given None h = tt
tests_given (Some tests) h = omega (arith, h, length-map tests in_lower_case)

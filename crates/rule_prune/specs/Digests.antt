-- What a condition tests of response headers, as one number: equal tests have equal numbers. No proof
-- looks into the number.
use Rattle.std.specs.Prelude.{ℕ, ◌*◌, ◌%◌, ◌^◌, List, fold, bit_xor, Bool, true, false, ◌==◌, Option, Some, None, map, if◌then◌else◌}
use Rattle.dnr_spec.specs.HeaderTests.{HeaderTest}
use Rattle.rule_spec.specs.Rule.{Condition, Rule}
use Rattle.prune_spec.specs.Shadows.{has_no_tests}

-- one byte more, or one mark: the step of FNV-1a at 32 bits
unfoldable pub mixed : ℕ → ℕ → ℕ
mixed digest byte = bit_xor digest byte * 16777619 % 2 ^ 32

-- a mark that is no byte stands behind each text, behind each list, and for a list that is not given
abbrev pub text_mixed : ℕ → List ℕ → ℕ
text_mixed digest text = mixed (fold mixed digest text) 256

abbrev pub texts_mixed : ℕ → List (List ℕ) → ℕ
texts_mixed digest texts = mixed (fold text_mixed digest texts) 257

abbrev pub given_mixed : ℕ → Option (List (List ℕ)) → ℕ
given_mixed digest None = mixed digest 258
given_mixed digest (Some texts) = texts_mixed digest texts

abbrev pub test_mixed : ℕ → HeaderTest → ℕ
test_mixed digest test = texts_mixed (given_mixed (text_mixed digest test.name) test.values) test.excluded

abbrev pub tests_mixed : ℕ → List HeaderTest → ℕ
tests_mixed digest tests = mixed (fold test_mixed digest tests) 257

abbrev pub given_tests_mixed : ℕ → Option (List HeaderTest) → ℕ
given_tests_mixed digest None = mixed digest 258
given_tests_mixed digest (Some tests) = tests_mixed digest tests

-- of a condition that tests response headers
abbrev pub digest_of : Condition → Option ℕ
digest_of c =
    if has_no_tests c.header_tests c.not_header_tests then None
    else Some (tests_mixed (given_tests_mixed 2166136261 c.header_tests) c.not_header_tests)

abbrev pub digests_of : List Rule → List (Option ℕ)
digests_of rules = map (λ rule. digest_of rule.condition) rules

-- the one tests nothing, or maybe what the other tests
abbrev pub may_be_same : Option ℕ → Option ℕ → Bool
may_be_same None s = true
may_be_same (Some k) None = false
may_be_same (Some k) (Some s) = k == s

-- Tests of response headers as they are kept, where each has its form.
use Rattle.std.specs.Prelude.{ℕ, List, map, Bool, Option, Some, None, option_map, if◌then◌else◌}
use Rattle.std.specs.List.{list_all}
use Rattle.dnr_spec.specs.HeaderTests.{HeaderTest, is_value_pattern, is_header_test, in_lower_case}

-- what is made of each, if all pass the test
abbrev pub made_of_all : {X Y : Type 0} → (X → Bool) → (X → Y) → List X → Option (List Y)
made_of_all test make xs = if list_all test xs then Some (map make xs) else None

abbrev pub kept_patterns : List (List ℕ) → Option (List (List ℕ))
kept_patterns texts = made_of_all is_value_pattern (λ text. text) texts

-- of patterns that may be absent
abbrev pub kept_values : Option (List (List ℕ)) → Option (Option (List (List ℕ)))
kept_values None = Some None
kept_values (Some texts) = option_map Some (kept_patterns texts)

abbrev pub kept_test : HeaderTest → Option HeaderTest
kept_test test = if is_header_test test then Some (in_lower_case test) else None

abbrev pub kept_tests : List HeaderTest → Option (List HeaderTest)
kept_tests tests = made_of_all is_header_test in_lower_case tests

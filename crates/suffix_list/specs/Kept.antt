-- The rules as a list keeps them: their labels in one text.
use Rattle.std.specs.Prelude.{ℕ, ◌+◌, ◌≡◌, max, List, [], ◌∷◌, length, drop, slice_get, String, string_bytes, codes, nat_eq, Bool, true, false, not, ◌==◌, ◌&&◌, ◌||◌, Option, Some, None, MatchOption, if◌then◌else◌}
use Rattle.std.specs.List.{list_all, list_any, starts_with}
use Rattle.std.specs.HashSet.{HashSet, contains_text}
use Rattle.std.specs.Str.{bytes_eq}
use Rattle.std.specs.Borrow.{Bor}
use Rattle.dnr_spec.specs.Hosts.{labels_of}
use Rattle.dnr_spec.specs.Suffixes.{SuffixRule, matches}
use Rattle.suffix_list.specs.declared.rule.Rule.{Rule}
use Rattle.suffix_list.specs.declared.tables.Tables.{Tables}

abbrev pub text_of : Rule → List ℕ
text_of rule = string_bytes rule.text

abbrev pub labels : Rule → List (List ℕ)
labels rule = labels_of (text_of rule)

abbrev pub labels_in : {A : Type 0} → String A → List (List ℕ)
labels_in text = labels_of (string_bytes text)

-- the rule that a kept rule is
abbrev pub seen : Rule → SuffixRule
seen rule = record { exception = rule.exception; labels = labels rule }

abbrev pub is_no_star : ℕ → Bool
is_no_star b = not (b == 42)

abbrev pub has_no_star : List ℕ → Bool
has_no_star text = list_all is_no_star text

-- a rule without `*`, and no exception
abbrev pub is_plain : Rule → Bool
is_plain rule = not rule.exception && has_no_star (text_of rule)

-- a rule whose first label alone is `*`, and no exception
abbrev pub is_starred : Rule → Bool
is_starred rule = not rule.exception && (starts_with nat_eq (text_of rule) (codes "*.") && has_no_star (drop 2 (text_of rule)))

-- the rest of such a rule
abbrev pub IsBehindStar : Rule → Option (Bor (List ℕ)) → Type 0
IsBehindStar rule rest = MatchOption rest (is_starred rule ≡ false) (λ text. (is_starred rule ≡ true) × (text.now ≡ drop 2 (text_of rule)))

-- exceptions, and rules with `*` elsewhere
abbrev pub is_other : Rule → Bool
is_other rule = not (is_plain rule || is_starred rule)

-- the greatest count of labels of the rules that pass, or 0
abbrev pub most : (Rule → Bool) → List Rule → ℕ
most test [] = 0
most test (rule ∷ rules) = if test rule then max (length (labels rule)) (most test rules) else most test rules

-- the places of the rules that pass, where the list begins at this place
abbrev pub places_from : (Rule → Bool) → ℕ → List Rule → List ℕ
places_from test place [] = []
places_from test place (rule ∷ rules) = if test rule then place ∷ places_from test (place + 1) rules else places_from test (place + 1) rules

-- the rules that are looked up by their text
abbrev pub is_listed : Rule → Bool
is_listed rule = is_plain rule || is_starred rule

-- what the tables and the places hold, for these rules
pub record AreTables {Y S : Type 0} (rules : List Rule) (plain starred : HashSet (String Y) S) (others : List ℕ) : Type 0 where
  pub plain_texts : (q : List ℕ) → contains_text plain q ≡ list_any (λ rule. is_plain rule && bytes_eq (text_of rule) q) rules
  pub starred_texts : (q : List ℕ) → contains_text starred q ≡ list_any (λ rule. is_starred rule && bytes_eq (drop 2 (text_of rule)) q) rules
  pub other_places : others ≡ places_from is_other 0 rules

abbrev pub AreTablesOf : List Rule → Tables → Type 0
AreTablesOf rules tables = AreTables rules tables.plain.texts tables.starred.texts tables.others.items

-- whether a table has the name, or the other one what stands behind its first label
abbrev pub is_found : {Y S : Type 0} → HashSet (String Y) S → HashSet (String Y) S → List ℕ → Option (Bor (List ℕ)) → Bool
is_found plain starred name None = contains_text plain name
is_found plain starred name (Some rest) = contains_text plain name || contains_text starred rest.now

-- how many labels the longest of these rules has that matches, or 0
abbrev pub listed_len : List (List ℕ) → List Rule → ℕ
listed_len name rules = most (λ rule. is_listed rule && matches (labels rule) name) rules

abbrev pub is_matching_exception : List (List ℕ) → Rule → Bool
is_matching_exception name rule = rule.exception && matches (labels rule) name

abbrev pub is_matching_rule : List (List ℕ) → Rule → Bool
is_matching_rule name rule = not rule.exception && matches (labels rule) name

abbrev pub len_if : (Rule → Bool) → Rule → ℕ
len_if test rule = if test rule then length (labels rule) else 0

abbrev pub other_exception_len : List (List ℕ) → List Rule → ℕ
other_exception_len name rules = most (λ rule. is_other rule && is_matching_exception name rule) rules

abbrev pub other_rule_len : List (List ℕ) → List Rule → ℕ
other_rule_len name rules = most (λ rule. is_other rule && is_matching_rule name rule) rules

-- the rules at these places
abbrev pub with_rule : Option Rule → List Rule → List Rule
with_rule None rules = rules
with_rule (Some rule) rules = rule ∷ rules

abbrev pub rules_at : List Rule → List ℕ → List Rule
rules_at rules [] = []
rules_at rules (place ∷ places) = with_rule (slice_get rules place) (rules_at rules places)

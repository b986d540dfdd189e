-- How many rules there are and how many of them count for a limit, and what is known of them by their ids.
use Rattle.std.specs.Prelude.{ℕ, ◌+◌, ◌-◌, ◌^◌, ◌<◌, ◌==◌, List, length, count_by, All, Bool}
use Rattle.std.specs.List.Sorted.{IsNonDecreasingBy}
use Rattle.rule_spec.specs.Rule.{Rule, is_unsafe}
use Rattle.update_spec.specs.Judge.{uses_regex, count_unsafe}
use Rattle.rule_ids.specs.declared.counts.Counts.{Counts}
use Rattle.rule_ids.specs.declared.known_rule.KnownRule.{KnownRule}

abbrev pub counts_of : List Rule → Counts
counts_of rules = record { rules = length rules; patterns = count_by uses_regex rules; unsafe_rules = count_unsafe rules }

abbrev pub sum_of : Counts → Counts → Counts
sum_of a b = record {
  rules = a.rules + b.rules;
  patterns = a.patterns + b.patterns;
  unsafe_rules = a.unsafe_rules + b.unsafe_rules;
}

abbrev pub less : Counts → Counts → Counts
less a b = record {
  rules = a.rules - b.rules;
  patterns = a.patterns - b.patterns;
  unsafe_rules = a.unsafe_rules - b.unsafe_rules;
}

abbrev pub known_of : Rule → KnownRule
known_of rule = record { id = rule.id; uses_regex = uses_regex rule; is_unsafe = is_unsafe rule.action }

abbrev pub has_known_id : ℕ → KnownRule → Bool
has_known_id id one = id == one.id

abbrev pub counts_among : List KnownRule → Counts
counts_among known = record {
  rules = length known;
  patterns = count_by (λ one. one.uses_regex) known;
  unsafe_rules = count_by (λ one. one.is_unsafe) known;
}

-- in the order of the ids
abbrev pub IsRising : List KnownRule → Type 0
IsRising known = IsNonDecreasingBy (λ one. one.id) known

-- ids are small numbers
abbrev pub AreSmall : List KnownRule → Type 0
AreSmall known = All (λ one. one.id < 2 ^ 32) known

pub record AreKnown (known : List KnownRule) : Type 0 where
  pub rising : IsRising known
  pub small : AreSmall known

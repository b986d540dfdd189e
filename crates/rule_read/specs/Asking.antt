-- What a pattern host is asked for while rules are read: the regexFilter of a rule with its case, once.
use Rattle.std.specs.Prelude.{◌≡◌, ◌⊎◌, ℕ, List, [], ◌∷◌, ◌++◌, Bool, false, not, Option, Some, None, unwrap_or}
use Rattle.regex_host.specs.Asked.{Asked, AsksFor}
use Rattle.rule_spec.specs.Rule.{Condition, Rule}
use Rattle.json_spec.specs.RuleFields.{Fields}

abbrev pub asked_for : Option (List ℕ) → Bool → List Asked
asked_for None case_sensitive = []
asked_for (Some pattern) case_sensitive = record { pattern = pattern; fold = not case_sensitive } ∷ []

-- of the fields of a condition
abbrev pub asked_by : Fields → List Asked
asked_by f = asked_for f.regex_filter (unwrap_or f.case_sensitive false)

abbrev pub asked_of : Condition → List Asked
asked_of condition = asked_for condition.regex_filter condition.case_sensitive

abbrev pub asked_of_all : List Rule → List Asked
asked_of_all [] = []
asked_of_all (rule ∷ rules) = asked_of rule.condition ++ asked_of_all rules

-- the host is asked for these, or for nothing
abbrev pub AsksOrNot : {S : Type 0} → (S → Asked → S → Type 0) → S → List Asked → S → Type 0
AsksOrNot asks before list now = AsksFor asks before list now ⊎ (now ≡ before)

-- of a rule that was read behind others
abbrev pub AsksNext : {S : Type 0} → (S → Asked → S → Type 0) → S → S → List Rule → List Rule → Type 0
AsksNext asks before now rules more =
    (rule : Rule) × (more ≡ rules ++ rule ∷ []) × AsksFor asks before (asked_of rule.condition) now

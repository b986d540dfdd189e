-- Rulesets that were read, and their ids.
use Rattle.std.specs.Prelude.{◌≡◌, ℕ, List, map, String}
use Rattle.std.specs.BTreeSet.{BTreeSet, contains_text}
use Rattle.std.specs.declared.alloc.Global.{Global}
use Rattle.update_spec.specs.Update.{NewRuleSet}
use Rattle.load_spec.specs.Manifest.{has_text}

abbrev pub ids_of : List NewRuleSet → List (List ℕ)
ids_of sets = map (λ (set : NewRuleSet). set.id) sets

-- the set holds the ids of the rulesets, and no others
abbrev pub HasIdsOf : BTreeSet (String Global) → List NewRuleSet → Type 0
HasIdsOf ids sets = (id : List ℕ) → contains_text ids id ≡ has_text (ids_of sets) id

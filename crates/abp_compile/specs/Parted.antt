-- The initiators of a filter's rules, where its listed domains are parted into those under an excluded one, and others.
use Rattle.std.specs.Prelude.{ℕ, List, [], ◌∷◌, ◌++◌, map, Some, None, IfSome}
use Rattle.rule_spec.specs.IsRule.{AreDomains}
use Rattle.compile_spec.specs.Initiators.{Initiators, single}

-- those of the rule that the others share, or of the one rule where nothing is nested, if there is such a rule
abbrev pub in_common : List (List ℕ) → List (List ℕ) → List (List ℕ) → List Initiators
in_common excluded [] [] = record { among = None; not_among = excluded } ∷ []
in_common excluded [] (domain ∷ nested) = []
in_common excluded (domain ∷ others) nested = record { among = Some (domain ∷ others); not_among = excluded } ∷ []

abbrev pub parted : List (List ℕ) → List (List ℕ) → List (List ℕ) → List Initiators
parted excluded others nested = in_common excluded others nested ++ map (single excluded) nested

-- a rule may name their domains
pub record CanBeNamed (initiators : Initiators) : Type 0 where
  pub among : IfSome initiators.among AreDomains
  pub not_among : AreDomains initiators.not_among

-- Sets of ids that are asked for one by one.
use Rattle.std.specs.Prelude.{◌≡◌, ℤ, List}
use Rattle.std.specs.List.{list_any}
use Rattle.std.specs.Ordering.{int_cmp, int_eq}
use Rattle.std.specs.BTreeSet.{BTreeSet, contains_by}

-- the set has these whole numbers
abbrev pub HasWholes : BTreeSet ℤ → List ℤ → Type 0
HasWholes set ids = (id : ℤ) → contains_by (int_cmp id) set ≡ list_any (λ other. int_eq id other) ids

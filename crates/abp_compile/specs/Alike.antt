-- What alike filters have in common, as texts by which a table finds them again.
use Rattle.std.specs.Prelude.{ℕ, List, ◌∷◌, map, Bool, Option, Some, None, is_some, ◌&&◌, if◌then◌else◌}
use Rattle.std.specs.Cmp.Lexicographic.{pointwise}
use Rattle.std.specs.Str.{bytes_eq}
use Rattle.dnr_base.specs.Kind.{all_kinds, has_kind}
use Rattle.list_spec.specs.LineKind.{FilterLine}
use Rattle.compile_spec.specs.Alike.{plain_domain, set_of_entries}

-- `+` for yes, `-` for no
abbrev pub mark : Bool → ℕ
mark answer = if answer then 43 else 45

-- and `*` where nothing is asked
abbrev pub party_mark : Option Bool → ℕ
party_mark None = 42
party_mark (Some third) = mark third

-- what it says of exceptions, of the party, of pages, and of each type
abbrev pub marks : FilterLine → List ℕ
marks filter = mark filter.exception ∷ party_mark filter.third_party ∷ mark filter.document ∷ map (λ kind. mark (has_kind filter.kinds kind)) all_kinds

abbrev pub key_texts : FilterLine → List (List ℕ)
key_texts filter = marks filter ∷ set_of_entries filter.domains

-- a filter of a plain domain that is found by this key
abbrev pub has_key : List (List ℕ) → FilterLine → Bool
has_key key filter = is_some (plain_domain filter.pattern) && pointwise bytes_eq (key_texts filter) key

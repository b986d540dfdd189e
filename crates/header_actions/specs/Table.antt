-- The values of each header, as they are kept while changes are made.
use Rattle.std.specs.Prelude.{◌≡◌, ℕ, List, [], ◌++◌, map, bytes_eq, Option, option_map, unwrap_or, option_to_list, Vec, flat_map, filter, if◌then◌else◌}
use Rattle.std.specs.declared.cmp.Ordering.{Ordering}
use Rattle.std.specs.Ordering.{nat_cmp}
use Rattle.std.specs.Cmp.Lexicographic.{slice_cmp}
use Rattle.std.specs.Borrow.{Bor}
use Rattle.std.specs.declared.alloc.Global.{Global}
use Rattle.std.specs.BTreeMap.{BTreeMap, get_by}
use Rattle.dnr_base.specs.declared.operation.Operation.{Operation}
use Rattle.dnr_base.specs.declared.operation.Operation.TheVariants.{Append, Set, Remove}
use Rattle.dnr_base.specs.declared.header.Header.{Header}

-- ---- by the definition

-- the values of a header in a list
abbrev pub values_of : List ℕ → List Header → List (List ℕ)
values_of name headers = map (λ header. header.value) (filter (λ header. bytes_eq header.name name) headers)

-- the values of a header after a change, by those before
abbrev pub changed_values : Operation → List (List ℕ) → Option (List ℕ) → List (List ℕ)
changed_values Append values value = values ++ option_to_list value
changed_values Set values value = option_to_list value
changed_values Remove values value = []

-- ---- what is kept

abbrev pub Texts : Type 0
Texts = Vec (Bor (List ℕ)) Global

abbrev pub Table : Type 0
Table = BTreeMap (Bor (List ℕ)) Texts

-- the order of the names
abbrev pub by_name : Bor (List ℕ) → Bor (List ℕ) → Ordering
by_name a b = slice_cmp nat_cmp a.now b.now

abbrev pub texts_of : Texts → List (List ℕ)
texts_of texts = map (λ text. text.now) texts.items

abbrev pub kept_of : Option Texts → List (List ℕ)
kept_of texts = unwrap_or (option_map texts_of texts) []

-- the values that are kept under a name
abbrev pub values_under : Table → List ℕ → List (List ℕ)
values_under table name = kept_of (get_by (λ k. slice_cmp nat_cmp name k.now) table)

-- a change was made of the header's values, and of no other's
abbrev pub Changes : Table → Table → List ℕ → Operation → Option (List ℕ) → Type 0
Changes old new name operation value =
    (q : List ℕ) → values_under new q ≡ (if bytes_eq name q then changed_values operation (values_under old name) value else values_under old q)

-- the headers of one name
abbrev pub headers_of : List ℕ → List (List ℕ) → List Header
headers_of name values = map (λ value. record { name = name; value = value }) values

-- all headers that are kept, name by name
abbrev pub listed : List (Bor (List ℕ) × Texts) → List Header
listed entries = flat_map (λ entry. headers_of entry.0.now (texts_of entry.1)) entries

-- what is kept are the values of this list
abbrev pub HasValues : Table → List Header → Type 0
HasValues table headers = (name : List ℕ) → values_under table name ≡ values_of name headers

-- The groups of alike filters that were made of some filters.
use Rattle.std.specs.Prelude.{◌≡◌, ℕ, List, [], ◌∷◌, ◌++◌, map, set, get_or, suc, Bool, false, Option, Some, None, option_map, if◌then◌else◌, String, Vec, string_bytes, string_cmp}
use Rattle.std.specs.List.{filter_map}
use Rattle.std.specs.BTreeMap.{BTreeMap, get}
use Rattle.std.specs.Cmp.Lexicographic.{slice_cmp}
use Rattle.std.specs.declared.alloc.Global.{Global}
use Rattle.std.specs.declared.cmp.Ordering.{Ordering}
use Rattle.abp_parse.specs.Seen.{filter_seen}
use Rattle.list_spec.specs.LineKind as lines
use Rattle.list_spec.specs.LineKind.{every_url}
use Rattle.compile_spec.specs.Alike.{plain_domain, ascending}
use Rattle.compile_spec.specs.Compiled.{Placed, groups_of, Standing}
use Rattle.compile_spec.specs.Compiled as spec
use Rattle.abp_compile.specs.Alike.{has_key}
use Rattle.abp_compile.specs.declared.groups.Group.{Group}
use Rattle.abp_compile.specs.declared.groups.Groups.{Groups}

-- what is kept of a group: its first filter, its lines, and its plain domains
pub record Told : Type 0 where
  pub filter : lines.FilterLine
  pub lines : List ℕ
  pub domains : List (List ℕ)

abbrev pub told : Group → Told
told group = record { filter = filter_seen group.filter; lines = group.lines.items; domains = map string_bytes group.domains.items }

abbrev pub told_with : Placed → List Placed → Told
told_with first others = record {
  filter = first.filter;
  lines = map (λ one. one.line) (first ∷ others);
  domains = filter_map (λ one. plain_domain one.filter.pattern) (first ∷ others);
}

abbrev pub told_of : spec.Group → Told
told_of group = told_with group.first group.others

-- what stands for a group, by what is kept of it
abbrev pub stands : lines.FilterLine → List (List ℕ) → List ℕ → Standing
stands filter domains [] = record { lines = []; filter = filter; hosts = None }
stands filter domains (line ∷ []) = record { lines = line ∷ []; filter = filter; hosts = None }
stands filter domains (line ∷ next ∷ lines) = record {
  lines = line ∷ next ∷ lines;
  filter = record filter { pattern = every_url; match_case = false };
  hosts = Some (ascending domains);
}

abbrev pub standing_of : Told → Standing
standing_of told = stands told.filter told.domains told.lines

abbrev pub Key : Type 0
Key = Vec (String Global) Global

abbrev pub key_cmp : Key → Key → Ordering
key_cmp one other = slice_cmp string_cmp one.items other.items

-- the place of the first that passes
abbrev pub first_place : {X : Type 0} → (X → Bool) → List X → Option ℕ
first_place test [] = None
first_place test (x ∷ xs) = if test x then Some 0 else option_map suc (first_place test xs)

-- a key leads to the first group whose filter it finds
abbrev pub HasPlaces : BTreeMap Key ℕ → List lines.FilterLine → Type 0
HasPlaces places filters = (key : Key) → get key_cmp places key ≡ first_place (has_key (map string_bytes key.items)) filters

abbrev pub firsts : List Group → List lines.FilterLine
firsts groups = map (λ told. told.filter) (map told groups)

-- each group is found
abbrev pub AreFound : Groups → Type 0
AreFound groups = HasPlaces groups.places (firsts groups.list.items)

-- the groups are those of these filters
abbrev pub HasFilters : Groups → List Placed → Type 0
HasFilters groups placed = map told groups.list.items ≡ map told_of (groups_of placed)

-- one line and domain more
abbrev pub with_more : ℕ → List ℕ → Told → Told
with_more line domain told = record { filter = told.filter; lines = told.lines ++ line ∷ []; domains = told.domains ++ domain ∷ [] }

-- the group at this place has a line and a domain more
abbrev pub HasJoined : ℕ → ℕ → List ℕ → Groups → Groups → Type 0
HasJoined place line domain before now =
    (none : Told) → map told now.list.items ≡ set (map told before.list.items) place (with_more line domain (get_or (map told before.list.items) place none))

-- whatever filters there were before, these have come behind them
abbrev pub Takes : List Placed → Groups → Groups → Type 0
Takes more before now = (placed : List Placed) → HasFilters before placed → HasFilters now (placed ++ more)

-- the filter of a line, if it gives one
abbrev pub placed_in : ℕ → Option lines.FilterLine → List Placed
placed_in number None = []
placed_in number (Some filter) = record { line = number; filter = filter } ∷ []

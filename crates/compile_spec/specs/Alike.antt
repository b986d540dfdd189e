-- Which filters of a list stand as one in its rules: those of one plain domain each that agree in all else but the case
-- of letters, which counts nowhere in a domain.
use Rattle.std.specs.Prelude.{ℕ, List, [], ◌∷◌, map, fold, Bool, not, ◌&&◌, Option, None, is_some, if◌then◌else◌}
use Rattle.std.specs.BTreeSet.{insert_key}
use Rattle.std.specs.Cmp.Lexicographic.{pointwise, slice_cmp}
use Rattle.std.specs.List.{list_all}
use Rattle.std.specs.Option.{option_eq}
use Rattle.std.specs.Ordering.{nat_cmp}
use Rattle.std.specs.Str.{bytes_eq}
use Rattle.dnr_base.specs.declared.kind.Kind.{Kind}
use Rattle.dnr_base.specs.Kind.{all_kinds, has_kind}
use Rattle.plain_domains.specs.PlainDomains as patterns
use Rattle.list_spec.specs.declared.domain_entry.DomainEntry.{DomainEntry}
use Rattle.list_spec.specs.LineKind.{FilterPattern, every_url, plain, regex, FilterLine}

-- ---- patterns of one plain domain

-- the domain of a pattern that is `||`, a plain domain and `^`; other patterns have none
abbrev pub plain_domain : FilterPattern → Option (List ℕ)
plain_domain every_url = None
plain_domain (plain text) = patterns.plain_domain text
plain_domain (regex text) = None

-- ---- sets of texts

-- in ascending order of their bytes, each once
abbrev pub ascending : List (List ℕ) → List (List ℕ)
ascending texts = fold (insert_key (slice_cmp nat_cmp)) [] texts

-- an entry as it stands in the option, in lower case
abbrev pub written_entry : DomainEntry → List ℕ
written_entry entry = if entry.excluded then 126 ∷ entry.domain else entry.domain

-- entries as a set: neither their order nor repeats count
abbrev pub set_of_entries : List DomainEntry → List (List ℕ)
set_of_entries entries = ascending (map written_entry entries)

-- ---- filters that are alike

abbrev pub same_answer : Bool → Bool → Bool
same_answer one other = if one then other else not other

-- the same types
abbrev pub same_types : List Kind → List Kind → Bool
same_types one other = list_all (λ kind. same_answer (has_kind one kind) (has_kind other kind)) all_kinds

-- the same in all that a rule has of a filter, but for its pattern and its case
abbrev pub agree : FilterLine → FilterLine → Bool
agree one other =
    same_answer one.exception other.exception
    && option_eq same_answer one.third_party other.third_party
    && same_types one.kinds other.kinds
    && same_answer one.document other.document
    && pointwise bytes_eq (set_of_entries one.domains) (set_of_entries other.domains)

-- two filters of one plain domain each that agree
abbrev pub alike : FilterLine → FilterLine → Bool
alike one other = is_some (plain_domain one.pattern) && is_some (plain_domain other.pattern) && agree one other

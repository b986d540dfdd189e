-- Lines by the domains that they list.
use Rattle.std.specs.Prelude.{◌≡◌, ℕ, List, [], ◌∷◌, ◌++◌, length, Bool, true, not, ◌&&◌, ◌==◌, String, Vec, if◌then◌else◌}
use Rattle.std.specs.BTreeMap.{BTreeMap, get_by_text}
use Rattle.std.specs.List.{filter_map, slice_get}
use Rattle.std.specs.Option.{option_map_or}
use Rattle.std.specs.Str.{bytes_eq}
use Rattle.std.specs.declared.alloc.Global.{Global}
use Rattle.list_spec.specs.declared.domain_entry.DomainEntry.{DomainEntry}
use Rattle.list_spec.specs.Entries.{is_listed}
use Rattle.list_spec.specs.Says.{lists_none}
use Rattle.hide_spec.specs.HidingLine.{HidingLine}
use Rattle.hide_rules.specs.Members.{In}

-- a line without a domain
abbrev pub is_general : HidingLine → Bool
is_general line = length line.domains == 0

-- a line with domains, all of which are excluded
abbrev pub is_unlisted : HidingLine → Bool
is_unlisted line = not (is_general line) && lists_none line.domains

-- ---- places

abbrev pub Listings : Type 0
Listings = BTreeMap (String Global) (Vec ℕ Global)

abbrev pub places_at : Listings → List ℕ → List ℕ
places_at listings domain = option_map_or (λ places. places.items) (get_by_text listings domain) []

abbrev pub lines_at : List HidingLine → List ℕ → List HidingLine
lines_at lines places = filter_map (slice_get lines) places

-- a place is put behind those of a domain
abbrev pub AddsPlace : List ℕ → ℕ → Listings → Listings → Type 0
AddsPlace domain place old new =
    (other : List ℕ) → places_at new other ≡ (if bytes_eq other domain then places_at old other ++ place ∷ [] else places_at old other)

-- a place is put in at each domain that is listed, and none is taken out
pub record FilesPlace (place : ℕ) (entries : List DomainEntry) (old new : Listings) : Type 0 where
  pub keeps : (domain : List ℕ) (other : ℕ) → In other (places_at old domain) → In other (places_at new domain)
  pub adds : (domain : List ℕ) → is_listed entries domain ≡ true → In place (places_at new domain)

-- ---- lines

-- each of these lines is found at each domain that it lists
abbrev pub FindsEach : List HidingLine → List HidingLine → Listings → Type 0
FindsEach all lines listings =
    (line : HidingLine) (domain : List ℕ) → In line lines → is_listed line.domains domain ≡ true → In line (lines_at all (places_at listings domain))

abbrev pub FindsListed : List HidingLine → Listings → Type 0
FindsListed lines listings = FindsEach lines lines listings

-- each line is found whose domains are all excluded
abbrev pub FindsUnlisted : List HidingLine → List ℕ → Type 0
FindsUnlisted lines places = (line : HidingLine) → In line lines → is_unlisted line ≡ true → In line (lines_at lines places)

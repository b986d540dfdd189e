-- Fields whose names differ, for callers: `IsDistinct` of names that are literals is computed.
use Rattle.std.proofs.Common.{◌≡◌, ℕ, ◌<◌, List, length, get_or, Bool, bytes_eq, sym, ◌∙◌, ⊎_elim, arith}
use Rattle.std.proofs.lemmas.Bool.{cases_eq, cases_lt, true≢false}
use Rattle.std.proofs.lemmas.Slice.Eq.{bytes_eq-Decides}
use Rattle.std.proofs.lemmas.Map.Keys.{apart_from_distinct}
use Rattle.std.specs.List.{IsDistinct}
use Rattle.json_fields.specs.Fields.{AreDistinct}

abbrev pub has_name_of : List ℕ × Bool → List ℕ × Bool → Bool
has_name_of k l = bytes_eq k.0 l.0

later_apart : (keys : List (List ℕ × Bool)) (i j : ℕ) (d : List ℕ × Bool) → IsDistinct has_name_of keys → i < j → j < length keys → (get_or keys i d).0 ≡ (get_or keys j d).0 → ⊥
later_apart keys i j d h before within e =
    true≢false (sym ((bytes_eq-Decides (get_or keys i d).0 (get_or keys j d).0).1 e) ∙ apart_from_distinct has_name_of keys i j d h before within)

pub names_differ : (keys : List (List ℕ × Bool)) → IsDistinct has_name_of keys → AreDistinct keys
names_differ keys h i j d li lj e =
    ⊎_elim
    (λ same. same)
    (λ other. ⊎_elim
    (λ less. absurd (later_apart keys i j d h less lj e))
    (λ more. absurd (later_apart keys j i d h (omega arith) li (sym e)))
    (cases_lt i j))
    (cases_eq i j)

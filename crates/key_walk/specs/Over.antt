-- The places of a table that have a domain which a host lies in.
use Rattle.std.specs.Prelude.{ℕ, List, [], ◌∷◌, Bool, Option, Some, None, if◌then◌else◌}
use Rattle.std.specs.List.{flat_map}
use Rattle.key_table.specs.Pairs.{Pair, near_of}
use Rattle.index_spec.specs.Keys.{rests_of, domains_over}

-- the texts that are left, from this one on; `whole` where it has no rests
abbrev pub domains_left : Option (List ℕ) → Bool → List (List ℕ)
domains_left None whole = []
domains_left (Some text) whole = text ∷ (if whole then [] else rests_of text)

-- the places of these texts that need no more than is shown
abbrev pub near_each : List Pair → Option ℕ → List (List ℕ) → List ℕ
near_each pairs shown texts = flat_map (λ text. near_of text shown pairs) texts

-- the places that have a domain over the host
abbrev pub near_host : List Pair → Option ℕ → List ℕ → List ℕ
near_host pairs shown host = near_each pairs shown (domains_over host)

abbrev pub sharing_host : List Pair → List ℕ → List ℕ
sharing_host pairs host = near_host pairs None host

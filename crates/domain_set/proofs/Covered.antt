-- A set with an order covers what its list covers.
use Rattle.std.proofs.Common.{◌≡◌, ℕ, Bool, List, Option, Some, Box, Vec, sym, ap, ◌∙◌, subst}
use Rattle.std.specs.declared.alloc.Global.{Global}
use Rattle.dnr_spec.specs.Domains.{covers_some}
use Rattle.domain_set.specs.declared.set.Kept.{Kept}
use Rattle.domain_set.specs.Rests.{covers_by}
use Rattle.domain_set.specs.Table.{IsTable, IsOrder, has_text}
use Rattle.domain_set.specs.Kept.{entries_of, IsKept}
use Rattle.domain_set.proofs.Ends.{covers_some-rests}

-- the order that is kept is one of the entries
pub kept_order : (held : Option (Box Kept Global)) (kept : Box Kept Global) (inside : Kept) (order : Box (Vec ℕ Global) Global) (list : List (List ℕ)) (places : List ℕ)
    → IsKept held → held ≡ Some kept → inside ≡ kept.value → inside.order ≡ Some order → list ≡ inside.entries.items → places ≡ order.value.items → IsOrder list places
kept_order held kept inside order list places invariant some opened there entries sorted =
    let own : IsTable kept.value.entries.items kept.value.order = (subst IsKept some invariant).0 in
    let here : IsTable inside.entries.items inside.order = subst (λ (k : Kept). IsTable k.entries.items k.order) (sym opened) own in
    rw (entries, sorted) (subst (IsTable inside.entries.items) there here)

pub covered : (held : Option (Box Kept Global)) (kept : Box Kept Global) (inside : Kept) (list : List (List ℕ)) (host : List ℕ) (answer : Bool)
    → held ≡ Some kept → inside ≡ kept.value → list ≡ inside.entries.items → answer ≡ covers_by (has_text list) host
    → answer ≡ covers_some (entries_of held) host
covered held kept inside list host answer some opened entries told =
    told ∙ sym (covers_some-rests list host) ∙ ap (λ (l : List (List ℕ)). covers_some l host) entries
    ∙ ap (λ (k : Kept). covers_some k.entries.items host) opened
    ∙ ap (λ (o : Option (Box Kept Global)). covers_some (entries_of o) host) (sym some)

-- Lines at places, and the places of lines.
use Rattle.std.proofs.Common.{◌≡◌, ℕ, zero, suc, List, [], ◌∷◌, length, Bool, true, false, not, ◌&&◌, ◌||◌, ◌==◌, ◌⊎◌, inl, inr, refl, sym, ap, ◌∙◌, subst, ⊎_elim, arith, Option, None, Some}
use Rattle.std.specs.Prelude.{filter, unwrap_or}
use Rattle.std.specs.List.{slice_get, cons_option, list_any}
use Rattle.std.specs.Str.{bytes_eq}
use Rattle.std.proofs.lemmas.Bool.{and_parts, and_from, or_cases, or_left, or_right, not_from_false, cases_Bool, cond-true, cond-false, eqb-true}
use Rattle.list_spec.specs.declared.domain_entry.DomainEntry.{DomainEntry}
use Rattle.list_spec.specs.Entries.{is_listed, is_excluded}
use Rattle.list_spec.specs.Says.{lists_none}
use Rattle.hide_spec.specs.HidingLine.{HidingLine}
use Rattle.hide_rules.specs.declared.index.Index.{Index}
use Rattle.hide_rules.specs.Ends.{or_else, said, applies_by}
use Rattle.hide_rules.specs.Index.{Indexes, listed_at, found_for}
use Rattle.hide_rules.specs.Listings.{Listings, is_general, lines_at, places_at}
use Rattle.hide_rules.specs.Members.{In}
use Rattle.hide_rules.specs.Selectors.{is_kind, speaks_of}
use Rattle.hide_rules.proofs.Members.{same_answer, any_out, any_in, in_filtered, in_unfiltered, in_before, in_behind, in_either}

-- ---- lines at places

is_in_or_later : {X : Type 0} (o : Option X) (x : X) (xs : List X) → In x (cons_option o xs) → (o ≡ Some x) ⊎ In x xs
is_in_or_later None x xs i = inr i
is_in_or_later (Some y) x xs (inl e) = inl (ap Some e)
is_in_or_later (Some y) x xs (inr i) = inr i

is_later : {X : Type 0} (o : Option X) (x : X) (xs : List X) → In x xs → In x (cons_option o xs)
is_later None x xs i = i
is_later (Some y) x xs i = inr i

pub line_at : (lines : List HidingLine) (places : List ℕ) (place : ℕ) (line : HidingLine) → In place places → slice_get lines place ≡ Some line → In line (lines_at lines places)
line_at lines [] place line i is = absurd i
line_at lines (first ∷ places) place line (inl e) is =
    let here : slice_get lines first ≡ Some line = ap (slice_get lines) e ∙ is in
    subst (λ (o : Option HidingLine). In line (cons_option o (lines_at lines places))) (sym here) (inl refl)
line_at lines (first ∷ places) place line (inr i) is = is_later (slice_get lines first) line (lines_at lines places) (line_at lines places place line i is)

pub place_of_line : (lines : List HidingLine) (places : List ℕ) (line : HidingLine) → In line (lines_at lines places) → (place : ℕ) × In place places × (slice_get lines place ≡ Some line)
place_of_line lines [] line i = absurd i
place_of_line lines (first ∷ places) line i =
    ⊎_elim
    (λ here. (first, inl refl, here))
    (λ later. let r = place_of_line lines places line later in (r.0, inr r.1, r.2))
    (is_in_or_later (slice_get lines first) line (lines_at lines places) i)

got_in : {X : Type 0} (xs : List X) (place : ℕ) (x : X) → slice_get xs place ≡ Some x → In x xs
got_in [] place x is = cc
got_in (y ∷ xs) zero x is = inl (cc)
got_in (y ∷ xs) (suc place) x is = inr (got_in xs place x is)

at_in : (lines : List HidingLine) (places : List ℕ) (line : HidingLine) → In line (lines_at lines places) → In line lines
at_in lines places line i = let r = place_of_line lines places line i in got_in lines r.0 line r.2

-- ---- the lines that are found for a page

at_listed : (lines : List HidingLine) (listings : Listings) (domains : List (List ℕ)) (domain : List ℕ) (line : HidingLine) → In domain domains → In line (lines_at lines (places_at listings domain))
    → In line (listed_at lines listings domains)
at_listed lines listings [] domain line i there = absurd i
at_listed lines listings (first ∷ domains) domain line (inl e) there =
    in_before line (lines_at lines (places_at listings first)) (listed_at lines listings domains) (subst (λ (d : List ℕ). In line (lines_at lines (places_at listings d))) (sym e) there)
at_listed lines listings (first ∷ domains) domain line (inr i) there =
    in_behind line (lines_at lines (places_at listings first)) (listed_at lines listings domains) (at_listed lines listings domains domain line i there)

listed_in : (lines : List HidingLine) (listings : Listings) (domains : List (List ℕ)) (line : HidingLine) → In line (listed_at lines listings domains) → In line lines
listed_in lines listings [] line i = absurd i
listed_in lines listings (domain ∷ domains) line i =
    ⊎_elim (at_in lines (places_at listings domain) line) (listed_in lines listings domains line) (in_either line (lines_at lines (places_at listings domain)) (listed_at lines listings domains) i)

pub found_in : (lines : List HidingLine) (index : Index) (domains : List (List ℕ)) (line : HidingLine) → In line (found_for lines index domains) → In line lines
found_in lines index domains line i =
    ⊎_elim (at_in lines index.unlisted.items line) (listed_in lines index.listings domains line) (in_either line (lines_at lines index.unlisted.items) (listed_at lines index.listings domains) i)

-- a line for a page lists one of the page's domains, or none at all
lists_one : (domains : List (List ℕ)) (entries : List DomainEntry) → applies_by domains entries ≡ true → ((domain : List ℕ) × In domain domains × (is_listed entries domain ≡ true)) ⊎ (lists_none entries ≡ true)
lists_one [] entries h = inr h
lists_one (domain ∷ domains) entries h =
    let at_first : Option Bool → Bool = λ o. unwrap_or (or_else o (said entries domains)) (lists_none entries) in
    ⊎_elim
    (λ listed. inl (domain, inl refl, listed))
    (λ other.
    ⊎_elim
    (λ excluded.
    let never : false ≡ true = sym (ap at_first (cond-false (is_listed entries domain) (Some true) _ other ∙ cond-true (is_excluded entries domain) (Some false) None excluded)) ∙ h in
    absurd (cc never))
    (λ neither.
    ⊎_elim
    (λ later. inl (later.0, inr later.1, later.2))
    (λ none. inr none)
    (lists_one domains entries (sym (ap at_first (cond-false (is_listed entries domain) (Some true) _ other ∙ cond-false (is_excluded entries domain) (Some false) None neither)) ∙ h)))
    (cases_Bool (is_excluded entries domain)))
    (cases_Bool (is_listed entries domain))

pub is_found : (lines : List HidingLine) (index : Index) (domains : List (List ℕ)) (line : HidingLine) → Indexes lines index → In line lines → is_general line ≡ false → applies_by domains line.domains ≡ true
    → In line (found_for lines index domains)
is_found lines index domains line indexes there general applies =
    ⊎_elim
    (λ listed. in_behind line (lines_at lines index.unlisted.items) (listed_at lines index.listings domains) (at_listed lines index.listings domains listed.0 line listed.1 (indexes.listed line listed.0 there listed.2)))
    (λ none. in_before line (lines_at lines index.unlisted.items) (listed_at lines index.listings domains) (indexes.unlisted line there (and_from (not (is_general line)) (lists_none line.domains) (not_from_false (is_general line) general) none)))
    (lists_one domains line.domains applies)

-- ---- lines without a domain

no_entries : (entries : List DomainEntry) → (length entries == 0) ≡ true → entries ≡ []
no_entries [] h = refl
no_entries (entry ∷ entries) h = let none : length (entry ∷ entries) ≡ 0 = eqb-true (length (entry ∷ entries)) 0 h in absurd (omega (arith, none))

empty_applies : (domains : List (List ℕ)) → applies_by domains [] ≡ true
empty_applies [] = refl
empty_applies (domain ∷ domains) = empty_applies domains

pub general_applies : (domains : List (List ℕ)) (line : HidingLine) → is_general line ≡ true → applies_by domains line.domains ≡ true
general_applies domains line general = ap (applies_by domains) (no_entries line.domains general) ∙ empty_applies domains

-- ---- which lines have a selector

speaks_for : (exception : Bool) (domains others : List (List ℕ)) (selector : List ℕ) (line : HidingLine) → speaks_of exception domains selector line ≡ true → applies_by others line.domains ≡ true → speaks_of exception others selector line ≡ true
speaks_for exception domains others selector line speaks applies =
    let p = and_parts (is_kind exception line && applies_by domains line.domains) (bytes_eq line.selector selector) speaks in
    let q = and_parts (is_kind exception line) (applies_by domains line.domains) p.0 in
    and_from (is_kind exception line && applies_by others line.domains) (bytes_eq line.selector selector) (and_from (is_kind exception line) (applies_by others line.domains) q.0 applies) p.1

pub index_splits : (exception : Bool) (domains : List (List ℕ)) (selector : List ℕ) (lines : List HidingLine) (index : Index) → Indexes lines index
    → list_any (speaks_of exception domains selector) lines
    ≡ (list_any (speaks_of exception [] selector) (filter is_general lines) || list_any (speaks_of exception domains selector) (found_for lines index domains))
index_splits exception domains selector lines index indexes =
    let general : Bool = list_any (speaks_of exception [] selector) (filter is_general lines) in
    let found : Bool = list_any (speaks_of exception domains selector) (found_for lines index domains) in
    same_answer (list_any (speaks_of exception domains selector) lines) (general || found)
    (λ any.
    let r = any_out (speaks_of exception domains selector) lines any in
    let p = and_parts (is_kind exception r.0 && applies_by domains r.0.domains) (bytes_eq r.0.selector selector) r.2 in
    let q = and_parts (is_kind exception r.0) (applies_by domains r.0.domains) p.0 in
    ⊎_elim
    (λ is_one. or_left general found (any_in (speaks_of exception [] selector) r.0 (filter is_general lines) (in_filtered is_general r.0 lines r.1 is_one) (speaks_for exception domains [] selector r.0 r.2 (general_applies [] r.0 is_one))))
    (λ is_none. or_right general found (any_in (speaks_of exception domains selector) r.0 (found_for lines index domains) (is_found lines index domains r.0 indexes r.1 is_none q.1) r.2))
    (cases_Bool (is_general r.0)))
    (λ either.
    ⊎_elim
    (λ any.
    let r = any_out (speaks_of exception [] selector) (filter is_general lines) any in
    let p = in_unfiltered is_general r.0 lines r.1 in
    any_in (speaks_of exception domains selector) r.0 lines p.0 (speaks_for exception [] domains selector r.0 r.2 (general_applies domains r.0 p.1)))
    (λ any.
    let r = any_out (speaks_of exception domains selector) (found_for lines index domains) any in
    any_in (speaks_of exception domains selector) r.0 lines (found_in lines index domains r.0 r.1) r.2)
    (or_cases general found either))

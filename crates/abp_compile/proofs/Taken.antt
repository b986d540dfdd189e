-- Groups that take in a filter.
use Rattle.std.proofs.Common.{◌≡◌, ℕ, ◌<◌, zero, suc, List, [], ◌∷◌, ◌++◌, map, set, get_or, length, Bool, true, false, cond, ◌&&◌, Option, Some, None, option_map, String, Global, string_bytes, arith, refl, sym, ap, ◌∙◌, subst}
use Rattle.std.specs.Prelude.{is_some, Result, Ok, Err, OnOk}
use Rattle.std.specs.BTreeMap.{BTreeMap, get, UpdatesBy}
use Rattle.std.specs.List.{AllByRecursion, cons_option}
use Rattle.std.proofs.lemmas.List.{map-append, map-set, set-get_or, length-map}
use Rattle.std.proofs.Math.ListN.{get_or-map}
use Rattle.list_spec.specs.LineKind.{FilterLine, every_url}
use Rattle.compile_spec.specs.Alike.{plain_domain, agree, alike}
use Rattle.compile_spec.specs.Compiled.{Placed}
use Rattle.abp_parse.specs.Seen.{filter_seen}
use Rattle.abp_compile.specs.declared.groups.Group.{Group}
use Rattle.abp_compile.specs.declared.groups.Groups.{Groups}
use Rattle.abp_compile.specs.Alike.{key_texts, has_key}
use Rattle.abp_compile.specs.Groups.{Told, told, first_place, firsts, with_more, HasJoined, Takes, AreFound, Key, key_cmp}
use Rattle.abp_compile.proofs.Joined.{told_joined, told_alone, no_place, told_behind, told_within}
use Rattle.abp_compile.proofs.Keys.{finds_alike, place_same, place_mapped, place_below, at_first, at_later, places_skip, places_more}

pub firsts_behind : (before now : Groups) (one : Told) → map told now.list.items ≡ map told before.list.items ++ one ∷ [] → firsts now.list.items ≡ firsts before.list.items ++ one.filter ∷ []
firsts_behind before now one e = ap (map (λ (t : Told). t.filter)) e ∙ map-append (λ (t : Told). t.filter) (map told before.list.items) (one ∷ [])

-- ---- a filter of apart_so plain domain

never_alike : (a c : Bool) → (a && false && c) ≡ false
never_alike true c = refl
never_alike false c = refl

each_apart : (filter : FilterLine) → is_some (plain_domain filter.pattern) ≡ false → (tolds : List Told) → AllByRecursion (λ (t : Told). alike t.filter filter ≡ false) tolds
each_apart filter apart_so [] = tt
each_apart filter apart_so (t ∷ tolds) =
    (ap (λ b. is_some (plain_domain t.filter.pattern) && b && agree t.filter filter) apart_so ∙ never_alike (is_some (plain_domain t.filter.pattern)) (agree t.filter filter), each_apart filter apart_so tolds)

abbrev alone_with : ℕ → FilterLine → List (List ℕ) → Told
alone_with line filter domains = record { filter = filter; lines = line ∷ []; domains = domains }

pub takes_behind : (line : ℕ) (filter : FilterLine) (domains : List (List ℕ)) (before now : Groups) → domains ≡ cons_option (plain_domain filter.pattern) []
    → AllByRecursion (λ (t : Told). alike t.filter filter ≡ false) (map told before.list.items)
    → map told now.list.items ≡ map told before.list.items ++ record { filter = filter; lines = line ∷ []; domains = domains } ∷ []
    → Takes (record { line = line; filter = filter } ∷ []) before now
takes_behind line filter domains before now is none list placed has =
    list ∙ ap (λ (d : List (List ℕ)). map told before.list.items ++ alone_with line filter d ∷ []) is
    ∙ told_behind placed (record { line = line; filter = filter }) (map told before.list.items) has none

pub takes_other : (line : ℕ) (filter : FilterLine) (before now : Groups) → plain_domain filter.pattern ≡ None
    → map told now.list.items ≡ map told before.list.items ++ record { filter = filter; lines = line ∷ []; domains = [] } ∷ []
    → Takes (record { line = line; filter = filter } ∷ []) before now
takes_other line filter before now none list =
    takes_behind line filter [] before now (sym (ap (λ o. cons_option o []) none)) (each_apart filter (ap is_some none) (map told before.list.items)) list

pub found_other : (line : ℕ) (filter : FilterLine) (before now : Groups) → plain_domain filter.pattern ≡ None → AreFound before → now.places ≡ before.places
    → map told now.list.items ≡ map told before.list.items ++ record { filter = filter; lines = line ∷ []; domains = [] } ∷ [] → AreFound now
found_other line filter before now none found same list =
    let skipped = places_skip before.places (firsts before.list.items) filter (ap is_some none) found in
    λ key. ap (λ places. get key_cmp places key) same ∙ skipped key ∙ ap (first_place (has_key (map string_bytes key.items))) (sym (firsts_behind before now (alone_with line filter []) list))

-- ---- one of a new key

each_new : (filter : FilterLine) → is_some (plain_domain filter.pattern) ≡ true → (tolds : List Told)
    → AllByRecursion (λ x. has_key (key_texts filter) x ≡ false) (map (λ (t : Told). t.filter) tolds) → AllByRecursion (λ (t : Told). alike t.filter filter ≡ false) tolds
each_new filter plain [] h = tt
each_new filter plain (t ∷ tolds) h = (sym (finds_alike t.filter filter plain) ∙ h.0, each_new filter plain tolds h.1)

pub takes_new : (line : ℕ) (filter : FilterLine) (domain : List ℕ) (before now : Groups) → plain_domain filter.pattern ≡ Some domain
    → first_place (has_key (key_texts filter)) (firsts before.list.items) ≡ None
    → map told now.list.items ≡ map told before.list.items ++ record { filter = filter; lines = line ∷ []; domains = domain ∷ [] } ∷ []
    → Takes (record { line = line; filter = filter } ∷ []) before now
takes_new line filter domain before now some none list =
    takes_behind line filter (domain ∷ []) before now (sym (ap (λ o. cons_option o []) some))
    (each_new filter (ap is_some some) (map told before.list.items) (no_place (has_key (key_texts filter)) (firsts before.list.items) none)) list

-- ---- one that joins

passes_by : {X : Type 0} (p : X → Bool) (x : X) (xs : List X) (place : ℕ) (d : X) (b : Bool) (o : Option ℕ) → p x ≡ b → first_place p xs ≡ o → cond b (Some 0) (option_map suc o) ≡ Some place
    → ((k : ℕ) → first_place p xs ≡ Some k → p (get_or xs k d) ≡ true) → p (get_or (x ∷ xs) place d) ≡ true
passes_by p x xs place d true o e f n later = ap (λ k. p (get_or (x ∷ xs) k d)) (at_first place n) ∙ e
passes_by p x xs place d false None e f n later = cc
passes_by p x xs place d false (Some k) e f n later = ap (λ m. p (get_or (x ∷ xs) m d)) (at_later k place n) ∙ later k f

place_passes : {X : Type 0} (p : X → Bool) (xs : List X) (place : ℕ) (d : X) → first_place p xs ≡ Some place → p (get_or xs place d) ≡ true
place_passes p [] place d h = cc
place_passes p (x ∷ xs) place d h = passes_by p x xs place d (p x) (first_place p xs) refl refl h (λ k. place_passes p xs k d)

alike_place : (filter : FilterLine) (tolds : List Told) (place : ℕ) → is_some (plain_domain filter.pattern) ≡ true
    → first_place (has_key (key_texts filter)) (map (λ (t : Told). t.filter) tolds) ≡ Some place → first_place (λ (t : Told). alike t.filter filter) tolds ≡ Some place
alike_place filter tolds place plain h =
    sym (place_mapped (has_key (key_texts filter)) (λ (t : Told). t.filter) tolds
    ∙ place_same (λ (t : Told). has_key (key_texts filter) t.filter) (λ (t : Told). alike t.filter filter) tolds (λ t. finds_alike t.filter filter plain)) ∙ h

pub takes_joined : (line : ℕ) (filter : FilterLine) (domain : List ℕ) (place : ℕ) (before now : Groups) → plain_domain filter.pattern ≡ Some domain
    → first_place (has_key (key_texts filter)) (firsts before.list.items) ≡ Some place → HasJoined place line domain before now
    → Takes (record { line = line; filter = filter } ∷ []) before now
takes_joined line filter domain place before now some at joined placed has =
    let one : Placed = record { line = line; filter = filter } in
    let tolds = map told before.list.items in
    let d = told_alone one in
    let there = alike_place filter tolds place (ap is_some some) at in
    let old = get_or tolds place d in
    let passes : alike old.filter filter ≡ true = place_passes (λ (t : Told). alike t.filter filter) tolds place d there in
    let new : with_more line domain old ≡ told_joined one old =
    sym (ap (λ b. cond b (record { filter = old.filter; lines = old.lines ++ line ∷ []; domains = old.domains ++ cons_option (plain_domain filter.pattern) [] }) old) passes
    ∙ ap (λ o. record { filter = old.filter; lines = old.lines ++ line ∷ []; domains = old.domains ++ cons_option o [] }) some) in
    joined d ∙ told_within placed one tolds place (with_more line domain old) d has there new

pub found_joined : (line : ℕ) (domain : List ℕ) (place : ℕ) (before now : Groups) → AreFound before → now.places ≡ before.places → HasJoined place line domain before now → AreFound now
found_joined line domain place before now found same joined =
    let tolds = map told before.list.items in
    let d : Told = record { filter = some_filter; lines = []; domains = [] } in
    let filters : firsts now.list.items ≡ firsts before.list.items =
    ap (map (λ (t : Told). t.filter)) (joined d) ∙ map-set (λ (t : Told). t.filter) tolds place (with_more line domain (get_or tolds place d))
    ∙ ap (set (map (λ (t : Told). t.filter) tolds) place) (sym (get_or-map (λ (t : Told). t.filter) tolds place d)) ∙ set-get_or (map (λ (t : Told). t.filter) tolds) place some_filter in
    λ key. ap (λ places. get key_cmp places key) same ∙ found key ∙ ap (first_place (has_key (map string_bytes key.items))) (sym filters)
  where
    some_filter : FilterLine
    some_filter = record { exception = false; pattern = every_url; match_case = false; third_party = None; domains = []; kinds = []; document = false }

pub place_in : (before : Groups) (test : FilterLine → Bool) (place : ℕ) → first_place test (firsts before.list.items) ≡ Some place → place < length before.list.items
place_in before test place h =
    subst (λ n. place < n) (length-map (map told before.list.items) (λ (t : Told). t.filter) ∙ length-map before.list.items told) (place_below test (firsts before.list.items) place h)

-- ---- one group more, and one that is longer

same_default : {X : Type 0} (xs : List X) (i : ℕ) (d e : X) → i < length xs → get_or xs i d ≡ get_or xs i e
same_default [] i d e less = absurd (omega arith)
same_default (x ∷ xs) zero d e less = refl
same_default (x ∷ xs) (suc i) d e less = same_default xs i d e (omega arith)

pub joined_list : (groups : List Group) (place : ℕ) (old new : Group) (line : ℕ) (domain : String Global) → place < length groups → old ≡ get_or groups place old
    → new.filter ≡ old.filter → new.lines.items ≡ old.lines.items ++ line ∷ [] → new.domains.items ≡ old.domains.items ++ domain ∷ [] → (none : Told)
    → map told (set groups place new) ≡ set (map told groups) place (with_more line (string_bytes domain) (get_or (map told groups) place none))
joined_list groups place old new line domain less at filter lines domains none =
    let there : told old ≡ get_or (map told groups) place none =
    ap told at ∙ sym (get_or-map told groups place old) ∙ same_default (map told groups) place (told old) none (subst (λ n. place < n) (sym (length-map groups told)) less) in
    let more : told new ≡ with_more line (string_bytes domain) (told old) =
    λ i. record { filter = filter_seen (filter i); lines = lines i; domains = (ap (map string_bytes) domains ∙ map-append string_bytes old.domains.items (domain ∷ [])) i } in
    map-set told groups place new ∙ ap (set (map told groups) place) (more ∙ ap (with_more line (string_bytes domain)) there)

pub found_new : (before now : Groups) (places : BTreeMap Key ℕ) (one : Told) (key : Key) (place : ℕ) → is_some (plain_domain one.filter.pattern) ≡ true
    → map string_bytes key.items ≡ key_texts one.filter → place ≡ length before.list.items → AreFound before
    → first_place (has_key (map string_bytes key.items)) (firsts before.list.items) ≡ None → UpdatesBy key_cmp (key_cmp key) before.places places (Some place)
    → now.places ≡ places → map told now.list.items ≡ map told before.list.items ++ one ∷ [] → AreFound now
found_new before now places one key place plain is at found new updates same list =
    let long : place ≡ length (firsts before.list.items) = at ∙ sym (length-map (map told before.list.items) (λ (t : Told). t.filter) ∙ length-map before.list.items told) in
    let more = places_more before.places places (firsts before.list.items) one.filter key place plain is long found (found key ∙ new) updates in
    λ other. ap (λ p. get key_cmp p other) same ∙ more other ∙ ap (first_place (has_key (map string_bytes other.items))) (sym (firsts_behind before now one list))

pub both_ok : {T E : Type 0} {P Q R : Type 0} (r : Result T E) → OnOk r P → OnOk r Q → (P → Q → R) → OnOk r R
both_ok (Ok x) p q f = f p q
both_ok (Err e) p q f = tt

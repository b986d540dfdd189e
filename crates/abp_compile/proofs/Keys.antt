-- Alike filters have one key, and the table of groups.
use Rattle.std.proofs.Common.{◌≡◌, ℕ, ◌<◌, suc, List, [], ◌∷◌, ◌++◌, map, Bool, true, false, cond, ◌&&◌, Option, Some, None, option_map, String, Global, string_bytes, string_cmp, length, refl, sym, ap, ◌∙◌, ⊎_elim, arith}
use Rattle.std.specs.Prelude.{is_some}
use Rattle.std.specs.BTreeMap.{BTreeMap, get, UpdatesBy, is_at}
use Rattle.std.specs.Cmp.Lexicographic.{slice_cmp, pointwise, pointwise_decides}
use Rattle.std.specs.List.{list_all}
use Rattle.std.specs.Option.{option_eq}
use Rattle.std.specs.Ordering.{is_eq, ordering_then}
use Rattle.std.specs.Str.{bytes_eq}
use Rattle.std.specs.declared.cmp.Ordering.{Ordering}
use Rattle.std.specs.declared.cmp.Ordering.TheVariants.{Less, Equal, Greater}
use Rattle.std.proofs.lemmas.Bool.{and_from}
use Rattle.std.proofs.lemmas.Map.Text.{is_eq-slice_cmp}
use Rattle.std.proofs.lemmas.Slice.Eq.{bytes_eq-Decides}
use Rattle.dnr_base.specs.declared.kind.Kind.{Kind}
use Rattle.dnr_base.specs.Kind.{all_kinds, has_kind}
use Rattle.list_spec.specs.LineKind.{FilterLine}
use Rattle.compile_spec.specs.Alike.{plain_domain, set_of_entries, same_answer, same_types, agree, alike}
use Rattle.compile_laws.proofs.Lists.{true_or_false}
use Rattle.compile_laws.proofs.Likeness.{Agrees, reads_agree}
use Rattle.abp_compile.specs.Alike.{mark, party_mark, key_texts, has_key}
use Rattle.abp_compile.specs.Groups.{first_place, Key, key_cmp, HasPlaces}

-- ---- keys

then_eq : (o p : Ordering) → is_eq (ordering_then o p) ≡ (is_eq o && is_eq p)
then_eq Less p = refl
then_eq Equal p = refl
then_eq Greater p = refl

key_eq : (one other : List (String Global)) → is_eq (slice_cmp string_cmp one other) ≡ pointwise bytes_eq (map string_bytes one) (map string_bytes other)
key_eq [] [] = refl
key_eq [] (y ∷ ys) = refl
key_eq (x ∷ xs) [] = refl
key_eq (x ∷ xs) (y ∷ ys) = then_eq (string_cmp x y) (slice_cmp string_cmp xs ys) ∙ (λ i. is_eq-slice_cmp (string_bytes x) (string_bytes y) i && key_eq xs ys i)

-- ---- keys of filters

same_mark : (one other : Bool) → mark one ≡ mark other → same_answer one other ≡ true
same_mark true true e = refl
same_mark true false e = absurd (omega (arith, e))
same_mark false true e = absurd (omega (arith, e))
same_mark false false e = refl

same_party_mark : (one other : Option Bool) → party_mark one ≡ party_mark other → option_eq same_answer one other ≡ true
same_party_mark None None e = refl
same_party_mark None (Some true) e = absurd (omega (arith, e))
same_party_mark None (Some false) e = absurd (omega (arith, e))
same_party_mark (Some true) None e = absurd (omega (arith, e))
same_party_mark (Some false) None e = absurd (omega (arith, e))
same_party_mark (Some x) (Some y) e = same_mark x y e

heads : {X : Type 0} {x y : X} {xs ys : List X} → x ∷ xs ≡ y ∷ ys → (x ≡ y) × (xs ≡ ys)
heads e = (cc, cc)

same_marks : (one other : List Kind) (kinds : List Kind) → map (λ kind. mark (has_kind one kind)) kinds ≡ map (λ kind. mark (has_kind other kind)) kinds
    → list_all (λ kind. same_answer (has_kind one kind) (has_kind other kind)) kinds ≡ true
same_marks one other [] e = refl
same_marks one other (kind ∷ kinds) e =
    let p = heads e in
    and_from (same_answer (has_kind one kind) (has_kind other kind)) _ (same_mark (has_kind one kind) (has_kind other kind) p.0) (same_marks one other kinds p.1)

from_keys : (one other : FilterLine) → key_texts one ≡ key_texts other → agree one other ≡ true
from_keys one other e =
    let k = heads e in
    let a = heads k.0 in
    let b = heads a.1 in
    let c = heads b.1 in
    let exception = same_answer one.exception other.exception in
    let party = option_eq same_answer one.third_party other.third_party in
    let kinds = same_types one.kinds other.kinds in
    let document = same_answer one.document other.document in
    let domains = pointwise bytes_eq (set_of_entries one.domains) (set_of_entries other.domains) in
    and_from (exception && party && kinds && document) domains
    (and_from (exception && party && kinds) document
    (and_from (exception && party) kinds
    (and_from exception party (same_mark one.exception other.exception a.0) (same_party_mark one.third_party other.third_party b.0))
    (same_marks one.kinds other.kinds all_kinds c.1))
    (same_mark one.document other.document c.0))
    ((pointwise_decides bytes_eq-Decides (set_of_entries one.domains) (set_of_entries other.domains)).1 k.1)

to_keys : (one other : FilterLine) → Agrees one other → key_texts one ≡ key_texts other
to_keys one other a = λ i. (mark (a.exception i) ∷ party_mark (a.third_party i) ∷ mark (a.document i) ∷ map (λ kind. mark (a.kinds kind i)) all_kinds) ∷ a.domains i

same_truth : (a b : Bool) → (a ≡ true → b ≡ true) → (b ≡ true → a ≡ true) → a ≡ b
same_truth true b f g = sym (f refl)
same_truth false true f g = g refl
same_truth false false f g = refl

keys_agree : (one other : FilterLine) → pointwise bytes_eq (key_texts one) (key_texts other) ≡ agree one other
keys_agree one other =
    same_truth (pointwise bytes_eq (key_texts one) (key_texts other)) (agree one other)
    (λ h. from_keys one other ((pointwise_decides bytes_eq-Decides (key_texts one) (key_texts other)).0 h))
    (λ h. (pointwise_decides bytes_eq-Decides (key_texts one) (key_texts other)).1 (to_keys one other (reads_agree one other h)))

without_middle : (a b c : Bool) → b ≡ true → (a && c) ≡ (a && b && c)
without_middle true true c e = refl
without_middle false true c e = refl
without_middle a false c e = cc

-- a filter of a plain domain is alike to those that its key finds
pub finds_alike : (one filter : FilterLine) → is_some (plain_domain filter.pattern) ≡ true → has_key (key_texts filter) one ≡ alike one filter
finds_alike one filter plain =
    ap (λ b. is_some (plain_domain one.pattern) && b) (keys_agree one filter)
    ∙ without_middle (is_some (plain_domain one.pattern)) (is_some (plain_domain filter.pattern)) (agree one filter) plain

-- ---- places

pub place_same : {X : Type 0} (p q : X → Bool) (xs : List X) → ((x : X) → p x ≡ q x) → first_place p xs ≡ first_place q xs
place_same p q [] same = refl
place_same p q (x ∷ xs) same = λ i. cond (same x i) (Some 0) (option_map suc (place_same p q xs same i))

pub place_mapped : {X Y : Type 0} (p : Y → Bool) (f : X → Y) (xs : List X) → first_place p (map f xs) ≡ first_place (λ x. p (f x)) xs
place_mapped p f [] = refl
place_mapped p f (x ∷ xs) = ap (λ o. cond (p (f x)) (Some 0) (option_map suc o)) (place_mapped p f xs)

pub at_first : (place : ℕ) → Some 0 ≡ Some place → place ≡ 0
at_first place e = cc

pub at_later : (k place : ℕ) → Some (suc k) ≡ Some place → place ≡ suc k
at_later k place e = cc

below_by : {X : Type 0} (p : X → Bool) (x : X) (xs : List X) (place : ℕ) (b : Bool) (o : Option ℕ) → first_place p xs ≡ o → cond b (Some 0) (option_map suc o) ≡ Some place
    → ((k : ℕ) → first_place p xs ≡ Some k → k < length xs) → place < length (x ∷ xs)
below_by p x xs place true o e n later = omega (arith, at_first place n)
below_by p x xs place false None e n later = cc
below_by p x xs place false (Some k) e n later = omega (arith, at_later k place n, later k e)

pub place_below : {X : Type 0} (p : X → Bool) (xs : List X) (place : ℕ) → first_place p xs ≡ Some place → place < length xs
place_below p [] place h = cc
place_below p (x ∷ xs) place h = below_by p x xs place (p x) (first_place p xs) refl h (place_below p xs)

abbrev or_place : Option ℕ → Option ℕ → Option ℕ
or_place None later = later
or_place (Some place) later = Some place

place_snoc : {X : Type 0} (p : X → Bool) (xs : List X) (x : X) → first_place p (xs ++ x ∷ []) ≡ or_place (first_place p xs) (cond (p x) (Some (length xs)) None)
place_snoc p [] x = refl
place_snoc p (y ∷ xs) x = by (p y) (first_place p xs) (p x) (place_snoc p xs x)
  where
    by : (b : Bool) (o : Option ℕ) (c : Bool) → first_place p (xs ++ x ∷ []) ≡ or_place o (cond c (Some (length xs)) None)
        → cond b (Some 0) (option_map suc (first_place p (xs ++ x ∷ []))) ≡ or_place (cond b (Some 0) (option_map suc o)) (cond c (Some (suc (length xs))) None)
    by true o c e = refl
    by false None true e = ap (option_map suc) e
    by false None false e = ap (option_map suc) e
    by false (Some k) c e = ap (option_map suc) e

or_none : (o : Option ℕ) → or_place o None ≡ o
or_none None = refl
or_none (Some k) = refl

-- a group of a filter that apart_so key finds
pub places_skip : (places : BTreeMap Key ℕ) (filters : List FilterLine) (filter : FilterLine) → is_some (plain_domain filter.pattern) ≡ false
    → HasPlaces places filters → HasPlaces places (filters ++ filter ∷ [])
places_skip places filters filter apart_so has key =
    let q = map string_bytes key.items in
    has key ∙ sym (place_snoc (has_key q) filters filter
    ∙ ap (λ b. or_place (first_place (has_key q) filters) (cond (b && pointwise bytes_eq (key_texts filter) q) (Some (length filters)) None)) apart_so ∙ or_none (first_place (has_key q) filters))

-- and of one with a new key
pub places_more : (before now : BTreeMap Key ℕ) (filters : List FilterLine) (filter : FilterLine) (key : Key) (place : ℕ) → is_some (plain_domain filter.pattern) ≡ true
    → map string_bytes key.items ≡ key_texts filter → place ≡ length filters → HasPlaces before filters → get key_cmp before key ≡ None
    → UpdatesBy key_cmp (key_cmp key) before now (Some place) → HasPlaces now (filters ++ filter ∷ [])
places_more before now filters filter key place plain is at has none updates other =
    let q = map string_bytes other.items in
    let found : is_at (key_cmp key) other ≡ pointwise bytes_eq (key_texts filter) q = key_eq key.items other.items ∙ ap (λ k. pointwise bytes_eq k q) is in
    let there = place_snoc (has_key q) filters filter ∙ ap (λ b. or_place (first_place (has_key q) filters) (cond (b && pointwise bytes_eq (key_texts filter) q) (Some (length filters)) None)) plain in
    updates.0 other ∙ ap (λ b. cond b (Some place) (get key_cmp before other)) found
    ∙ ⊎_elim
    (λ (so : pointwise bytes_eq (key_texts filter) q ≡ true).
    let same : q ≡ map string_bytes key.items = sym ((pointwise_decides bytes_eq-Decides (key_texts filter) q).0 so) ∙ sym is in
    let free : first_place (has_key q) filters ≡ None = ap (λ k. first_place (has_key k) filters) same ∙ sym (has key) ∙ none in
    ap (λ b. cond b (Some place) (get key_cmp before other)) so ∙ ap Some at
    ∙ sym (there ∙ (λ i. or_place (free i) (cond (so i) (Some (length filters)) None))))
    (λ (apart_so : pointwise bytes_eq (key_texts filter) q ≡ false).
    ap (λ b. cond b (Some place) (get key_cmp before other)) apart_so ∙ has other
    ∙ sym (there ∙ ap (λ b. or_place (first_place (has_key q) filters) (cond b (Some (length filters)) None)) apart_so ∙ or_none (first_place (has_key q) filters)))
    (true_or_false (pointwise bytes_eq (key_texts filter) q))

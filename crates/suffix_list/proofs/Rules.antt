-- The longest matching rules of a list, and which of them the tables hold.
use Rattle.std.proofs.Common.{◌≡◌, ℕ, ◌≤◌, max, List, [], ◌∷◌, ◌++◌, length, take, drop, Bool, true, false, not, ◌&&◌, ◌||◌, cond, eqb, Option, Some, None, Bor, String, refl, sym, ap, ◌∙◌, arith, codes, nat_eq}
use Rattle.std.specs.List.{list_all, list_any, starts_with, onto_first, join_with_byte}
use Rattle.std.specs.Str.{bytes_eq}
use Rattle.std.specs.HashSet.{HashSet, contains_text}
use Rattle.std.proofs.lemmas.List.{take-append-drop}
use Rattle.std.proofs.lemmas.Slice.Eq.{bytes_eq-Decides}
use Rattle.dnr_spec.specs.Hosts.{labels_of}
use Rattle.dnr_spec.specs.Suffixes.{fits_label, fits_labels, matches}
use Rattle.dnr_spec.proofs.Labels.{labels_of-has, join_with_byte-labels_of}
use Rattle.suffix_list.specs.declared.rule.Rule.{Rule}
use Rattle.suffix_list.specs.Kept.{AreTables, text_of, labels, has_no_star, is_no_star, is_plain, is_starred, is_listed, most, is_found, listed_len}
use Rattle.suffix_list.proofs.Cuts.{IsCut, labels_behind, first_cut}

-- ---- tests

and_left : (a b : Bool) → (a && b) ≡ true → a ≡ true
and_left true b h = refl
and_left false b h = h

and_right : (a b : Bool) → (a && b) ≡ true → b ≡ true
and_right true b h = h
and_right false b h = absurd (cc)

same_bytes : (xs : List ℕ) → bytes_eq xs xs ≡ true
same_bytes xs = (bytes_eq-Decides xs xs).1 refl

-- two tests that hold of the same are the same
one_test : (a b : Bool) → (a ≡ true → b ≡ true) → (b ≡ true → a ≡ true) → a ≡ b
one_test true b f g = sym (f refl)
one_test false true f g = g refl
one_test false false f g = refl

-- ---- labels without `*` stand for themselves alone

or_same : (b : Bool) → (b || true) ≡ true
or_same true = refl
or_same false = refl

fits_self : (ls : List (List ℕ)) → fits_labels ls ls ≡ true
fits_self [] = refl
fits_self (l ∷ ls) = ap (λ b. (bytes_eq l (codes "*") || b) && fits_labels ls ls) (same_bytes l) ∙ ap (λ b. b && fits_labels ls ls) (or_same (bytes_eq l (codes "*"))) ∙ fits_self ls

no_star_label : (l : List ℕ) → has_no_star l ≡ true → bytes_eq l (codes "*") ≡ true → ⊥
no_star_label l h e =
    let same : l ≡ codes "*" = (bytes_eq-Decides l (codes "*")).0 e in
    let star : has_no_star (codes "*") ≡ true = sym (ap has_no_star same) ∙ h in
    let none : false ≡ true = star in cc

fits_plain : (l m : List ℕ) → has_no_star l ≡ true → fits_label l m ≡ true → l ≡ m
fits_plain l m h e =
    elim (bytes_eq l (codes "*")) as (λ v. bytes_eq l (codes "*") ≡ v → (v || bytes_eq l m) ≡ true → l ≡ m)
    [ true ↦ λ s f. absurd (no_star_label l h s) | false ↦ λ s f. (bytes_eq-Decides l m).0 f ] refl e

fits_same : (ls ms : List (List ℕ)) → list_all has_no_star ls ≡ true → fits_labels ls ms ≡ true → ls ≡ ms
fits_same [] [] h e = refl
fits_same [] (m ∷ ms) h e = absurd (cc)
fits_same (l ∷ ls) [] h e = absurd (cc)
fits_same (l ∷ ls) (m ∷ ms) h e =
    let first : l ≡ m = fits_plain l m (and_left (has_no_star l) (list_all has_no_star ls) h) (and_left (fits_label l m) (fits_labels ls ms) e) in
    let rest : ls ≡ ms = fits_same ls ms (and_right (has_no_star l) (list_all has_no_star ls) h) (and_right (fits_label l m) (fits_labels ls ms) e) in
    cc

onto_first_no_star : (b : ℕ) (ls : List (List ℕ)) → is_no_star b ≡ true → list_all has_no_star ls ≡ true → list_all has_no_star (onto_first b ls) ≡ true
onto_first_no_star b [] h k = ap (λ v. (v && true) && true) h
onto_first_no_star b (l ∷ ls) h k = ap (λ v. (v && has_no_star l) && list_all has_no_star ls) h ∙ k

no_star_labels : (text : List ℕ) → has_no_star text ≡ true → list_all has_no_star (labels_of text) ≡ true
no_star_labels [] h = refl
no_star_labels (b ∷ text) h =
    let rest : list_all has_no_star (labels_of text) ≡ true = no_star_labels text (and_right (is_no_star b) (has_no_star text) h) in
    elim (eqb b 46) as (λ v. list_all has_no_star (cond v ([] ∷ labels_of text) (onto_first b (labels_of text))) ≡ true)
    [ true ↦ rest | false ↦ onto_first_no_star b (labels_of text) (and_left (is_no_star b) (has_no_star text) h) rest ]

same_text : (s t : List ℕ) → labels_of s ≡ labels_of t → s ≡ t
same_text s t h = sym (join_with_byte-labels_of s) ∙ ap (join_with_byte 46) h ∙ join_with_byte-labels_of t

pub fits_text : (text q : List ℕ) → has_no_star text ≡ true → fits_labels (labels_of text) (labels_of q) ≡ bytes_eq text q
fits_text text q h = one_test _ _
    (λ e. (bytes_eq-Decides text q).1 (same_text text q (fits_same (labels_of text) (labels_of q) (no_star_labels text h) e)))
    (λ e. let same : text ≡ q = (bytes_eq-Decides text q).0 e in ap (λ t. fits_labels (labels_of text) (labels_of t)) (sym same) ∙ fits_self (labels_of text))

fits_none : (text : List ℕ) → fits_labels (labels_of text) [] ≡ false
fits_none text = let has = labels_of-has text in ap (λ ls. fits_labels ls []) has.is

-- ---- which rules the tables find

-- what a look-up behind a first label finds
abbrev pub behind_is : List ℕ → Option (Bor (List ℕ)) → Bool
behind_is text None = false
behind_is text (Some rest) = bytes_eq text rest.now

star_front : (text : List ℕ) → starts_with nat_eq text (codes "*.") ≡ true → text ≡ 42 ∷ 46 ∷ drop 2 text
star_front text h =
    let front : codes "*." ≡ take 2 text = (bytes_eq-Decides (codes "*.") (take 2 text)).0 h in
    sym (take-append-drop 2 text) ∙ ap (λ t. t ++ drop 2 text) (sym front)

pub fits_behind : (text q first : List ℕ) (rest : Option (Bor (List ℕ))) → IsCut q first rest → has_no_star text ≡ true → fits_labels (codes "*" ∷ labels_of text) (labels_of q) ≡ behind_is text rest
fits_behind text q first None cut h = ap (λ ls. fits_labels (codes "*" ∷ labels_of text) ls) cut ∙ fits_none text
fits_behind text q first (Some rest) cut h = ap (λ ls. fits_labels (codes "*" ∷ labels_of text) ls) cut ∙ fits_text text rest.now h

star_labels : (text : List ℕ) → starts_with nat_eq text (codes "*.") ≡ true → labels_of text ≡ codes "*" ∷ labels_of (drop 2 text)
star_labels text h = ap labels_of (star_front text h)

plain_no_star : (text : List ℕ) → has_no_star text ≡ true → starts_with nat_eq text (codes "*.") ≡ true → ⊥
plain_no_star text h s = let none : false ≡ true = sym (ap has_no_star (star_front text s)) ∙ h in cc

or_false : (b : Bool) → (b || false) ≡ b
or_false true = refl
or_false false = refl

-- a rule that is no exception, by its text
exact_text : (text q first : List ℕ) (rest : Option (Bor (List ℕ))) → IsCut q first rest → (plain front behind : Bool) → has_no_star text ≡ plain → starts_with nat_eq text (codes "*.") ≡ front → has_no_star (drop 2 text) ≡ behind → ((plain || (front && behind)) && fits_labels (labels_of text) (labels_of q)) ≡ ((plain && bytes_eq text q) || ((front && behind) && behind_is (drop 2 text) rest))
exact_text text q first rest cut true true behind h s k = absurd (plain_no_star text h s)
exact_text text q first rest cut true false behind h s k = fits_text text q h ∙ sym (or_false (bytes_eq text q))
exact_text text q first rest cut false true true h s k = ap (λ ls. fits_labels ls (labels_of q)) (star_labels text s) ∙ fits_behind (drop 2 text) q first rest cut k
exact_text text q first rest cut false true false h s k = refl
exact_text text q first rest cut false false behind h s k = refl

exact_by : (e : Bool) (text q first : List ℕ) (rest : Option (Bor (List ℕ))) → IsCut q first rest → (((not e && has_no_star text) || (not e && (starts_with nat_eq text (codes "*.") && has_no_star (drop 2 text)))) && fits_labels (labels_of text) (labels_of q)) ≡ (((not e && has_no_star text) && bytes_eq text q) || ((not e && (starts_with nat_eq text (codes "*.") && has_no_star (drop 2 text))) && behind_is (drop 2 text) rest))
exact_by true text q first rest cut = refl
exact_by false text q first rest cut = exact_text text q first rest cut (has_no_star text) (starts_with nat_eq text (codes "*.")) (has_no_star (drop 2 text)) refl refl refl

exact : (rule : Rule) (q first : List ℕ) (rest : Option (Bor (List ℕ))) → IsCut q first rest → (is_listed rule && fits_labels (labels rule) (labels_of q)) ≡ ((is_plain rule && bytes_eq (text_of rule) q) || (is_starred rule && behind_is (drop 2 (text_of rule)) rest))
exact rule q first rest cut = exact_by rule.exception (text_of rule) q first rest cut

or_mix : (a b c d : Bool) → ((a || b) || (c || d)) ≡ ((a || c) || (b || d))
or_mix true b c d = refl
or_mix false true true d = refl
or_mix false true false d = refl
or_mix false false c d = refl

any_exact : (rules : List Rule) (q first : List ℕ) (rest : Option (Bor (List ℕ))) → IsCut q first rest → list_any (λ rule. is_listed rule && fits_labels (labels rule) (labels_of q)) rules ≡ (list_any (λ rule. is_plain rule && bytes_eq (text_of rule) q) rules || list_any (λ rule. is_starred rule && behind_is (drop 2 (text_of rule)) rest) rules)
any_exact [] q first rest cut = refl
any_exact (rule ∷ rules) q first rest cut =
    ap (λ b. b || list_any (λ rule. is_listed rule && fits_labels (labels rule) (labels_of q)) rules) (exact rule q first rest cut)
    ∙ ap (λ b. ((is_plain rule && bytes_eq (text_of rule) q) || (is_starred rule && behind_is (drop 2 (text_of rule)) rest)) || b) (any_exact rules q first rest cut)
    ∙ or_mix (is_plain rule && bytes_eq (text_of rule) q) (is_starred rule && behind_is (drop 2 (text_of rule)) rest) (list_any (λ rule. is_plain rule && bytes_eq (text_of rule) q) rules) (list_any (λ rule. is_starred rule && behind_is (drop 2 (text_of rule)) rest) rules)

and_false : (b : Bool) → (b && false) ≡ false
and_false true = refl
and_false false = refl

any_none : (rules : List Rule) → list_any (λ rule. is_starred rule && false) rules ≡ false
any_none [] = refl
any_none (rule ∷ rules) = ap (λ b. b || list_any (λ rule. is_starred rule && false) rules) (and_false (is_starred rule)) ∙ any_none rules

pub found_is : {Y S : Type 0} (rules : List Rule) (plain starred : HashSet (String Y) S) (others : List ℕ) → AreTables rules plain starred others → (q first : List ℕ) (rest : Option (Bor (List ℕ))) → IsCut q first rest → is_found plain starred q rest ≡ list_any (λ rule. is_listed rule && fits_labels (labels rule) (labels_of q)) rules
found_is rules plain starred others t q first None cut =
    t.plain_texts q ∙ sym (or_false (list_any (λ rule. is_plain rule && bytes_eq (text_of rule) q) rules))
    ∙ ap (λ b. list_any (λ rule. is_plain rule && bytes_eq (text_of rule) q) rules || b) (sym (any_none rules))
    ∙ sym (any_exact rules q first None cut)
found_is rules plain starred others t q first (Some rest) cut =
    ap (λ b. b || contains_text starred rest.now) (t.plain_texts q)
    ∙ ap (λ b. list_any (λ rule. is_plain rule && bytes_eq (text_of rule) q) rules || b) (t.starred_texts rest.now)
    ∙ sym (any_exact rules q first (Some rest) cut)

-- ---- the longest rule that matches

fits-length : (rule ls : List (List ℕ)) → fits_labels rule ls ≡ true → length rule ≡ length ls
fits-length [] [] h = refl
fits-length [] (l ∷ ls) h = absurd (cc)
fits-length (r ∷ rule) [] h = absurd (cc)
fits-length (r ∷ rule) (l ∷ ls) h = let rest = fits-length rule ls (and_right (fits_label r l) (fits_labels rule ls) h) in omega arith

or_left : (a b : Bool) → (a || b) ≡ true → (a ≡ false) → b ≡ true
or_left true b h e = absurd (cc)
or_left false b h e = h

pub matches-length : (rule ls : List (List ℕ)) → matches rule ls ≡ true → length rule ≤ length ls
matches-length rule [] h = let same = fits-length rule [] h in omega arith
matches-length rule (l ∷ ls) h =
    elim (fits_labels rule (l ∷ ls)) as (λ v. fits_labels rule (l ∷ ls) ≡ v → (v || matches rule ls) ≡ true → length rule ≤ length (l ∷ ls))
    [ true ↦ λ e k. (let same = fits-length rule (l ∷ ls) e in omega arith) | false ↦ λ e k. (let less = matches-length rule ls k in omega arith) ] refl h

pub most-le : (test : Rule → Bool) (bound : ℕ) (rules : List Rule) → ((rule : Rule) → test rule ≡ true → length (labels rule) ≤ bound) → most test rules ≤ bound
most-le test bound [] h = omega arith
most-le test bound (rule ∷ rules) h =
    let rest : most test rules ≤ bound = most-le test bound rules h in
    elim (test rule) as (λ v. test rule ≡ v → cond v (max (length (labels rule)) (most test rules)) (most test rules) ≤ bound)
    [ true ↦ λ e. (let here = h rule e in omega arith) | false ↦ λ e. rest ] refl

most-same : (f g : Rule → Bool) (rules : List Rule) → ((rule : Rule) → f rule ≡ g rule) → most f rules ≡ most g rules
most-same f g [] h = refl
most-same f g (rule ∷ rules) h =
    ap (λ n. cond (f rule) (max (length (labels rule)) n) n) (most-same f g rules h)
    ∙ ap (λ b. cond b (max (length (labels rule)) (most g rules)) (most g rules)) (h rule)

listed_hit-ge : (l : List ℕ) (ls : List (List ℕ)) (rules : List Rule) → list_any (λ rule. is_listed rule && fits_labels (labels rule) (l ∷ ls)) rules ≡ true → length (l ∷ ls) ≤ listed_len (l ∷ ls) rules
listed_hit-ge l ls [] h = absurd (cc)
listed_hit-ge l ls (rule ∷ rules) h =
    let n : ℕ = listed_len (l ∷ ls) rules in
    elim (is_listed rule) as (λ a. ((a && fits_labels (labels rule) (l ∷ ls)) || list_any (λ rule. is_listed rule && fits_labels (labels rule) (l ∷ ls)) rules) ≡ true → length (l ∷ ls) ≤ cond (a && matches (labels rule) (l ∷ ls)) (max (length (labels rule)) n) n) [
      | true ↦ λ h. elim (fits_labels (labels rule) (l ∷ ls)) as (λ v. fits_labels (labels rule) (l ∷ ls) ≡ v → (v || list_any (λ rule. is_listed rule && fits_labels (labels rule) (l ∷ ls)) rules) ≡ true → length (l ∷ ls) ≤ cond (v || matches (labels rule) ls) (max (length (labels rule)) n) n) [
        | true ↦ λ e k. (let same = fits-length (labels rule) (l ∷ ls) e in omega arith)
        | false ↦ λ e k. (let rest : length (l ∷ ls) ≤ n = listed_hit-ge l ls rules k in elim (matches (labels rule) ls) as (λ w. length (l ∷ ls) ≤ cond w (max (length (labels rule)) n) n) [ true ↦ omega arith | false ↦ rest ])
      ] refl h
      | false ↦ λ h. listed_hit-ge l ls rules h
    ] h

listed-le : (ls : List (List ℕ)) (rules : List Rule) → listed_len ls rules ≤ length ls
listed-le ls rules = most-le (λ rule. is_listed rule && matches (labels rule) ls) (length ls) rules (λ rule h. matches-length (labels rule) ls (and_right (is_listed rule) (matches (labels rule) ls) h))

pub listed_hit : (l : List ℕ) (ls : List (List ℕ)) (rules : List Rule) → list_any (λ rule. is_listed rule && fits_labels (labels rule) (l ∷ ls)) rules ≡ true → listed_len (l ∷ ls) rules ≡ length (l ∷ ls)
listed_hit l ls rules h =
    let least = listed_hit-ge l ls rules h in
    let greatest = listed-le (l ∷ ls) rules in
    omega arith

no_labels : (rule : Rule) → fits_labels (labels rule) [] ≡ false
no_labels rule = fits_none (text_of rule)

pub listed_none : (rules : List Rule) → listed_len [] rules ≡ 0
listed_none [] = refl
listed_none (rule ∷ rules) =
    ap (λ b. cond (is_listed rule && b) (max (length (labels rule)) (listed_len [] rules)) (listed_len [] rules)) (no_labels rule)
    ∙ ap (λ b. cond b (max (length (labels rule)) (listed_len [] rules)) (listed_len [] rules)) (and_false (is_listed rule))
    ∙ listed_none rules

miss_one : (a v m : Bool) → (a && v) ≡ false → (a && (v || m)) ≡ (a && m)
miss_one true true m h = absurd (cc)
miss_one true false m h = refl
miss_one false v m h = refl

both_false : (a b : Bool) → (a || b) ≡ false → (a ≡ false) × (b ≡ false)
both_false true b h = absurd (cc)
both_false false b h = (refl, h)

pub listed_miss : (l : List ℕ) (ls : List (List ℕ)) (rules : List Rule) → list_any (λ rule. is_listed rule && fits_labels (labels rule) (l ∷ ls)) rules ≡ false → listed_len (l ∷ ls) rules ≡ listed_len ls rules
listed_miss l ls [] h = refl
listed_miss l ls (rule ∷ rules) h =
    let none = both_false (is_listed rule && fits_labels (labels rule) (l ∷ ls)) (list_any (λ rule. is_listed rule && fits_labels (labels rule) (l ∷ ls)) rules) h in
    ap (λ b. cond b (max (length (labels rule)) (listed_len (l ∷ ls) rules)) (listed_len (l ∷ ls) rules)) (miss_one (is_listed rule) (fits_labels (labels rule) (l ∷ ls)) (matches (labels rule) ls) none.0)
    ∙ ap (λ n. cond (is_listed rule && matches (labels rule) ls) (max (length (labels rule)) n) n) (listed_miss l ls rules none.1)

-- one step of the walk from a name to the rest behind its first dot
pub listed_at_hit : {Y S : Type 0} (rules : List Rule) (plain starred : HashSet (String Y) S) (others : List ℕ) → AreTables rules plain starred others → (q first : List ℕ) (rest : Option (Bor (List ℕ))) → IsCut q first rest → is_found plain starred q rest ≡ true → listed_len (labels_of q) rules ≡ length (labels_of q)
listed_at_hit rules plain starred others t q first rest cut found =
    let whole : labels_of q ≡ first ∷ labels_behind rest = first_cut q first rest cut in
    let any : list_any (λ rule. is_listed rule && fits_labels (labels rule) (labels_of q)) rules ≡ true = sym (found_is rules plain starred others t q first rest cut) ∙ found in
    let hit : listed_len (first ∷ labels_behind rest) rules ≡ length (first ∷ labels_behind rest) = listed_hit first (labels_behind rest) rules (sym (ap (λ ls. list_any (λ rule. is_listed rule && fits_labels (labels rule) ls) rules) whole) ∙ any) in
    ap (λ ls. listed_len ls rules) whole ∙ hit ∙ sym (ap (λ (ls : List (List ℕ)). length ls) whole)

pub listed_at_miss : {Y S : Type 0} (rules : List Rule) (plain starred : HashSet (String Y) S) (others : List ℕ) → AreTables rules plain starred others → (q first : List ℕ) (rest : Option (Bor (List ℕ))) → IsCut q first rest → is_found plain starred q rest ≡ false → listed_len (labels_of q) rules ≡ listed_len (labels_behind rest) rules
listed_at_miss rules plain starred others t q first rest cut found =
    let whole : labels_of q ≡ first ∷ labels_behind rest = first_cut q first rest cut in
    let any : list_any (λ rule. is_listed rule && fits_labels (labels rule) (labels_of q)) rules ≡ false = sym (found_is rules plain starred others t q first rest cut) ∙ found in
    ap (λ ls. listed_len ls rules) whole
    ∙ listed_miss first (labels_behind rest) rules (sym (ap (λ ls. list_any (λ rule. is_listed rule && fits_labels (labels rule) ls) rules) whole) ∙ any)

apart_by : (e : Bool) (text : List ℕ) → (not e && has_no_star text) ≡ true → (not e && (starts_with nat_eq text (codes "*.") && has_no_star (drop 2 text))) ≡ false
apart_by true text h = refl
apart_by false text h =
    elim (starts_with nat_eq text (codes "*.")) as (λ v. starts_with nat_eq text (codes "*.") ≡ v → (v && has_no_star (drop 2 text)) ≡ false)
    [ true ↦ λ s. absurd (plain_no_star text h s) | false ↦ λ s. refl ] refl

pub plain_is_apart : (rule : Rule) → is_plain rule ≡ true → is_starred rule ≡ false
plain_is_apart rule h = apart_by rule.exception (text_of rule) h

-- The places of a key are those of the entries between two that have it not.
use Rattle.std.proofs.Common.{◌≡◌, ℕ, suc, ◌+◌, ◌-◌, ◌<◌, ◌≤◌, List, [], ◌∷◌, ◌++◌, inl, inr, length, take, drop, get_or, Option, Some, None, Bool, true, false, cond, ◌&&◌, refl, sym, ap, ◌∙◌, arith, append-nil, length-take, length-drop}
use Rattle.std.specs.List.{slice_range}
use Rattle.std.specs.Str.{bytes_eq}
use Rattle.std.specs.Ordering.{nat_cmp, is_lt, is_le, is_eq}
use Rattle.std.specs.declared.cmp.Ordering.{Ordering}
use Rattle.std.specs.declared.cmp.Ordering.TheVariants.{Less, Equal, Greater}
use Rattle.std.specs.Cmp.Lexicographic.{slice_cmp}
use Rattle.std.proofs.lemmas.Bool.{false≢true, cases_lt}
use Rattle.std.proofs.lemmas.List.{map-append, length-map, take-append-drop, get_or-take, get_or-drop, get_or-map}
use Rattle.std.proofs.lemmas.List.Elements.{filter_map-append}
use Rattle.std.proofs.lemmas.List.Folds.{drop_split}
use Rattle.std.proofs.lemmas.Map.Text.{is_eq-slice_cmp}
use Rattle.std.proofs.lemmas.Slice.Eq.{bytes_eq-Decides}
use Rattle.std.proofs.lemmas.Grind.{common_steps}
use Rattle.key_table.specs.declared.entry.Entry.{Entry}
use Rattle.key_table.specs.Hash.{tag_of, bucket_of}
use Rattle.key_table.specs.Pairs.{Pair, shows, near_if, near_of}
use Rattle.key_table.specs.Cuts.{IsCut}
use Rattle.key_table.specs.Kept.{key_in, pair_in, pairs_in, tags_in, rank_in, is_below, AreEntries, IsEntry, IsKept}

-- these entries have other keys
abbrev pub HaveOthers : List ℕ → List ℕ → List Entry → ℕ → ℕ → Type 0
HaveOthers texts key entries low high = (k : ℕ) (entry : Entry) → low ≤ k → k < high → key_in texts (get_or entries k entry) ≡ key → ⊥

none_by : (b : Bool) (place : ℕ) → cond (b && false) (Some place) None ≡ None
none_by true place = refl
none_by false place = refl

-- a key that differs gives no place
other_gives_none : (key : List ℕ) (shown : Option ℕ) (pair : Pair) → (pair.key ≡ key → ⊥) → near_if key shown pair ≡ None
other_gives_none key shown pair differs =
    let other : bytes_eq pair.key key ≡ false = grind (arith, common_steps, bytes_eq-Decides pair.key key, differs) in
    rw other (none_by (shows pair.needed shown) pair.place)

-- where all have other keys, none gives a place
pub none_here : (texts key : List ℕ) (shown : Option ℕ) (entries : List Entry) → HaveOthers texts key entries 0 (length entries) → near_of key shown (pairs_in texts entries) ≡ []
none_here texts key shown [] others = refl
none_here texts key shown (entry ∷ entries) others =
    let first : near_if key shown (pair_in texts entry) ≡ None = other_gives_none key shown (pair_in texts entry) (others 0 entry (omega arith) (omega arith)) in
    let rest : near_of key shown (pairs_in texts entries) ≡ [] = none_here texts key shown entries (λ k d low within. others (suc k) d (omega arith) (omega arith)) in
    rw first rest

pub places_between : (texts key : List ℕ) (shown : Option ℕ) (entries : List Entry) (first next : ℕ) → first ≤ next → first ≤ length entries
    → HaveOthers texts key entries 0 first → HaveOthers texts key entries next (length entries)
    → near_of key shown (pairs_in texts (slice_range entries first next)) ≡ near_of key shown (pairs_in texts entries)
places_between texts key shown entries first next ordered within before behind =
    let P : List Entry → List ℕ = λ es. near_of key shown (pairs_in texts es) in
    let joined : (xs ys : List Entry) → P (xs ++ ys) ≡ P xs ++ P ys = λ xs ys. simp (map-append, filter_map-append) in
    let front : P (take first entries) ≡ [] = none_here texts key shown (take first entries) (λ k d low inside same.
    let below : k < first = omega (arith, length-take first entries) in
    let is : get_or (take first entries) k d ≡ get_or entries k d = get_or-take first entries k d below in
    before k d low below (sym (ap (key_in texts) is) ∙ same)) in
    let back : P (drop next entries) ≡ [] = none_here texts key shown (drop next entries) (λ k d low inside same.
    let is : get_or (drop next entries) k d ≡ get_or entries (next + k) d = get_or-drop next entries k d in
    behind (next + k) d (omega arith) (omega (arith, length-drop next entries)) (sym (ap (key_in texts) is) ∙ same)) in
    let whole : P entries ≡ P (take first entries) ++ P (drop first entries) =
    ap P (sym (take-append-drop first entries)) ∙ joined (take first entries) (drop first entries) in
    let rest : P (drop first entries) ≡ P (slice_range entries first next) ++ P (drop next entries) =
    ap P (drop_split entries first next ordered) ∙ joined (slice_range entries first next) (drop next entries) in
    let e1 : P entries ≡ [] ++ (P (slice_range entries first next) ++ []) = whole ∙ (rw (front, rest, back) refl) in
    sym (e1 ∙ append-nil (P (slice_range entries first next)))

-- ---- the two ends of a bucket

bucket_at : (buckets : ℕ) (texts key : List ℕ) (entries : List Entry) (k : ℕ) (d : Entry) → AreEntries texts entries → k < length entries → key_in texts (get_or entries k d) ≡ key → bucket_of buckets (get_or (tags_in entries) k 0) ≡ bucket_of buckets (tag_of key)
bucket_at buckets texts key entries k d all within same =
    let tag : get_or (tags_in entries) k 0 ≡ (get_or entries k d).tag = get_or-map (λ (e : Entry). e.tag) entries k d 0 within in
    ap (bucket_of buckets) (tag ∙ (all k d within).tag ∙ ap tag_of same)

-- the cut before a bucket stands no later than the cut behind it
cuts_in_order : {buckets : ℕ} {tags : List ℕ} {bucket first next : ℕ} → IsCut buckets tags bucket first → IsCut buckets tags (bucket + 1) next → first ≤ next
cuts_in_order {buckets} {tags} {bucket} {first} {next} here there =
    elim (cases_lt next first) [
      | inl early ↦ absurd (
          let below : bucket_of buckets (get_or tags next 0) < bucket = here.before next early in
          let above : bucket + 1 ≤ bucket_of buckets (get_or tags next 0) = there.behind next (omega arith) (let w = here.within in omega arith) in
          omega arith)
      | inr late ↦ late
    ]

places_in_bucket : (buckets : ℕ) (texts key : List ℕ) (shown : Option ℕ) (entries : List Entry) (first next : ℕ) → AreEntries texts entries
    → IsCut buckets (tags_in entries) (bucket_of buckets (tag_of key)) first → IsCut buckets (tags_in entries) (bucket_of buckets (tag_of key) + 1) next
    → near_of key shown (pairs_in texts (slice_range entries first next)) ≡ near_of key shown (pairs_in texts entries)
places_in_bucket buckets texts key shown entries first next all here there =
    let len : length (tags_in entries) ≡ length entries = simp length-map in
    let ordered : first ≤ next = cuts_in_order here there in
    let within : first ≤ length entries = (let w = here.within in omega arith) in
    places_between texts key shown entries first next ordered within
    (λ k d low inside same.
    let at : bucket_of buckets (get_or (tags_in entries) k 0) ≡ bucket_of buckets (tag_of key) = bucket_at buckets texts key entries k d all (omega arith) same in
    let below : bucket_of buckets (get_or (tags_in entries) k 0) < bucket_of buckets (tag_of key) = here.before k inside in
    omega arith)
    (λ k d low inside same.
    let at : bucket_of buckets (get_or (tags_in entries) k 0) ≡ bucket_of buckets (tag_of key) = bucket_at buckets texts key entries k d all inside same in
    let above : bucket_of buckets (tag_of key) + 1 ≤ bucket_of buckets (get_or (tags_in entries) k 0) = there.behind k low (omega arith) in
    omega arith)

-- the entries between the starts of a key's bucket and of the next
pub places_between_starts : (texts key : List ℕ) (shown : Option ℕ) (entries : List Entry) (starts : List ℕ) (bucket : ℕ) → IsKept texts entries starts
    → bucket ≡ bucket_of (length starts - 1) (tag_of key) → bucket < length starts - 1
    → near_of key shown (pairs_in texts (slice_range entries (get_or starts bucket 0) (get_or starts (bucket + 1) 0))) ≡ near_of key shown (pairs_in texts entries)
places_between_starts texts key shown entries starts bucket kept is within =
    let cut : (b : ℕ) → b ≤ length starts - 1 → IsCut (length starts - 1) (tags_in entries) b (get_or starts b 0) = kept.cut.cuts in
    rw is (places_in_bucket (length starts - 1) texts key shown entries _ _ kept.all (cut (bucket_of (length starts - 1) (tag_of key)) (omega arith)) (cut (bucket_of (length starts - 1) (tag_of key) + 1) (omega arith)))

-- ---- the two ends of a search

pub places_with_tag : (texts key : List ℕ) (tag : ℕ) (shown : Option ℕ) (entries : List Entry) (first next : ℕ) → AreEntries texts entries → tag ≡ tag_of key → first ≤ next → first ≤ length entries
    → ((k : ℕ) (entry : Entry) → k < first → (get_or entries k entry).tag < tag)
    → ((k : ℕ) (entry : Entry) → next ≤ k → k < length entries → tag < (get_or entries k entry).tag)
    → near_of key shown (pairs_in texts (slice_range entries first next)) ≡ near_of key shown (pairs_in texts entries)
places_with_tag texts key tag shown entries first next all is ordered within below above =
    let own : (k : ℕ) (d : Entry) → k < length entries → key_in texts (get_or entries k d) ≡ key → (get_or entries k d).tag ≡ tag = λ k d inside same. (all k d inside).tag ∙ ap tag_of same ∙ sym is in
    places_between texts key shown entries first next ordered within
    (λ k d low inside same. let less = below k d inside in let level = own k d (omega arith) same in omega arith)
    (λ k d low inside same. let more = above k d low inside in let level = own k d inside same in omega arith)

lt_is_no_eq : (r : Ordering) → is_eq r ≡ true → is_lt r ≡ true → ⊥
lt_is_no_eq Less eq lt = false≢true eq
lt_is_no_eq Equal eq lt = false≢true lt
lt_is_no_eq Greater eq lt = false≢true lt

eq_is_le : (r : Ordering) → is_eq r ≡ true → is_le r ≡ false → ⊥
eq_is_le Less eq le = false≢true eq
eq_is_le Equal eq le = false≢true (sym le)
eq_is_le Greater eq le = false≢true eq

-- an entry that has the key stands level with it
level : (texts key : List ℕ) (entry : Entry) → IsEntry texts entry → key_in texts entry ≡ key → is_eq (slice_cmp nat_cmp (rank_in texts entry) (tag_of key ∷ key)) ≡ true
level texts key entry is same =
    is_eq-slice_cmp (rank_in texts entry) (tag_of key ∷ key)
    ∙ (bytes_eq-Decides (rank_in texts entry) (tag_of key ∷ key)).1 (ap (λ t. t ∷ key_in texts entry) (is.tag ∙ ap tag_of same) ∙ ap (λ l. tag_of key ∷ l) same)

pub places_searched : (texts key : List ℕ) (tag : ℕ) (shown : Option ℕ) (entries : List Entry) (first next : ℕ) → AreEntries texts entries → tag ≡ tag_of key → first ≤ next → first ≤ length entries
    → ((k : ℕ) (entry : Entry) → k < first → is_below (rank_in texts (get_or entries k entry)) (tag ∷ key) ≡ true)
    → ((k : ℕ) (entry : Entry) → next ≤ k → k < length entries → is_le (slice_cmp nat_cmp (rank_in texts (get_or entries k entry)) (tag ∷ key)) ≡ false)
    → near_of key shown (pairs_in texts (slice_range entries first next)) ≡ near_of key shown (pairs_in texts entries)
places_searched texts key tag shown entries first next all is ordered within below above =
    places_between texts key shown entries first next ordered within
    (λ k d low inside same. lt_is_no_eq (slice_cmp nat_cmp (rank_in texts (get_or entries k d)) (tag_of key ∷ key)) (level texts key (get_or entries k d) (all k d (omega arith)) same)
    (rw is at (below k d inside)))
    (λ k d low inside same. eq_is_le (slice_cmp nat_cmp (rank_in texts (get_or entries k d)) (tag_of key ∷ key)) (level texts key (get_or entries k d) (all k d inside) same)
    (rw is at (above k d low inside)))

-- Entries in order: what a sort gives, and what a search asks for.
use Rattle.std.proofs.Common.{◌≡◌, ℕ, ◌-◌, ◌<◌, ◌≤◌, List, ◌∷◌, length, drop, get_or, true, false, refl, sym, ap, ◌∙◌, arith}
use Rattle.std.specs.List.Sorted.{IsNonDecreasing, IsPartitionedBy, IsPermutation}
use Rattle.std.specs.Cmp.{ranks}
use Rattle.std.specs.Ordering.{nat_cmp, is_lt, is_le, is_eq, ordering_reverse, ordering_then, ordering_index, MatchOrdering}
use Rattle.std.specs.declared.cmp.Ordering.{Ordering}
use Rattle.std.specs.declared.cmp.Ordering.TheVariants.{Less, Equal, Greater}
use Rattle.std.specs.Cmp.Lexicographic.{slice_cmp}
use Rattle.std.proofs.lemmas.Bool.{false≢true}
use Rattle.std.proofs.lemmas.Map.Text.{is_eq-slice_cmp}
use Rattle.std.proofs.lemmas.Slice.Eq.{bytes_eq-Decides}
use Rattle.key_table.specs.Bucket.{HaveKey}
use Rattle.key_table.specs.Hash.{tag_of}
use Rattle.std.proofs.lemmas.Cmp.{nat_list_cmp_total}
use Rattle.std.proofs.lemmas.List.{get_or-map, get_or_default, length-map}
use Rattle.std.proofs.lemmas.List.Elements.{All-get_or, All-from_get_or}
use Rattle.std.proofs.lemmas.List.Sorted.{ranks_by, sorted_far, searchable_from_sorted, IsPermutation-map, All-permutation}
use Rattle.key_table.specs.declared.entry.Entry.{Entry}
use Rattle.key_table.specs.Kept.{key_in, rank_in, is_below, HasRisingTags, IsRising, IsEntry, AreEntries, pair_in, pairs_in, tags_in}

-- ---- tags rise

first_decides : (a b : ℕ) (first behind : Ordering) → MatchOrdering first (a < b) (a ≡ b) (b < a) → is_lt (ordering_then first behind) ≡ false → b ≤ a
first_decides a b Less behind told not = absurd (false≢true (sym not))
first_decides a b Equal behind told not = omega arith
first_decides a b Greater behind told not = omega arith

pub entries_rise : (texts : List ℕ) (entries : List Entry) → IsRising texts entries → HasRisingTags entries
entries_rise texts entries rising i j entry ordered within =
    let far = sorted_far _ (ranks_by nat_list_cmp_total (rank_in texts)) entries rising i j entry ordered within in
    first_decides (get_or entries j entry).tag (get_or entries i entry).tag (nat_cmp (get_or entries j entry).tag (get_or entries i entry).tag) (slice_cmp nat_cmp (key_in texts (get_or entries j entry)) (key_in texts (get_or entries i entry))) (ranks (get_or entries j entry).tag (get_or entries i entry).tag) far

pub tags_rise : (texts : List ℕ) (entries : List Entry) → IsRising texts entries → IsNonDecreasing (tags_in entries)
tags_rise texts entries rising i j d ordered within =
    let entry : Entry = record { needed = 0; tag = 0; at = 0; len = 0; place = 0 } in
    let len : length (tags_in entries) ≡ length entries = simp length-map in
    let at_i : get_or (tags_in entries) i d ≡ (get_or entries i entry).tag = get_or-map (λ (e : Entry). e.tag) entries i entry d (omega arith) in
    let at_j : get_or (tags_in entries) j d ≡ (get_or entries j entry).tag = get_or-map (λ (e : Entry). e.tag) entries j entry d (omega arith) in
    let up : (get_or entries i entry).tag ≤ (get_or entries j entry).tag = entries_rise texts entries rising i j entry ordered (omega arith) in
    omega arith

-- ---- a search by halves

lower_is_lt : (a b : Ordering) → ordering_index a ≤ ordering_index b → is_lt b ≡ true → is_lt a ≡ true
lower_is_lt Less b ordered passes = refl
lower_is_lt Equal Less ordered passes = absurd (omega arith)
lower_is_lt Equal Equal ordered passes = passes
lower_is_lt Equal Greater ordered passes = passes
lower_is_lt Greater Less ordered passes = absurd (omega arith)
lower_is_lt Greater Equal ordered passes = passes
lower_is_lt Greater Greater ordered passes = passes

lower_is_le : (a b : Ordering) → ordering_index a ≤ ordering_index b → is_le b ≡ true → is_le a ≡ true
lower_is_le Less b ordered passes = refl
lower_is_le Equal b ordered passes = refl
lower_is_le Greater Less ordered passes = absurd (omega arith)
lower_is_le Greater Equal ordered passes = absurd (omega arith)
lower_is_le Greater Greater ordered passes = passes

pub below_first : (texts rank : List ℕ) (entries : List Entry) → IsRising texts entries → IsPartitionedBy (λ entry. is_lt (slice_cmp nat_cmp (rank_in texts entry) rank)) entries
below_first texts rank entries rising i j d ordered within passes =
    lower_is_lt _ _ (searchable_from_sorted nat_list_cmp_total (rank_in texts) entries rank rising i j d ordered within) passes

pub above_last : (texts rank : List ℕ) (entries : List Entry) → IsRising texts entries → IsPartitionedBy (λ entry. is_le (slice_cmp nat_cmp (rank_in texts entry) rank)) entries
above_last texts rank entries rising i j d ordered within passes =
    lower_is_le _ _ (searchable_from_sorted nat_list_cmp_total (rank_in texts) entries rank rising i j d ordered within) passes

-- ---- what stands between two entries that have a key

neither_way : (x : Ordering) → is_lt x ≡ false → is_lt (ordering_reverse x) ≡ false → is_eq x ≡ true
neither_way Less not_lower not_higher = absurd (false≢true (sym not_lower))
neither_way Equal not_lower not_higher = refl
neither_way Greater not_lower not_higher = absurd (false≢true (sym not_higher))

level_rank : (rank other : List ℕ) → is_below rank other ≡ false → is_below other rank ≡ false → rank ≡ other
level_rank rank other not_lower not_higher =
    let higher : is_lt (ordering_reverse (slice_cmp nat_cmp rank other)) ≡ false = ap is_lt (sym (nat_list_cmp_total.antisymm other rank)) ∙ not_higher in
    (bytes_eq-Decides rank other).0 (sym (is_eq-slice_cmp rank other) ∙ neither_way (slice_cmp nat_cmp rank other) not_lower higher)

pub all_between : (texts key : List ℕ) (entries : List Entry) (e : Entry) → AreEntries texts entries → IsRising texts entries → 0 < length entries
    → key_in texts (get_or entries 0 e) ≡ key → key_in texts (get_or entries (length entries - 1) e) ≡ key → HaveKey texts key entries
all_between texts key entries e all rising some first last k d within =
    let end : ℕ = length entries - 1 in
    let rank : ℕ → List ℕ = λ i. rank_in texts (get_or entries i e) in
    let rank_at : (i : ℕ) → i < length entries → key_in texts (get_or entries i e) ≡ key → rank i ≡ tag_of key ∷ key = λ i inside same.
    ap (λ t. t ∷ key_in texts (get_or entries i e)) ((all i e inside).tag ∙ ap tag_of same) ∙ ap (λ l. tag_of key ∷ l) same in
    let order = ranks_by nat_list_cmp_total (rank_in texts) in
    let above : is_below (rank k) (rank 0) ≡ false = sorted_far _ order entries rising 0 k e (omega arith) within in
    let below : is_below (rank end) (rank k) ≡ false = sorted_far _ order entries rising k end e (omega arith) (omega arith) in
    let lowest : rank 0 ≡ tag_of key ∷ key = rank_at 0 some first in
    let highest : rank end ≡ tag_of key ∷ key = rank_at end (omega arith) last in
    let level : rank k ≡ tag_of key ∷ key = level_rank (rank k) (tag_of key ∷ key) (ap (is_below (rank k)) (sym lowest) ∙ above) (ap (λ r. is_below r (rank k)) (sym highest) ∙ below) in
    ap (key_in texts) (get_or_default entries k d e within) ∙ ap (drop 1) level

-- ---- another order

pub entries_in_order : (texts : List ℕ) (entries other : List Entry) → IsPermutation entries other → AreEntries texts entries → AreEntries texts other
entries_in_order texts entries other moved all k d within =
    All-get_or (IsEntry texts) other k d within (All-permutation (IsEntry texts) entries other moved (All-from_get_or (IsEntry texts) entries d (λ i inside. all i d inside)))

pub pairs_in_order : (texts : List ℕ) (entries other : List Entry) → IsPermutation entries other → IsPermutation (pairs_in texts entries) (pairs_in texts other)
pairs_in_order texts entries other moved = IsPermutation-map (pair_in texts) entries other moved

-- A text is found by the order of the texts.
use Rattle.std.proofs.Common.{◌≡◌, ℕ, ◌+◌, zero, suc, Bool, ◌||◌, List, [], ◌∷◌, ◌++◌, Result, Ok, Err, map, length, refl, sym, ap, ◌∙◌, subst, arith, ⊎_elim}
use Rattle.std.specs.Prelude.{is_ok}
use Rattle.std.specs.List.{list_any, range_with_len}
use Rattle.std.specs.List.Sorted.{IsPermutation, IsBinarySearchResult, IsSearchInRange}
use Rattle.std.specs.Ordering.{nat_cmp, is_eq}
use Rattle.std.specs.declared.cmp.Ordering.{Ordering}
use Rattle.std.specs.Cmp.Lexicographic.{slice_cmp}
use Rattle.std.specs.Str.{bytes_eq}
use Rattle.std.proofs.lemmas.Bool.{cases_lt}
use Rattle.std.proofs.lemmas.Bool.Decides.{nat_tests}
use Rattle.std.proofs.lemmas.Cmp.{nat_list_cmp_total, same_from_slice_cmp}
use Rattle.std.proofs.lemmas.List.Folds.{list_any_none, list_any_at}
use Rattle.std.proofs.lemmas.List.FromFn.{fill_by_all}
use Rattle.std.proofs.lemmas.List.Sorted.{IsPermutation-map, list_any-IsPermutation, searchable_from_sorted}
use Rattle.domain_set.specs.Table.{has_text, text_at, Ascend, IsOrder}

counting : (a n j : ℕ) → a + n ≡ j → range_with_len a (suc n) ≡ range_with_len a n ++ j ∷ []
counting a zero j is = let same : a ≡ j = omega arith in ap (λ k. k ∷ []) same
counting a (suc n) j is = ap (λ l. a ∷ l) (counting (a + 1) n j (omega arith))

-- one place more
pub one_more : (n : ℕ) → range_with_len 0 (n + 1) ≡ range_with_len 0 n ++ n ∷ []
one_more n = let next : n + 1 ≡ suc n = omega arith in ap (range_with_len 0) next ∙ counting 0 n n (omega arith)

-- the places of all texts, once they are sorted
pub is_order : (list : List (List ℕ)) (places : List ℕ) → IsPermutation (range_with_len 0 (length list)) places → Ascend list places → IsOrder list places
is_order list places moved ascends =
    let all : list ≡ map (text_at list) (range_with_len 0 (length list)) = fill_by_all (text_at list) list (length list) [] refl (λ k within. refl) in
    record {
      all = subst (λ (l : List (List ℕ)). IsPermutation l (map (text_at list) places)) (sym all) (IsPermutation-map (text_at list) (range_with_len 0 (length list)) places moved);
      ascends = ascends;
    }

equal_texts : (text other : List ℕ) → is_eq (slice_cmp nat_cmp text other) ≡ bytes_eq text other
equal_texts text other =
    same_from_slice_cmp nat_cmp is_eq bytes_eq refl (λ y ys. refl) (λ x xs. refl) (λ x y xs ys o e. grind (arith, nat_tests)) text other (slice_cmp nat_cmp text other) refl

-- how the text at a place stands to one that is looked for
abbrev pub compared : List (List ℕ) → List ℕ → ℕ → Ordering
compared list text place = slice_cmp nat_cmp (text_at list place) text

abbrev is_there : List (List ℕ) → List ℕ → ℕ → Bool
is_there list text place = is_eq (compared list text place)

any_there : (list : List (List ℕ)) (text : List ℕ) (places : List ℕ) → has_text (map (text_at list) places) text ≡ list_any (is_there list text) places
any_there list text [] = refl
any_there list text (place ∷ places) = λ i. sym (equal_texts (text_at list place) text) i || any_there list text places i

by_order : (list : List (List ℕ)) (places text : List ℕ) → IsOrder list places → has_text list text ≡ list_any (is_there list text) places
by_order list places text order = list_any-IsPermutation (λ entry. bytes_eq entry text) list (map (text_at list) places) order.all ∙ any_there list text places

pub found : (list : List (List ℕ)) (places text : List ℕ) → IsOrder list places → (result : Result ℕ ℕ) → IsSearchInRange result (length places)
    → IsBinarySearchResult (compared list text) places result → is_ok result ≡ has_text list text
found list places text order (Ok place) within equal =
    sym (by_order list places text order ∙ list_any_at (is_there list text) places place 0 within (ap is_eq (equal 0)))
found list places text order (Err place) within apart =
    let parts = apart (searchable_from_sorted nat_list_cmp_total (text_at list) places text order.ascends) in
    sym (by_order list places text order ∙ list_any_none (is_there list text) places (λ k d inside.
    ⊎_elim
    (λ before. ap is_eq (parts.0 k d (omega arith) before))
    (λ behind. ap is_eq (parts.1 k d behind inside))
    (cases_lt k place)))

-- The walk passes over a word.
use Rattle.std.proofs.Common.{◌≡◌, ℕ, suc, ◌+◌, ◌<◌, ◌≤◌, List, [], ◌∷◌, ◌++◌, length, take, drop, get_or, filter, Bool, true, false, refl, sym, ap, ◌∙◌, arith, cond, Option, add-one, length-drop}
use Rattle.std.specs.List.{slice_split, count_by}
use Rattle.std.proofs.Math.Seq.{drop-cons, take-suc}
use Rattle.std.proofs.lemmas.List.Splits.{length-slice_split}
use Rattle.std.proofs.lemmas.Grind.{common_steps}
use Rattle.key_table.specs.Pairs.{Pair, lower_case, near_of}
use Rattle.index_spec.specs.Words.{ends_word, has_word, is_filled, words_of}
use Rattle.key_walk.specs.Met.{places_behind}

shorter_by : {X : Type 0} (b : Bool) (x : X) (xs : List X) (n : ℕ) → length xs ≤ n → length (cond b (x ∷ xs) xs) ≤ suc n
shorter_by true x xs n few = omega arith
shorter_by false x xs n few = omega arith

filter_shorter : {X : Type 0} (p : X → Bool) (xs : List X) → length (filter p xs) ≤ length xs
filter_shorter p [] = omega arith
filter_shorter p (x ∷ xs) = shorter_by (p x) x (filter p xs) (length xs) (filter_shorter p xs)

count_shorter : (p : ℕ → Bool) (xs : List ℕ) → count_by p xs ≤ length xs
count_shorter p xs = grind (arith, common_steps)

pub words_few : (text : List ℕ) → length (words_of text) ≤ length text + 1
words_few text =
    let a : length (words_of text) ≤ length (slice_split ends_word text) = filter_shorter is_filled (slice_split ends_word text) in
    let b : length (slice_split ends_word text) ≡ count_by ends_word text + 1 = length-slice_split ends_word text in
    let d : count_by ends_word text ≤ length text = count_shorter ends_word text in
    omega arith

-- one more is passed
pub passed_one : (words : List (List ℕ)) (passed : ℕ) (word : List ℕ) (rest : List (List ℕ)) → drop passed words ≡ word ∷ rest → (take (passed + 1) words ≡ take passed words ++ word ∷ []) × (drop (passed + 1) words ≡ rest)
passed_one words passed word rest is =
    let len : length (drop passed words) ≡ length (word ∷ rest) = ap length is in
    let inside : passed < length words = omega (arith, length-drop passed words) in
    let cut : drop passed words ≡ get_or words passed word ∷ drop (suc passed) words = drop-cons words passed word inside in
    let whole : word ∷ rest ≡ get_or words passed word ∷ drop (suc passed) words = sym is ∙ cut in
    let first : get_or words passed word ≡ word = cc in
    let behind : drop (suc passed) words ≡ rest = cc in
    (rw add-one (take-suc words passed word inside ∙ ap (λ w. take passed words ++ w ∷ []) first), rw add-one behind)

no_more : (b : Bool) (left : List ℕ) → left ≡ cond b [] [] ++ left
no_more true left = refl
no_more false left = refl

-- a word that is new, and gives places
pub step_new : (pairs : List Pair) (shown : Option ℕ) (all words : List (List ℕ)) (passed : ℕ) (word : List ℕ) (rest : List (List ℕ)) (place : ℕ) (more : List ℕ) → words ≡ drop passed all → words ≡ word ∷ rest → near_of (lower_case word) shown pairs ≡ place ∷ more → has_word (take passed all) word ≡ false → places_behind pairs shown (take passed all) words ≡ place ∷ (more ++ places_behind pairs shown (take (passed + 1) all) rest)
step_new pairs shown all words passed word rest place more at is places new =
    let next : take (passed + 1) all ≡ take passed all ++ word ∷ [] = (passed_one all passed word rest (sym at ∙ is)).0 in
    rw (is, next, new, places) refl

-- a word that was met before, or gives no places
pub step_met : (pairs : List Pair) (shown : Option ℕ) (all words : List (List ℕ)) (passed : ℕ) (word : List ℕ) (rest : List (List ℕ)) → words ≡ drop passed all → words ≡ word ∷ rest → has_word (take passed all) word ≡ true → places_behind pairs shown (take (passed + 1) all) rest ≡ places_behind pairs shown (take passed all) words
step_met pairs shown all words passed word rest at is met =
    let next : take (passed + 1) all ≡ take passed all ++ word ∷ [] = (passed_one all passed word rest (sym at ∙ is)).0 in
    rw (is, next, met) refl

pub step_none : (pairs : List Pair) (shown : Option ℕ) (all words : List (List ℕ)) (passed : ℕ) (word : List ℕ) (rest : List (List ℕ)) → words ≡ drop passed all → words ≡ word ∷ rest → near_of (lower_case word) shown pairs ≡ [] → places_behind pairs shown (take (passed + 1) all) rest ≡ places_behind pairs shown (take passed all) words
step_none pairs shown all words passed word rest at is none =
    let next : take (passed + 1) all ≡ take passed all ++ word ∷ [] = (passed_one all passed word rest (sym at ∙ is)).0 in
    rw (is, next, none) (no_more (has_word (take passed all) word) (places_behind pairs shown (take passed all ++ word ∷ []) rest))

-- Words that stood before.
use Rattle.std.proofs.Common.{◌≡◌, ℕ, suc, ◌+◌, ◌<◌, List, [], ◌∷◌, ◌++◌, take, get_or, length, Bool, true, false, cond, not, ◌||◌, refl, sym, ap, ◌∙◌, arith, ⊎_elim, append_assoc, append-nil, add-one, zero}
use Rattle.std.proofs.Math.Seq.{take-suc}
use Rattle.std.specs.BTreeSet.{BTreeSet, contains, Updates}
use Rattle.std.specs.List.{list_any}
use Rattle.std.specs.Str.{bytes_eq}
use Rattle.std.specs.Cmp.Lexicographic.{nat_list_eq_equiv}
use Rattle.std.proofs.lemmas.Bool.{cases_Bool}
use Rattle.std.proofs.lemmas.List.Folds.{list_any-append}
use Rattle.std.proofs.lemmas.Map.Text.{is_eq-slice_cmp}
use Rattle.std.proofs.lemmas.Slice.Eq.{bytes_eq-Decides}
use Rattle.dnr_spec.specs.Domains.{lower_case}
use Rattle.index_spec.specs.Words.{has_word}
use Rattle.key_table.specs.Hash.{tag_of}
use Rattle.key_walk.specs.Listed.{HasMet, Key, key_cmp, repeats_behind}

or_cond : (old new : Bool) → (old || (new || false)) ≡ cond new true old
or_cond true true = refl
or_cond true false = refl
or_cond false true = refl
or_cond false false = refl

-- whether one that is asked for was met
pub has_it : (met : BTreeSet Key) (words : List (List ℕ)) (word : List ℕ) (key : Key) → HasMet met words → key.items ≡ lower_case word
    → contains key_cmp met key ≡ has_word words word
has_it met words word key has is = has key ∙ ap (λ k. list_any (λ other. bytes_eq (lower_case other) k) words) is

-- one more is met
pub with_it : (old new : BTreeSet Key) (words : List (List ℕ)) (word : List ℕ) (key : Key) → HasMet old words → key.items ≡ lower_case word
    → Updates key_cmp old new key true → HasMet new (words ++ word ∷ [])
with_it old new words word key has is up q =
    up.0 q
    ∙ ap (λ b. cond b true (contains key_cmp old q)) (is_eq-slice_cmp key.items q.items ∙ ap (λ k. bytes_eq k q.items) is)
    ∙ ap (λ b. cond (bytes_eq (lower_case word) q.items) true b) (has q)
    ∙ sym (or_cond (list_any (λ other. bytes_eq (lower_case other) q.items) words) (bytes_eq (lower_case word) q.items))
    ∙ sym (list_any-append (λ other. bytes_eq (lower_case other) q.items) words (word ∷ []))

none_more : (words : List (List ℕ)) (before : List (List ℕ)) → length (repeats_behind before words) ≡ length words
none_more [] before = refl
none_more (word ∷ words) before = ap suc (none_more words (before ++ word ∷ []))

pub count_of : (words : List (List ℕ)) → length (repeats_behind [] words) ≡ length words
count_of words = none_more words []

at_behind : (words before : List (List ℕ)) (place : ℕ) → place < length words
    → get_or (repeats_behind before words) place false ≡ has_word (before ++ take place words) (get_or words place [])
at_behind [] before place in_words = absurd (omega (arith, in_words))
at_behind (word ∷ words) before zero in_words = ap (λ b. has_word b word) (sym (append-nil before))
at_behind (word ∷ words) before (suc place) in_words =
    at_behind words (before ++ word ∷ []) place (omega (arith, in_words))
    ∙ ap (λ b. has_word b (get_or words place [])) (append_assoc before (word ∷ []) (take place words))

pub at_place : (words : List (List ℕ)) (place : ℕ) → place < length words
    → get_or (repeats_behind [] words) place false ≡ has_word (take place words) (get_or words place [])
at_place words place in_words = at_behind words [] place in_words

pub one_more : (words : List (List ℕ)) (place : ℕ) → place < length words
    → take (suc place) (repeats_behind [] words) ≡ take place (repeats_behind [] words) ++ has_word (take place words) (get_or words place []) ∷ []
one_more words place in_words =
    let inside : place < length (repeats_behind [] words) = omega (arith, count_of words, in_words) in
    take-suc (repeats_behind [] words) place false inside ∙ ap (λ b. take place (repeats_behind [] words) ++ b ∷ []) (at_place words place in_words)

-- words with other tags are others
pub other_tags : (one other : List ℕ) → (tag_of (lower_case one) ≡ tag_of (lower_case other) → ⊥) → bytes_eq (lower_case one) (lower_case other) ≡ false
other_tags one other apart = ⊎_elim (λ same. absurd (apart (ap tag_of ((bytes_eq-Decides (lower_case one) (lower_case other)).0 same)))) (λ is. is) (cases_Bool (bytes_eq (lower_case one) (lower_case other)))

not_twice : (b : Bool) → not (not b) ≡ b
not_twice true = refl
not_twice false = refl

other_default : {X : Type 0} (xs : List X) (place : ℕ) (d e : X) → place < length xs → get_or xs place d ≡ get_or xs place e
other_default [] place d e inside = absurd (omega (arith, inside))
other_default (x ∷ xs) zero d e inside = refl
other_default (x ∷ xs) (suc place) d e inside = other_default xs place d e (omega (arith, inside))

-- a walk over the words comes to one more
pub word_more : (words : List (List ℕ)) (place : ℕ) (word : List ℕ) → place < length words → word ≡ get_or words place word
    → take (place + 1) words ≡ take place words ++ word ∷ []
word_more words place word inside is = rw add-one (take-suc words place word inside ∙ ap (λ w. take place words ++ w ∷ []) (sym is))

pub pushed : (words : List (List ℕ)) (place : ℕ) (word : List ℕ) (repeats : List Bool) (new : Bool) → place < length words → word ≡ get_or words place word
    → repeats ≡ take place (repeats_behind [] words) → new ≡ not (has_word (take place words) word)
    → repeats ++ not new ∷ [] ≡ take (place + 1) (repeats_behind [] words)
pushed words place word repeats new inside at so_far is =
    let here : word ≡ get_or words place [] = at ∙ other_default words place word [] inside in
    let told : not new ≡ has_word (take place words) (get_or words place []) = ap not is ∙ not_twice (has_word (take place words) word) ∙ ap (has_word (take place words)) here in
    (λ i. so_far i ++ told i ∷ []) ∙ sym (rw add-one (one_more words place inside))

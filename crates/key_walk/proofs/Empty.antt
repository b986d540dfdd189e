-- A table without pairs has no places.
use Rattle.std.proofs.Common.{◌≡◌, ℕ, List, [], ◌∷◌, ◌++◌, length, Bool, true, false, cond, Option, refl, sym, ap, ◌∙◌, arith}
use Rattle.key_table.specs.Pairs.{Pair, lower_case, near_of}
use Rattle.index_spec.specs.Words.{has_word, words_of}
use Rattle.index_spec.specs.Keys.{domains_over}
use Rattle.key_walk.specs.Met.{near_text, places_behind}
use Rattle.key_walk.specs.Over.{near_each}

none_each : (pairs : List Pair) (shown : Option ℕ) (texts : List (List ℕ)) → length pairs ≡ 0 → near_each pairs shown texts ≡ []
none_each [] shown [] none = refl
none_each [] shown (text ∷ texts) none = none_each [] shown texts none
none_each (pair ∷ pairs) shown texts none = absurd (omega arith)

pub none_of_each : (pairs : List Pair) (shown : Option ℕ) (texts others : List (List ℕ)) → length pairs ≡ 0 → near_each pairs shown texts ≡ near_each pairs shown others
none_of_each pairs shown texts others none = none_each pairs shown texts none ∙ sym (none_each pairs shown others none)

same_any : {X : Type 0} (b : Bool) (x : X) → cond b x x ≡ x
same_any true x = refl
same_any false x = refl

none_behind : (pairs : List Pair) (shown : Option ℕ) (before words : List (List ℕ)) → length pairs ≡ 0 → places_behind pairs shown before words ≡ []
none_behind [] shown before [] none = refl
none_behind [] shown before (word ∷ words) none =
    ap (λ l. l ++ places_behind [] shown (before ++ word ∷ []) words) (same_any {X = List ℕ} (has_word before word) []) ∙ none_behind [] shown (before ++ word ∷ []) words none
none_behind (pair ∷ pairs) shown before words none = absurd (omega arith)

pub none_of_text : (pairs : List Pair) (shown : Option ℕ) (text other : List ℕ) → length pairs ≡ 0 → near_text pairs shown text ≡ near_text pairs shown other
none_of_text pairs shown text other none = none_behind pairs shown [] (words_of text) none ∙ sym (none_behind pairs shown [] (words_of other) none)

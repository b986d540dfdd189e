-- What is made of each text of a list, once.
use Rattle.std.proofs.Common.{◌≡◌, ℕ, List, [], ◌∷◌, ◌++◌, map, Bool, true, false, cond, refl, sym, ap, ◌∙◌}
use Rattle.std.specs.Str.{bytes_eq}
use Rattle.std.proofs.lemmas.List.{append_assoc}
use Rattle.rule_index.specs.Index.{once_by}

-- a text that was seen
pub passed_over : {Y : Type 0} (made : List ℕ → Y) (draft whole : List Y) (seen : List ℕ → Bool) (text : List ℕ) (left rest : List (List ℕ)) → left ≡ text ∷ rest → seen text ≡ true → draft ++ map made (once_by seen left) ≡ whole → draft ++ map made (once_by seen rest) ≡ whole
passed_over made draft whole seen text left rest is has told =
    let next : once_by seen left ≡ once_by seen rest = rw (is, has) refl in
    sym (ap (λ texts. draft ++ map made texts) next) ∙ told

-- a text that was not seen, and is from now on
pub put : {Y : Type 0} (made : List ℕ → Y) (draft with_text whole : List Y) (seen more : List ℕ → Bool) (text : List ℕ) (left rest : List (List ℕ)) → left ≡ text ∷ rest → seen text ≡ false
    → ((other : List ℕ) → more other ≡ cond (bytes_eq text other) true (seen other)) → with_text ≡ draft ++ made text ∷ []
    → draft ++ map made (once_by seen left) ≡ whole → with_text ++ map made (once_by more rest) ≡ whole
put made draft with_text whole seen more text left rest is has same added told =
    let later : List ℕ → Bool = λ other. cond (bytes_eq text other) true (seen other) in
    let next : once_by seen left ≡ text ∷ once_by later rest = rw (is, has) refl in
    let tests : once_by more rest ≡ once_by later rest = ap (λ (test : List ℕ → Bool). once_by test rest) (λ i other. same other i) in
    rw (added, tests) (append_assoc draft (made text ∷ []) (map made (once_by later rest)) ∙ sym (ap (λ texts. draft ++ map made texts) next) ∙ told)

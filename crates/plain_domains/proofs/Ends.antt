-- What stands before a `^`, and the last label.
use Rattle.std.proofs.Common.{◌≡◌, ℕ, ◌-◌, List, [], ◌∷◌, ◌++◌, take, drop, length, Bool, true, false, cond, Some, None, refl, sym, ap, ◌∙◌, arith, length-append}
use Rattle.std.specs.Prelude.{codes, nat_eq}
use Rattle.std.specs.List.{ends_with, list_any}
use Rattle.std.proofs.Math.Seq.{drop-append_seam}
use Rattle.std.proofs.lemmas.List.{take-append-drop}
use Rattle.std.proofs.lemmas.Slice.Eq.{bytes_eq-Decides}
use Rattle.plain_domains.specs.PlainDomains.{is_lower_letter, ends_in_letters, before_caret}

take_seam : (xs ys : List ℕ) → take (length xs) (xs ++ ys) ≡ xs
take_seam [] [] = refl
take_seam [] (y ∷ ys) = refl
take_seam (x ∷ xs) ys = ap (λ r. x ∷ r) (take_seam xs ys)

caret_some : (text : List ℕ) → before_caret (text ++ 94 ∷ []) ≡ Some text
caret_some text =
    let n : length (text ++ 94 ∷ []) - 1 ≡ length text = omega (arith, length-append text (94 ∷ [])) in
    let ends : ends_with nat_eq (text ++ 94 ∷ []) (codes "^") ≡ true =
    (bytes_eq-Decides (codes "^") (drop (length (text ++ 94 ∷ []) - 1) (text ++ 94 ∷ []))).1 (sym (ap (λ k. drop k (text ++ 94 ∷ [])) n ∙ drop-append_seam text (94 ∷ []))) in
    (λ i. cond (ends i) (Some (take (n i) (text ++ 94 ∷ []))) None) ∙ ap Some (take_seam text (94 ∷ []))

cut_back : (text : List ℕ) (ends : Bool) → ends_with nat_eq text (codes "^") ≡ ends → ((front : List ℕ) → text ≡ front ++ 94 ∷ [] → ⊥) → before_caret text ≡ None
cut_back text true there never =
    absurd (never (take (length text - 1) text) (sym (take-append-drop (length text - 1) text)
    ∙ ap (λ r. take (length text - 1) text ++ r) (sym ((bytes_eq-Decides (codes "^") (drop (length text - 1) text)).0 there))))
cut_back text false other never = ap (λ b. cond b (Some (take (length text - 1) text)) None) other

pub caret_none : (text : List ℕ) → ((front : List ℕ) → text ≡ front ++ 94 ∷ [] → ⊥) → before_caret text ≡ None
caret_none text never = cut_back text (ends_with nat_eq text (codes "^")) refl never

pub caret_at : (text front : List ℕ) → text ≡ front ++ 94 ∷ [] → before_caret text ≡ Some front
caret_at text front e = ap before_caret e ∙ caret_some front

-- ---- the last label

pub last_letters : (labels : List (List ℕ)) (last : List ℕ) → ends_in_letters (labels ++ last ∷ []) ≡ list_any is_lower_letter last
last_letters [] last = refl
last_letters (label ∷ []) last = refl
last_letters (label ∷ next ∷ labels) last = last_letters (next ∷ labels) last

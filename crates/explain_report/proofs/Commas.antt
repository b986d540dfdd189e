-- Texts behind commas, one after another.
use Rattle.std.proofs.Common.{◌≡◌, ℕ, ◌+◌, ◌<◌, ◌≤◌, List, [], ◌∷◌, ◌++◌, length, take, get_or, map, codes, sym, ap, ◌∙◌, append_assoc}
use Rattle.std.proofs.lemmas.List.{take_more, take_all, map-append, append-nil}
use Rattle.session_spec.specs.Output.{behind_commas}

commas-append : (xs : List (List ℕ)) (text : List ℕ) → behind_commas (xs ++ text ∷ []) ≡ behind_commas xs ++ (codes "," ++ text)
commas-append [] text = ap (λ t. codes "," ++ t) (append-nil text)
commas-append (x ∷ xs) text =
    ap (λ t. codes "," ++ (x ++ t)) (commas-append xs text)
    ∙ ap (λ t. codes "," ++ t) (sym (append_assoc x (behind_commas xs) (codes "," ++ text)))

-- one text more stands behind a comma
pub one_more : {X : Type 0} (text_of : X → List ℕ) (xs : List X) (next : ℕ) (x : X) (before now grown now_more : List ℕ)
    → next < length xs → x ≡ get_or xs next x
    → now ≡ before ++ behind_commas (map text_of (take next xs))
    → grown ≡ now ++ codes ","
    → now_more ≡ grown ++ text_of x
    → now_more ≡ before ++ behind_commas (map text_of (take (next + 1) xs))
one_more text_of xs next x before now grown now_more inside is so_far comma text =
    text ∙ ap (λ t. t ++ text_of x) comma ∙ append_assoc now (codes ",") (text_of x) ∙ ap (λ t. t ++ (codes "," ++ text_of x)) so_far
    ∙ append_assoc before (behind_commas (map text_of (take next xs))) (codes "," ++ text_of x)
    ∙ ap (λ t. before ++ t) (sym (commas-append (map text_of (take next xs)) (text_of x)))
    ∙ ap (λ ts. before ++ behind_commas ts)
    (sym (map-append text_of (take next xs) (x ∷ [])) ∙ ap (map text_of) (ap (λ l. take next xs ++ l ∷ []) is ∙ sym (take_more xs next x inside)))

pub nothing_yet : {X : Type 0} (text_of : X → List ℕ) (xs : List X) (before : List ℕ) → before ≡ before ++ behind_commas (map text_of (take 0 xs))
nothing_yet text_of xs before = sym (append-nil before)

pub all_written : {X : Type 0} (text_of : X → List ℕ) (xs : List X) (next : ℕ) (before now : List ℕ)
    → length xs ≤ next → now ≡ before ++ behind_commas (map text_of (take next xs)) → now ≡ before ++ behind_commas (map text_of xs)
all_written text_of xs next before now end so_far = so_far ∙ ap (λ l. before ++ behind_commas (map text_of l)) (take_all next xs end)

-- What pieces take from one place of a pattern, and one byte of a text, on.
use Rattle.std.proofs.Common.{◌≡◌, ℕ, ◌+◌, ◌<◌, List, [], ◌∷◌, length, drop, get_or, Bool, true, false, ◌&&◌, refl, sym, ap, ◌∙◌}
use Rattle.std.proofs.lemmas.List.{drop_more}
use Rattle.dnr_spec.specs.declared.piece.Piece.{Piece}
use Rattle.dnr_spec.specs.declared.piece.Piece.TheVariants.{AnyBytes, AtMostOne, Byte}
use Rattle.dnr_spec.specs.UrlFilter.{is_same}
use Rattle.dnr_spec.specs.Wildcards.{takes}
use Rattle.wildcard.specs.Places.{takes_from, takes_here, takes_nothing}

and_turned : (a b : Bool) → (a && b) ≡ (b && a)
and_turned true true = refl
and_turned true false = refl
and_turned false true = refl
and_turned false false = refl

one_byte : (fold : Bool) (p : Piece) (pieces : List Piece) (b : ℕ) (rest : List ℕ) → takes fold (p ∷ pieces) (b ∷ rest) ≡ takes_here fold p b (takes fold (p ∷ pieces) rest) (takes fold pieces rest) (takes fold pieces (b ∷ rest))
one_byte fold AnyBytes pieces b rest = refl
one_byte fold AtMostOne pieces b rest = refl
one_byte fold (Byte c) pieces b rest = and_turned (is_same fold b c) (takes fold pieces rest)

no_byte : (fold : Bool) (p : Piece) (pieces : List Piece) → takes fold (p ∷ pieces) [] ≡ (takes_nothing p && takes fold pieces [])
no_byte fold AnyBytes pieces = refl
no_byte fold AtMostOne pieces = refl
no_byte fold (Byte c) pieces = refl

-- with a byte more
pub takes_more : (fold : Bool) (pieces : List Piece) (text : List ℕ) (k j : ℕ) (d : Piece) → k < length pieces → j < length text
    → takes_from fold pieces text k j ≡ takes_here fold (get_or pieces k d) (get_or text j 0) (takes_from fold pieces text k (j + 1)) (takes_from fold pieces text (k + 1) (j + 1)) (takes_from fold pieces text (k + 1) j)
takes_more fold pieces text k j d place byte =
    let p = get_or pieces k d in
    let b = get_or text j 0 in
    let here : drop k pieces ≡ p ∷ drop (k + 1) pieces = drop_more pieces k d place in
    let left : drop j text ≡ b ∷ drop (j + 1) text = drop_more text j 0 byte in
    ap (λ q. takes fold q (drop j text)) here
    ∙ ap (takes fold (p ∷ drop (k + 1) pieces)) left
    ∙ one_byte fold p (drop (k + 1) pieces) b (drop (j + 1) text)
    ∙ ap (λ q. takes_here fold p b (takes fold q (drop (j + 1) text)) (takes_from fold pieces text (k + 1) (j + 1)) (takes fold (drop (k + 1) pieces) (b ∷ drop (j + 1) text))) (sym here)
    ∙ ap (λ t. takes_here fold p b (takes_from fold pieces text k (j + 1)) (takes_from fold pieces text (k + 1) (j + 1)) (takes fold (drop (k + 1) pieces) t)) (sym left)

-- ---- at the end of the text

pub takes_none : (fold : Bool) (pieces : List Piece) (k : ℕ) (d : Piece) → k < length pieces → takes fold (drop k pieces) [] ≡ (takes_nothing (get_or pieces k d) && takes fold (drop (k + 1) pieces) [])
takes_none fold pieces k d place =
    ap (λ q. takes fold q []) (drop_more pieces k d place) ∙ no_byte fold (get_or pieces k d) (drop (k + 1) pieces)

-- the same at a place of which the piece is known
pub takes_at : (fold : Bool) (pieces : List Piece) (text : List ℕ) (k j : ℕ) (d p : Piece) → k < length pieces → j < length text → get_or pieces k d ≡ p
    → takes_from fold pieces text k j ≡ takes_here fold p (get_or text j 0) (takes_from fold pieces text k (j + 1)) (takes_from fold pieces text (k + 1) (j + 1)) (takes_from fold pieces text (k + 1) j)
takes_at fold pieces text k j d p place byte is =
    takes_more fold pieces text k j d place byte
    ∙ ap (λ q. takes_here fold q (get_or text j 0) (takes_from fold pieces text k (j + 1)) (takes_from fold pieces text (k + 1) (j + 1)) (takes_from fold pieces text (k + 1) j)) is

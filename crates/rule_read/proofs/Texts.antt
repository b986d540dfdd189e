-- Texts in ASCII alone.
use Rattle.std.proofs.Common.{◌≡◌, ℕ, zero, suc, List, [], ◌∷◌, Bool, true, false, ◌&&◌, refl, ap, ◌∙◌, arith}
use Rattle.std.specs.Prelude.{MatchBool}
use Rattle.std.specs.Char.{is_ascii}
use Rattle.std.specs.List.{list_all}
use Rattle.std.specs.Str.{IsAscii, IsNotAscii}
use Rattle.std.proofs.lemmas.Bool.{lt-ltb, le-ltb}

and_false : (a b : Bool) → b ≡ false → (a && b) ≡ false
and_false true b h = h
and_false false b h = refl

all_ascii : (text : List ℕ) → IsAscii text → list_all is_ascii text ≡ true
all_ascii [] h = refl
all_ascii (b ∷ text) h = ap (λ t. t && list_all is_ascii text) (lt-ltb b 128 (h 0)) ∙ all_ascii text (λ i. h (suc i))

not_ascii : (text : List ℕ) → IsNotAscii text → list_all is_ascii text ≡ false
not_ascii [] (i, h) = absurd (omega (arith, h))
not_ascii (b ∷ text) (zero, h) = ap (λ t. t && list_all is_ascii text) (le-ltb b 128 h)
not_ascii (b ∷ text) (suc i, h) = and_false (is_ascii b) (list_all is_ascii text) (not_ascii text (i, h))

pub ascii_is : (answer : Bool) (text : List ℕ) → MatchBool answer (IsAscii text) (IsNotAscii text) → list_all is_ascii text ≡ answer
ascii_is true text h = all_ascii text h
ascii_is false text h = not_ascii text h

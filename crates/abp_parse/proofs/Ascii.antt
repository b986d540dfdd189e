-- Texts of ASCII alone.
use Rattle.std.proofs.Common.{◌≡◌, ◌≤◌, ℕ, zero, suc, List, [], ◌∷◌, get_or, Bool, true, false, ◌&&◌, refl, sym, ap, ◌∙◌, arith, lt-ltb}
use Rattle.std.specs.Prelude.{MatchBool}
use Rattle.std.specs.List.{list_all}
use Rattle.std.specs.Char.{is_ascii}
use Rattle.std.specs.Str.{IsAscii, IsNotAscii}
use Rattle.std.proofs.lemmas.Bool.{le-ltb}
use Rattle.std.proofs.Math.Bool.{and-false}

all_ascii : (text : List ℕ) → IsAscii text → list_all is_ascii text ≡ true
all_ascii [] ascii = refl
all_ascii (b ∷ text) ascii = ap (λ t. t && list_all is_ascii text) (lt-ltb b 128 (ascii 0)) ∙ all_ascii text (λ i. ascii (suc i))

past_ascii : (text : List ℕ) (i : ℕ) → 128 ≤ get_or text i 0 → list_all is_ascii text ≡ false
past_ascii [] zero past = absurd (omega arith)
past_ascii [] (suc i) past = absurd (omega arith)
past_ascii (b ∷ text) zero past = ap (λ t. t && list_all is_ascii text) (le-ltb b 128 past)
past_ascii (b ∷ text) (suc i) past = ap (λ t. is_ascii b && t) (past_ascii text i past) ∙ and-false (is_ascii b)

pub told_ascii : (text : List ℕ) (answer : Bool) → MatchBool answer (IsAscii text) (IsNotAscii text) → answer ≡ list_all is_ascii text
told_ascii text true ascii = sym (all_ascii text ascii)
told_ascii text false other = sym (past_ascii text other.0 other.1)

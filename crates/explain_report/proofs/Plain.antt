-- Texts of which nothing is escaped, and texts that are appended in pieces.
use Rattle.std.proofs.Common.{◌≡◌, ℕ, List, [], ◌∷◌, ◌++◌, true, false, not, ◌&&◌, ◌==◌, nat_le, nat_lt, refl, ap, ap₂, ◌∙◌, append_assoc, arith}
use Rattle.std.specs.List.{list_all}
use Rattle.std.proofs.lemmas.Bool.{and_parts}
use Rattle.std.proofs.lemmas.Bool.Decides.{nat_tests}
use Rattle.json.specs.Print.{escape_byte, escape}
use Rattle.explain_report.specs.Plain.{is_plain}

byte_plain : (b : ℕ) → is_plain b ≡ true → escape_byte b ≡ b ∷ []
unfolding escape_byte
byte_plain b h =
    let both = and_parts (nat_le 32 b && not (b == 34)) (not (b == 92)) h in
    let first = and_parts (nat_le 32 b) (not (b == 34)) both.0 in
    let e32 : nat_lt b 32 ≡ false = grind (arith, nat_tests, first.0) in
    let e34 : (b == 34) ≡ false = grind (arith, first.1) in
    let e92 : (b == 92) ≡ false = grind (arith, both.1) in
    let e8 : (b == 8) ≡ false = grind (arith, nat_tests, first.0) in
    let e12 : (b == 12) ≡ false = grind (arith, nat_tests, first.0) in
    let e10 : (b == 10) ≡ false = grind (arith, nat_tests, first.0) in
    let e13 : (b == 13) ≡ false = grind (arith, nat_tests, first.0) in
    let e9 : (b == 9) ≡ false = grind (arith, nat_tests, first.0) in
    rw (e34, e92, e8, e12, e10, e13, e9, e32)

pub text_plain : (text : List ℕ) → list_all is_plain text ≡ true → escape text ≡ text
text_plain [] h = refl
text_plain (b ∷ text) h =
    let both = and_parts (is_plain b) (list_all is_plain text) h in
    ap₂ (λ s t. s ++ t) (byte_plain b both.0) (text_plain text both.1)

-- pieces that were appended one after another
pub three_pieces : (t0 t1 t2 t3 a b c : List ℕ) → t1 ≡ t0 ++ a → t2 ≡ t1 ++ b → t3 ≡ t2 ++ c → t3 ≡ t0 ++ (a ++ (b ++ c))
three_pieces t0 t1 t2 t3 a b c p1 p2 p3 =
    p3 ∙ ap (λ t. t ++ c) p2 ∙ append_assoc t1 b c ∙ ap (λ t. t ++ (b ++ c)) p1 ∙ append_assoc t0 a (b ++ c)

-- A pattern of values byte for byte.
use Rattle.std.proofs.Common.{◌≡◌, ℕ, ◌≤◌, List, [], ◌∷◌, length, Bool, true, false, not, ◌&&◌, ◌==◌, refl, sym, ap, ◌∙◌, arith}
use Rattle.std.specs.Prelude.{if◌then◌else◌, nat_le}
use Rattle.std.specs.List.{list_all}
use Rattle.std.specs.Char.{is_ascii}
use Rattle.std.proofs.lemmas.Bool.{and_parts, leb-true, cond-true, cond-false, true≢false}
use Rattle.dnr_spec.specs.declared.piece.Piece.{Piece}
use Rattle.dnr_spec.specs.declared.piece.Piece.TheVariants.{Byte}
use Rattle.dnr_spec.specs.HeaderTests.{is_special, escapes_well, is_value_pattern, piece_of, pieces_from, pieces_of}
use Rattle.header_tests.specs.Read.{piece_as, IsRead}

-- ---- escapes

pub escapes_more : (escaped : Bool) (b : ℕ) (text : List ℕ) → (escaped ≡ true → is_special b ≡ true) → escapes_well escaped (b ∷ text) ≡ escapes_well (not escaped && b == 92) text
escapes_more true b text special = ap (λ t. t && escapes_well false text) (special refl)
escapes_more false b text special = refl

-- ---- pieces

-- a byte that begins no escape
pub pieces_more : (escaped begins : Bool) (b : ℕ) (text : List ℕ) → begins ≡ (not escaped && b == 92) → begins ≡ false → pieces_from escaped (b ∷ text) ≡ piece_as b escaped ∷ pieces_from begins text
pieces_more true begins b text is plain = ap (λ e. Byte b ∷ pieces_from e text) (sym plain)
pieces_more false begins b text is plain = cond-false (b == 92) _ _ (sym is ∙ plain) ∙ ap (λ e. piece_of b ∷ pieces_from e text) (sym plain)

-- a byte that begins one
pub pieces_same : (escaped begins : Bool) (b : ℕ) (text : List ℕ) → begins ≡ (not escaped && b == 92) → begins ≡ true → pieces_from escaped (b ∷ text) ≡ pieces_from begins text
pieces_same true begins b text is begun = absurd (true≢false (sym begun ∙ is))
pieces_same false begins b text is begun = cond-true (b == 92) _ _ (sym is ∙ begun) ∙ ap (λ e. pieces_from e text) (sym begun)

pub pieces_few : (escaped : Bool) (text : List ℕ) → length (pieces_from escaped text) ≤ length text
pieces_few escaped [] = omega arith
pieces_few true (b ∷ text) = let few = pieces_few false text in omega (arith, few)
pieces_few false (b ∷ text) = elim (b == 92) as (λ v. length (if v then pieces_from true text else piece_of b ∷ pieces_from false text) ≤ length (b ∷ text)) [
  | true ↦ let few = pieces_few true text in omega (arith, few)
  | false ↦ let few = pieces_few false text in omega (arith, few)
]

-- what is kept of a text that is a pattern
pub is_read : (text : List ℕ) (pieces : List Piece) → is_value_pattern text ≡ true → pieces ≡ pieces_from false text → IsRead text pieces
unfolding pieces_of
is_read text pieces pattern is =
    let short : length text ≤ 8192 = leb-true (length text) 8192 (and_parts (nat_le (length text) 8192) _ (and_parts (nat_le (length text) 8192 && list_all is_ascii text) _ pattern).0).0 in
    let few = pieces_few false text in
    let same : length pieces ≡ length (pieces_from false text) = ap length is in
    record { pattern = pattern; whole = is; few = omega arith }

-- Separators begin with `#`.
use Rattle.std.proofs.Common.{◌≡◌, ◌≢◌, ◌<◌, ◌≤◌, ◌-◌, ℕ, zero, suc, List, [], ◌∷◌, length, drop, get_or, true, false, ◌||◌, refl, sym, ap, ◌∙◌, arith, ne_eqb, eq-eqb, Some, None}
use Rattle.std.proofs.lemmas.List.{length-drop}
use Rattle.memchr.specs.Find.{IsFirstByte, is_byte}
use Rattle.list_spec.specs.LineKind.{begins_hiding, hides}

other_begin : (b : ℕ) (rest : List ℕ) → 35 ≢ b → begins_hiding (b ∷ rest) ≡ false
other_begin b rest other = rw (ne_eqb 35 b other) refl

-- a place at which no `#` stands hides nothing
pub skip_to : (text : List ℕ) (n : ℕ) → n ≤ length text → ((k : ℕ) → k < n → get_or text k 0 ≢ 35) → hides text ≡ hides (drop n text)
skip_to text zero within others = refl
skip_to [] (suc n) within others = absurd (omega arith)
skip_to (b ∷ text) (suc n) within others =
    ap (λ t. t || hides text) (other_begin b text (λ e. others zero (omega arith) (sym e)))
    ∙ skip_to text n (omega arith) (λ k less. others (suc k) (omega arith))

pub none_left : (text : List ℕ) → ((k : ℕ) → k < length text → get_or text k 0 ≢ 35) → hides text ≡ false
none_left [] others = refl
none_left (b ∷ text) others =
    ap (λ t. t || hides text) (other_begin b text (λ e. others zero (omega arith) (sym e)))
    ∙ none_left text (λ k less. others (suc k) (omega arith))

pub no_sign : (text : List ℕ) → IsFirstByte (is_byte 35) text None → hides text ≡ false
no_sign text none = none_left text (λ k less e. none k (omega arith) less (eq-eqb (get_or text k 0) 35 e))

pub sign_at : (text : List ℕ) (place : ℕ) → IsFirstByte (is_byte 35) text (Some place) → (hides text ≡ hides (drop place text)) × (length (drop place text) ≤ length text)
sign_at text place first =
    let within : place < length text = first.0.high in
    let fewer : length (drop place text) ≡ length text - place = length-drop place text in
    (skip_to text place (omega arith) (λ k less e. first.0.before k (omega arith) less (eq-eqb (get_or text k 0) 35 e)), omega arith)

pub begins_here : (text : List ℕ) → begins_hiding text ≡ true → hides text ≡ true
begins_here [] begins = begins
begins_here (b ∷ text) begins = ap (λ t. t || hides text) begins

pub passes_here : (text later : List ℕ) (b : ℕ) → text ≡ b ∷ later → begins_hiding text ≡ false → hides text ≡ hides later
passes_here text later b e passes = ap hides e ∙ ap (λ t. t || hides later) (sym (ap begins_hiding e) ∙ passes)

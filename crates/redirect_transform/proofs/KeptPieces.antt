-- The pieces that are kept, one by one.
use Rattle.std.proofs.Common.{◌≡◌, ◌≢◌, ℕ, ◌+◌, ◌<◌, Bor, Bool, true, false, not, cond, ◌==◌, List, [], ◌∷◌, ◌++◌, length, map, take, get_or, filter, count_by, sym, refl, ap, ◌∙◌, arith}
use Rattle.std.specs.Str.{bytes_eq}
use Rattle.std.proofs.lemmas.Bool.Decides.{nat_tests}
use Rattle.std.proofs.lemmas.List.{map-append, take_more}
use Rattle.std.proofs.lemmas.List.Elements.{filter-append}
use Rattle.form_urlencoded.specs.Form.{is_nonempty}
use Rattle.dnr_spec.specs.Transform.{is_kept, key_of}
use Rattle.redirect_transform.specs.declared.piece.Piece.{Piece}
use Rattle.redirect_transform.specs.Piece.{texts_of}
use Rattle.redirect_transform.proofs.Steps.{none_of}

-- of these texts, those that are kept
abbrev pub kept_of : List (List ℕ) → List (List ℕ) → List (List ℕ)
kept_of removed texts = filter (is_kept removed) (filter is_nonempty texts)

kept_of-append : (removed xs ys : List (List ℕ)) → kept_of removed (xs ++ ys) ≡ kept_of removed xs ++ kept_of removed ys
kept_of-append removed xs ys =
    ap (filter (is_kept removed)) (filter-append is_nonempty xs ys)
    ∙ filter-append (is_kept removed) (filter is_nonempty xs) (filter is_nonempty ys)

-- a text is kept or not
abbrev pub one_kept : List (List ℕ) → List ℕ → List (List ℕ)
one_kept removed text = kept_of removed (text ∷ [])

pub kept_next : (removed : List (List ℕ)) (items : List (Bor (List ℕ))) (i : ℕ) (d : Bor (List ℕ)) (old new : List (List ℕ)) → i < length items → old ≡ kept_of removed (map (λ x. x.now) (take i items)) → new ≡ old ++ one_kept removed (get_or items i d).now → new ≡ kept_of removed (map (λ x. x.now) (take (i + 1) items))
kept_next removed items i d old new within before grown =
    let now = λ (x : Bor (List ℕ)). x.now in
    let one = get_or items i d in
    grown ∙ ap (λ l. l ++ one_kept removed one.now) before
    ∙ sym (kept_of-append removed (map now (take i items)) (one.now ∷ []))
    ∙ ap (kept_of removed) (sym (map-append now (take i items) (one ∷ [])))
    ∙ ap (λ l. kept_of removed (map now l)) (sym (take_more items i d within))

-- ---- the three cases

nonempty_told : (text : List ℕ) (b : Bool) → b ≡ (length text == 0) → is_nonempty text ≡ not b
nonempty_told [] b is = ap not (sym is)
nonempty_told (x ∷ text) b is = grind (arith, nat_tests)

pub empty_text : (removed : List (List ℕ)) (text : List ℕ) (b : Bool) → b ≡ (length text == 0) → b ≡ true → one_kept removed text ≡ []
empty_text removed text b is empty =
    ap (λ d. filter (is_kept removed) (cond d (text ∷ []) [])) (nonempty_told text b is ∙ ap not empty)

some_text : (removed : List (List ℕ)) (text : List ℕ) (b d : Bool) → b ≡ (length text == 0) → b ≡ false → is_kept removed text ≡ d → one_kept removed text ≡ cond d (text ∷ []) []
some_text removed text b d is some kept =
    ap (λ e. filter (is_kept removed) (cond e (text ∷ []) [])) (nonempty_told text b is ∙ ap not some)
    ∙ ap (λ e. cond e (text ∷ []) []) kept

kept_told : (removed : List (List ℕ)) (text : List ℕ) (n : ℕ) → n ≡ count_by (λ other. bytes_eq (key_of text) other) removed → is_kept removed text ≡ (n == 0)
kept_told removed text n counted = none_of (λ other. bytes_eq (key_of text) other) removed ∙ ap (λ m. m == 0) (sym counted)

zero_told : (n : ℕ) → n ≡ 0 → (n == 0) ≡ true
zero_told n is = ap (λ m. m == 0) is

other_told : (n : ℕ) → n ≢ 0 → (n == 0) ≡ false
other_told n is = grind (arith, nat_tests)

pub kept_text : (removed : List (List ℕ)) (text : List ℕ) (b : Bool) (n : ℕ) → b ≡ (length text == 0) → b ≡ false → n ≡ count_by (λ other. bytes_eq (key_of text) other) removed → n ≡ 0 → one_kept removed text ≡ text ∷ []
kept_text removed text b n is some counted none =
    some_text removed text b true is some (kept_told removed text n counted ∙ zero_told n none)

pub removed_text : (removed : List (List ℕ)) (text : List ℕ) (b : Bool) (n : ℕ) → b ≡ (length text == 0) → b ≡ false → n ≡ count_by (λ other. bytes_eq (key_of text) other) removed → n ≢ 0 → one_kept removed text ≡ []
removed_text removed text b n is some counted more =
    some_text removed text b false is some (kept_told removed text n counted ∙ other_told n more)

-- the texts after one more piece
pub texts_push : (old new : List Piece) (piece : Piece) (text : List ℕ) → new ≡ old ++ piece ∷ [] → piece.text.now ≡ text → texts_of new ≡ texts_of old ++ text ∷ []
texts_push old new piece text pushed is =
    ap texts_of pushed ∙ map-append (λ (p : Piece). p.text.now) old (piece ∷ []) ∙ ap (λ t. texts_of old ++ t ∷ []) is

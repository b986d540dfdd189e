-- What bytes are lexed as in which a word stands nowhere as a string: no string of theirs is the word.
use Rattle.std.proofs.Common.{◌≡◌, ◌≢◌, ℕ, zero, suc, ◌+◌, ◌<◌, ◌≤◌, List, [], ◌∷◌, ◌++◌, length, drop, get_or, Bool, true, false, cond, ◌==◌, ◌&&◌, nat_eq, nat_lt, Option, Some, None, refl, sym, ap, ◌∙◌, subst, arith, append_assoc, zero-add}
use Rattle.std.specs.Prelude.{codes}
use Rattle.std.specs.List.{starts_with}
use Rattle.std.proofs.lemmas.Bool.{eqb-true}
use Rattle.std.proofs.lemmas.List.{length_push}
use Rattle.json.specs.Ascii as ascii
use Rattle.json.specs.Token.{Token}
use Rattle.json.specs.Text.{content, plain, prepend}
use Rattle.json.specs.Word.{head, ends_word, after_number, number_before, word}
use Rattle.json.specs.Lex.{Lexeme, token, comma, colon, Class, quote, backslash, operator, space, other, class, operator_lexeme, string_token, Mode, between, in_word, in_string, in_escape, lex_byte, lex}
use Rattle.memchr.specs.Find.{OccursAt}
use Rattle.lines_ahead.specs.Plain.{IsPlain, HasNoString, quoted}

-- the key that says what a line asks for
abbrev pub cmd : List ℕ
cmd = codes "cmd"

-- the same bytes, by recursion: none is a backslash, and the word begins at none with its quotes
abbrev pub IsFree : List ℕ → List ℕ → Type 0
IsFree w [] = Unit {0}
IsFree w (x ∷ xs) = (x ≢ ascii.backslash) × ((rest : List ℕ) → x ∷ xs ≢ quoted w ++ rest) × IsFree w xs

-- ---- strings

-- a byte of the content, or its end, by what the byte is
text_by : (ends escapes low : Bool) (x : ℕ) (xs s : List ℕ) (escaped rest : Option (List ℕ)) → (ends ≡ true → x ≡ ascii.quote) → (escapes ≡ true → ⊥) → ((t : List ℕ) → rest ≡ Some t → (more : List ℕ) × (xs ≡ t ++ ascii.quote ∷ more))
    → cond ends (Some []) (cond escapes escaped (cond low None (prepend (x ∷ []) rest))) ≡ Some s → (more : List ℕ) × (x ∷ xs ≡ s ++ ascii.quote ∷ more)
text_by true escapes low x xs s escaped rest closes never stands is = let empty : s ≡ [] = cc in (xs, rw empty (ap (λ y. y ∷ xs) (closes refl)))
text_by false true low x xs s escaped rest closes never stands is = absurd (never refl)
text_by false false true x xs s escaped rest closes never stands is = absurd (cc)
text_by false false false x xs s escaped None closes never stands is = absurd (cc)
text_by false false false x xs s escaped (Some t) closes never stands is =
    let more = stands t refl in
    let whole : s ≡ x ∷ t = cc in
    (more.0, rw whole (ap (λ l. x ∷ l) more.1))

-- the content of a string with no escape stands in the bytes as it is, and its closing quote behind it
text_stands : (w xs s : List ℕ) → IsFree w xs → content plain xs ≡ Some s → (more : List ℕ) × (xs ≡ s ++ ascii.quote ∷ more)
unfolding content
text_stands w [] s free is = absurd (cc)
text_stands w (x ∷ xs) s free is =
    text_by (x == ascii.quote) (x == ascii.backslash) (nat_lt x ascii.space) x xs s _ (content plain xs) (eqb-true x ascii.quote) (λ e. free.0 (eqb-true x ascii.backslash e)) (λ t. text_stands w xs t free.2) is

-- so no string that begins here is the word
no_word_here : (w : List ℕ) (x : ℕ) (xs : List ℕ) → x ≡ ascii.quote → IsFree w (x ∷ xs) → content plain xs ≢ Some w
no_word_here w x xs opens free is =
    let stands = text_stands w xs w free.2 is in
    free.1 stands.0 (ap (λ y. y ∷ xs) opens ∙ ap (λ l. ascii.quote ∷ l) (stands.1 ∙ sym (append_assoc w (ascii.quote ∷ []) stands.0)))

-- ---- lexemes

-- it is neither a string nor a key that is the word
abbrev pub IsOther : List ℕ → Token → Type 0
IsOther w Token.begin_object = Unit {0}
IsOther w Token.end_object = Unit {0}
IsOther w Token.begin_array = Unit {0}
IsOther w Token.end_array = Unit {0}
IsOther w (Token.key s) = s ≢ w
IsOther w (Token.string s) = s ≢ w
IsOther w (Token.number s) = Unit {0}
IsOther w (Token.boolean b) = Unit {0}
IsOther w Token.null = Unit {0}
IsOther w Token.bad = Unit {0}

-- the same of a lexeme, and of all lexemes
abbrev pub IsOtherLexeme : List ℕ → Lexeme → Type 0
IsOtherLexeme w (token t) = IsOther w t
IsOtherLexeme w comma = Unit {0}
IsOtherLexeme w colon = Unit {0}

abbrev pub AreOther : List ℕ → List Lexeme → Type 0
AreOther w [] = Unit {0}
AreOther w (l ∷ ls) = IsOtherLexeme w l × AreOther w ls

-- what holds in both cases holds
either : {A : Type 0} (P : A → Type 0) (b : Bool) (x y : A) → P x → P y → P (cond b x y)
either P true x y p q = p
either P false x y p q = q

-- an operator, a number and a literal are no strings
operator_other : (w : List ℕ) (x : ℕ) → IsOtherLexeme w (operator_lexeme x)
operator_other w x =
    let P = IsOtherLexeme w in
    either P (x == ascii.open_brace) _ _ tt
    (either P (x == ascii.close_brace) _ _ tt (either P (x == ascii.open_bracket) _ _ tt (either P (x == ascii.close_bracket) _ _ tt (either P (x == ascii.comma) _ _ tt tt))))

number_other : (w text : List ℕ) (rest : Option (List ℕ)) → IsOther w (number_before text rest)
number_other w text None = tt
number_other w text (Some rest) = either (IsOther w) (ends_word rest) _ _ tt tt

word_other : (w text : List ℕ) → IsOther w (word text)
unfolding word
word_other w text =
    let P = IsOther w in
    either P (head text == ascii.lower_t) _ _ (either P (starts_with nat_eq text ascii.true_text && ends_word (drop 4 text)) _ _ tt tt)
    (either P (head text == ascii.lower_f) _ _ (either P (starts_with nat_eq text ascii.false_text && ends_word (drop 5 text)) _ _ tt tt)
    (either P (head text == ascii.lower_n) _ _ (either P (starts_with nat_eq text ascii.null_text && ends_word (drop 4 text)) _ _ tt tt) (number_other w text (after_number text))))

-- a string is lexed to its content
string_other : (w : List ℕ) (found : Option (List ℕ)) → found ≢ Some w → IsOther w (string_token found)
string_other w None never = tt
string_other w (Some s) never = λ is. never (ap Some is)

-- a byte that may begin a string is a quote
quote_by : (q b o s : Bool) → cond q quote (cond b backslash (cond o operator (cond s space other))) ≡ quote → q ≡ true
quote_by true b o s is = refl
quote_by false true o s is = absurd (cc)
quote_by false false true s is = absurd (cc)
quote_by false false false true is = absurd (cc)
quote_by false false false false is = absurd (cc)

quote_is : (x : ℕ) → class x ≡ quote → x ≡ ascii.quote
quote_is x is = eqb-true x ascii.quote (quote_by _ _ _ _ is)

-- one byte more, in each mode
byte_other : (w : List ℕ) (m : Mode) (c : Class) (x : ℕ) (xs : List ℕ) (more : Mode → List Lexeme) → (c ≡ quote → content plain xs ≢ Some w) → ((next : Mode) → AreOther w (more next)) → AreOther w (lex_byte m c x xs more)
byte_other w between quote x xs more never others = (string_other w (content plain xs) (never refl), others in_string)
byte_other w between backslash x xs more never others = (tt, others in_word)
byte_other w between operator x xs more never others = (operator_other w x, others between)
byte_other w between space x xs more never others = others between
byte_other w between other x xs more never others = (word_other w (x ∷ xs), others in_word)
byte_other w in_word quote x xs more never others = others in_word
byte_other w in_word backslash x xs more never others = others in_word
byte_other w in_word operator x xs more never others = (operator_other w x, others between)
byte_other w in_word space x xs more never others = others between
byte_other w in_word other x xs more never others = others in_word
byte_other w in_string quote x xs more never others = others between
byte_other w in_string backslash x xs more never others = others in_escape
byte_other w in_string operator x xs more never others = others in_string
byte_other w in_string space x xs more never others = others in_string
byte_other w in_string other x xs more never others = others in_string
byte_other w in_escape c x xs more never others = others in_string

-- no string of free bytes is the word, whatever mode they are lexed in
pub lexed_other : (w : List ℕ) (m : Mode) (xs : List ℕ) → IsFree w xs → AreOther w (lex m xs)
unfolding lex
lexed_other w m [] free = tt
lexed_other w m (x ∷ xs) free = byte_other w m (class x) x xs _ (λ is. no_word_here w x xs (quote_is x is) free) (λ next. lexed_other w next xs free.2)

-- ---- from places to bytes

-- a list that goes on
begins_as : (xs ys : List ℕ) (j : ℕ) → j < length xs → get_or (xs ++ ys) j 0 ≡ get_or xs j 0
begins_as [] ys j less = absurd (omega arith)
begins_as (x ∷ xs) ys zero less = refl
begins_as (x ∷ xs) ys (suc j) less = begins_as xs ys j (omega arith)

no_shorter : (xs ys : List ℕ) → length xs ≤ length (xs ++ ys)
no_shorter [] ys = omega arith
no_shorter (x ∷ xs) ys = omega (arith, no_shorter xs ys)

-- bytes that begin with a needle have it at their first place
occurs_begin : (needle rest : List ℕ) → OccursAt (needle ++ rest) needle 0
occurs_begin needle rest = record { fits = omega (arith, no_shorter needle rest); reads = λ j less. rw zero-add (begins_as needle rest j less) }

-- what is behind the first byte has no such string either
later : (w : List ℕ) (x : ℕ) (xs : List ℕ) → HasNoString w (x ∷ xs) → HasNoString w xs
later w x xs h =
    record {
      no_needle = λ place at. h.no_needle (suc place) (record { fits = let fits = at.fits in omega arith; reads = λ j less. let is : suc place + j ≡ suc (place + j) = omega arith in rw is (at.reads j less) });
      no_escape = λ place less. h.no_escape (suc place) (omega arith);
    }

-- bytes in which the word stands nowhere as a string are free
pub free_of : (w xs : List ℕ) → HasNoString w xs → IsFree w xs
free_of w [] h = tt
free_of w (x ∷ xs) h =
    (λ is. h.no_escape 0 (omega arith) is, λ rest is. h.no_needle 0 (subst (λ bytes. OccursAt bytes (quoted w) 0) (sym is) (occurs_begin (quoted w) rest)), free_of w xs (later w x xs h))

-- a word that stands as a string stands behind the quote
unquoted : (w bytes : List ℕ) (place : ℕ) → OccursAt bytes (quoted w) place → OccursAt bytes w (place + 1)
unquoted w bytes place at =
    let long : length (w ++ ascii.quote ∷ []) ≡ length w + 1 = length_push w ascii.quote in
    record {
      fits = let fits = at.fits in omega (arith, fits, long);
      reads = λ j less. let is : place + 1 + j ≡ place + suc j = omega arith in rw is (at.reads (suc j) (omega (arith, less, long)) ∙ begins_as w (ascii.quote ∷ []) j less);
    }

-- so plain bytes have no string `cmd`
pub plain_has_none : (bytes : List ℕ) → IsPlain bytes → HasNoString cmd bytes
plain_has_none bytes lacks = record { no_needle = λ place at. lacks.no_needle (place + 1) (unquoted cmd bytes place at); no_escape = lacks.no_escape }

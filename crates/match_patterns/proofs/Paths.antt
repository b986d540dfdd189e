-- Paths with stars: why the first place at which what stands between two stars is found is as good as any other.
use Rattle.std.proofs.Common.{◌≡◌, ◌≢◌, ⊎_elim, ℕ, suc, ◌+◌, ◌-◌, ◌<◌, ◌≤◌, List, [], ◌∷◌, ◌++◌, length, map, take, drop, Bool, true, false, ◌&&◌, ◌||◌, ◌==◌, Some, None, refl, sym, ap, ◌∙◌, arith, append-nil, length-append, take-append-drop, ne_eqb, eq-eqb}
use Rattle.std.specs.Prelude.{nat_le}
use Rattle.std.specs.Str.{bytes_eq}
use Rattle.std.proofs.lemmas.Bool.{and_from, and_parts, cases_Bool, cases_lt, cond-false, eqb-true, le-leb, true≢false}
use Rattle.std.proofs.lemmas.Slice.Eq.{bytes_eq-Decides}
use Rattle.std.proofs.lemmas.List.{drop-drop}
use Rattle.std.proofs.Math.Seq.{drop-append_seam, take-append_seam, drop-append-add}
use Rattle.memchr.specs.Find.{FindsNeedle, OccursAt}
use Rattle.memchr.proofs.lemmas.MatchLemmas.{OccursAt-from_part, OccursAt-split}
use Rattle.dnr_spec.specs.declared.piece.Piece.TheVariants.{AnyBytes, Byte}
use Rattle.dnr_spec.specs.UrlFilter.{some_end, at_byte, is_nothing}
use Rattle.dnr_spec.specs.Wildcards.{takes}
use Rattle.dnr_spec.specs.MatchPatterns.{path_piece}
use Rattle.match_patterns.specs.Stars.{IsPlain, is_end}

-- the path fits the whole text
abbrev pub fits : List ℕ → List ℕ → Bool
fits path text = takes false (map path_piece path) text

-- either is true where the other is
both : (a b : Bool) → (a ≡ true → b ≡ true) → (b ≡ true → a ≡ true) → a ≡ b
both true b to from = sym (to refl)
both false true to from = from refl
both false false to from = refl

pub never : (a : Bool) → ¬ (a ≡ true) → a ≡ false
never true h = absurd (h refl)
never false h = refl

-- ---- a piece without a star

rest_plain : (c : ℕ) (piece : List ℕ) → IsPlain (c ∷ piece) → IsPlain piece
rest_plain c piece h = record { plain = λ k less. h.plain (suc k) (omega arith) }

byte_first : (c : ℕ) (path text : List ℕ) → c ≢ 42 → fits (c ∷ path) text ≡ at_byte false c (fits path) text
byte_first c path text other = ap (λ p. takes false (p ∷ map path_piece path) text) (cond-false (c == 42) AnyBytes (Byte c) (ne_eqb c 42 other))

-- it takes itself
pub takes_itself : (piece path text : List ℕ) → IsPlain piece → fits (piece ++ path) (piece ++ text) ≡ fits path text
takes_itself [] path text h = refl
takes_itself (c ∷ piece) path text h =
    byte_first c (piece ++ path) (c ∷ piece ++ text) (h.plain 0 (omega arith))
    ∙ ap (λ t. t && fits (piece ++ path) (piece ++ text)) (eq-eqb c c refl)
    ∙ takes_itself piece path text (rest_plain c piece h)

-- what a path fits that begins with a piece
pub record Begins (piece path text : List ℕ) : Type 0 where
  pub rest : List ℕ
  pub is : text ≡ piece ++ rest
  pub fits_rest : fits path rest ≡ true

-- it takes nothing else
pub takes_no_other : (piece path text : List ℕ) → IsPlain piece → fits (piece ++ path) text ≡ true → Begins piece path text
takes_no_other [] path text h e = record { rest = text; is = refl; fits_rest = e }
takes_no_other (c ∷ piece) path [] h e =
    absurd (true≢false (sym e ∙ byte_first c (piece ++ path) [] (h.plain 0 (omega arith))))
takes_no_other (c ∷ piece) path (b ∷ text) h e =
    let parts = and_parts (b == c) (fits (piece ++ path) text) (sym (byte_first c (piece ++ path) (b ∷ text) (h.plain 0 (omega arith))) ∙ e) in
    let later = takes_no_other piece path text (rest_plain c piece h) parts.1 in
    record {
      rest = later.rest;
      is = ap (λ x. x ∷ text) (eqb-true b c parts.0) ∙ ap (λ l. c ∷ l) later.is;
      fits_rest = later.fits_rest;
    }

nothing_left : (rest : List ℕ) → is_nothing rest ≡ true → rest ≡ []
nothing_left [] e = refl
nothing_left (b ∷ rest) e = absurd (true≢false (sym e))

pub plain_is : (piece text : List ℕ) → IsPlain piece → fits piece text ≡ true → text ≡ piece
plain_is piece text h e =
    let begins = takes_no_other piece [] text h (ap (λ p. fits p text) (append-nil piece) ∙ e) in
    begins.is ∙ ap (λ r. piece ++ r) (nothing_left begins.rest begins.fits_rest) ∙ append-nil piece

pub plain_fits : (piece : List ℕ) → IsPlain piece → fits piece piece ≡ true
plain_fits piece h =
    sym (ap (λ p. fits p (piece ++ [])) (append-nil piece) ∙ ap (fits piece) (append-nil piece)) ∙ takes_itself piece [] [] h

pub plain_exact : (piece text : List ℕ) → IsPlain piece → fits piece text ≡ bytes_eq text piece
plain_exact piece text h =
    both (fits piece text) (bytes_eq text piece)
    (λ yes. (bytes_eq-Decides text piece).1 (plain_is piece text h yes))
    (λ same. ap (fits piece) ((bytes_eq-Decides text piece).0 same) ∙ plain_fits piece h)

-- ---- ends of a text

-- an end that passes a test
pub record HasEnd (test : List ℕ → Bool) (text : List ℕ) : Type 0 where
  pub front : List ℕ
  pub end : List ℕ
  pub is : text ≡ front ++ end
  pub passes : test end ≡ true

or_right : (a b : Bool) → b ≡ true → (a || b) ≡ true
or_right true b h = refl
or_right false b h = h

end_of : (test : List ℕ → Bool) (text : List ℕ) → some_end test text ≡ true → HasEnd test text
end_of test [] e = record { front = []; end = []; is = refl; passes = e }
end_of test (b ∷ text) e = ⊎_elim
    (λ yes. record { front = []; end = b ∷ text; is = refl; passes = yes })
    (λ no.
    let later = end_of test text (sym (ap (λ t. t || some_end test text) no) ∙ e) in
    record { front = b ∷ later.front; end = later.end; is = ap (λ l. b ∷ l) later.is; passes = later.passes })
    (cases_Bool (test (b ∷ text)))

whole_end : (test : List ℕ → Bool) (text : List ℕ) → test text ≡ true → some_end test text ≡ true
whole_end test [] e = e
whole_end test (b ∷ text) e = ap (λ t. t || some_end test text) e

end_behind : (test : List ℕ → Bool) (front text : List ℕ) → some_end test text ≡ true → some_end test (front ++ text) ≡ true
end_behind test [] text e = e
end_behind test (b ∷ front) text e = or_right (test (b ∷ front ++ text)) (some_end test (front ++ text)) (end_behind test front text e)

-- ---- a piece, a star and what is behind it

occurs : (text front piece rest : List ℕ) → text ≡ front ++ (piece ++ rest) → OccursAt text piece (length front)
occurs text front piece rest is =
    let whole : length text ≡ length front + (length piece + length rest) = ap length is ∙ length-append front (piece ++ rest) ∙ ap (λ n. length front + n) (length-append piece rest) in
    OccursAt-from_part text piece (length front) (omega arith)
    (ap (λ t. take (length piece) (drop (length front) t)) is ∙ ap (take (length piece)) (drop-append_seam front (piece ++ rest)) ∙ take-append_seam piece rest)

-- what is left behind a later occurrence is an end of what is left behind an earlier one
left_later : (text front piece rest : List ℕ) (place : ℕ) → text ≡ front ++ (piece ++ rest) → place ≤ length front
    → drop (place + length piece) text ≡ take (length front - place) (drop (place + length piece) text) ++ rest
left_later text front piece rest place is early =
    let left : List ℕ = drop (place + length piece) text in
    let places : (place + length piece) + (length front - place) ≡ length front + length piece = omega arith in
    sym (take-append-drop (length front - place) left)
    ∙ ap (λ t. take (length front - place) left ++ t)
    (drop-drop (length front - place) (place + length piece) text
    ∙ ap (λ n. drop n text) places
    ∙ ap (drop (length front + length piece)) is
    ∙ drop-append-add front (piece ++ rest) (length piece)
    ∙ drop-append_seam piece rest)

-- where the path fits some end, its piece occurs
pub found_of : (piece behind text : List ℕ) → IsPlain piece → some_end (fits (piece ++ 42 ∷ behind)) text ≡ true
    → (front : List ℕ) × (rest : List ℕ) × (text ≡ front ++ (piece ++ rest)) × (some_end (fits behind) rest ≡ true)
found_of piece behind text h e =
    let some = end_of (fits (piece ++ 42 ∷ behind)) text e in
    let begins = takes_no_other piece (42 ∷ behind) some.end h some.passes in
    (some.front, begins.rest, some.is ∙ ap (λ t. some.front ++ t) begins.is, begins.fits_rest)

pub found_first : (piece behind text : List ℕ) (place : ℕ) → IsPlain piece → FindsNeedle text piece 0 (Some place)
    → some_end (fits (piece ++ 42 ∷ behind)) text ≡ some_end (fits behind) (drop (place + length piece) text)
found_first piece behind text place h found =
    let left : List ℕ = drop (place + length piece) text in
    let split : text ≡ take place text ++ (piece ++ left) =
    sym (take-append-drop place text) ∙ ap (λ t. take place text ++ t) (OccursAt-split text piece place found.1) in
    both (some_end (fits (piece ++ 42 ∷ behind)) text) (some_end (fits behind) left)
    (λ yes.
    let some = found_of piece behind text h yes in
    let early : place ≤ length some.0 = ⊎_elim
    (λ (before : length some.0 < place). absurd (found.0.before (length some.0) (omega arith) before (occurs text some.0 piece some.1 some.2)))
    (λ (later : place ≤ length some.0). later)
    (cases_lt (length some.0) place) in
    ap (some_end (fits behind)) (left_later text some.0 piece some.1 place some.2 early)
    ∙ end_behind (fits behind) (take (length some.0 - place) left) some.1 some.3)
    (λ yes.
    ap (some_end (fits (piece ++ 42 ∷ behind))) split
    ∙ end_behind (fits (piece ++ 42 ∷ behind)) (take place text) (piece ++ left)
    (whole_end (fits (piece ++ 42 ∷ behind)) (piece ++ left) (takes_itself piece (42 ∷ behind) left h ∙ yes)))

pub found_nowhere : (piece behind text : List ℕ) → IsPlain piece → FindsNeedle text piece 0 None → some_end (fits (piece ++ 42 ∷ behind)) text ≡ false
found_nowhere piece behind text h none =
    never (some_end (fits (piece ++ 42 ∷ behind)) text) (λ yes.
    let some = found_of piece behind text h yes in
    let there = occurs text some.0 piece some.1 some.2 in
    none (length some.0) (omega arith) (let fit = there.fits in omega arith) there)

-- the last piece
pub last_is : (piece text : List ℕ) → IsPlain piece → some_end (fits piece) text ≡ is_end piece text
last_is piece text h =
    both (some_end (fits piece) text) (is_end piece text)
    (λ yes.
    let some = end_of (fits piece) text yes in
    let is : text ≡ some.front ++ piece = some.is ∙ ap (λ t. some.front ++ t) (plain_is piece some.end h some.passes) in
    let whole : length text ≡ length some.front + length piece = ap length is ∙ length-append some.front piece in
    let place : length text - length piece ≡ length some.front = omega arith in
    let end : drop (length text - length piece) text ≡ piece = ap (λ n. drop n text) place ∙ ap (drop (length some.front)) is ∙ drop-append_seam some.front piece in
    and_from _ _ (le-leb (length piece) (length text) (omega arith)) ((bytes_eq-Decides piece (drop (length text - length piece) text)).1 (sym end)))
    (λ yes.
    let parts = and_parts (nat_le (length piece) (length text)) (bytes_eq piece (drop (length text - length piece) text)) yes in
    let end : piece ≡ drop (length text - length piece) text = (bytes_eq-Decides piece (drop (length text - length piece) text)).0 parts.1 in
    let front : List ℕ = take (length text - length piece) text in
    let is : text ≡ front ++ piece = sym (take-append-drop (length text - length piece) text) ∙ ap (λ t. front ++ t) (sym end) in
    ap (some_end (fits piece)) is ∙ end_behind (fits piece) front piece (whole_end (fits piece) piece (plain_fits piece h)))

-- ---- a path that begins with a piece and a star

-- the text begins with the piece
pub strips : (path piece behind text rest : List ℕ) → IsPlain piece → path ≡ piece ++ 42 ∷ behind → bytes_eq (take (length piece) text) piece ≡ true → rest ≡ drop (length piece) text
    → fits path text ≡ some_end (fits behind) rest
strips path piece behind text rest h is begins left =
    let whole : text ≡ piece ++ rest =
    sym (take-append-drop (length piece) text) ∙ ap (λ t. t ++ drop (length piece) text) ((bytes_eq-Decides (take (length piece) text) piece).0 begins) ∙ ap (λ t. piece ++ t) (sym left) in
    ap (λ p. fits p text) is ∙ ap (fits (piece ++ 42 ∷ behind)) whole ∙ takes_itself piece (42 ∷ behind) rest h

pub strips_not : (path piece behind text : List ℕ) → IsPlain piece → path ≡ piece ++ 42 ∷ behind → bytes_eq (take (length piece) text) piece ≡ false → fits path text ≡ false
strips_not path piece behind text h is other =
    never (fits path text) (λ yes.
    let begins = takes_no_other piece (42 ∷ behind) text h (sym (ap (λ p. fits p text) is) ∙ yes) in
    let same : take (length piece) text ≡ piece = ap (take (length piece)) begins.is ∙ take-append_seam piece begins.rest in
    true≢false (sym ((bytes_eq-Decides (take (length piece) text) piece).1 same) ∙ other))

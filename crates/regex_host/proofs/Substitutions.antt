-- The pieces of a text, one backslash after another.
use Rattle.std.proofs.Common.{◌≡◌, ◌≢◌, ℕ, suc, ◌-◌, ◌<◌, ◌≤◌, List, [], ◌∷◌, ◌++◌, length, map, drop, get_or, Bool, true, false, cond, ◌==◌, Option, Some, None, IsSome, is_some, option_map, refl, sym, ap, ◌∙◌, subst, arith, ne_eqb, append-nil, append_assoc, length-append, true≢false, nat_lt, IsUtf8, IsCharBoundary}
use Rattle.std.specs.Prelude.{slice_index, unwrap_or, Ok, Err}
use Rattle.std.proofs.lemmas.Bool.Decides.{nat_tests}
use Rattle.std.proofs.Math.Seq.{drop-append_seam, get_or-append_seam}
use Rattle.std.proofs.lemmas.Option.{same_Some}
use Rattle.std.proofs.lemmas.Str.{IsUtf8-drop, IsCharBoundary-before_ascii, IsCharBoundary-after_ascii}
use Rattle.dnr_base.specs.declared.span.Span.{Span}
use Rattle.dnr_spec.specs.Substitution.{Piece, byte, group, pieces_of, then_pieces, escaped, names_group, written, expansion, substitution_of, max_substitution, or_bad}
use Rattle.dnr_spec.specs.declared.substitution_refusal.SubstitutionRefusal.TheVariants.{BadSubstitution}
use Rattle.regex_host.specs.Substitution.{pieces_in}

is_none_is : {A : Type 0} (o : Option A) → is_some o ≡ false → o ≡ None
is_none_is None h = refl
is_none_is (Some x) h = cc

some_is : {A : Type 0} (o : Option A) → is_some o ≡ true → (x : A) × (o ≡ Some x)
some_is None h = cc
some_is (Some x) h = (x, refl)

-- ---- one byte or one backslash at the front

pub plain_front : (groups b : ℕ) (rest : List ℕ) → b ≢ 92 → pieces_of groups (b ∷ rest) ≡ option_map (λ pieces. byte b ∷ pieces) (pieces_of groups rest)
plain_front groups b [] other = let no : (b == 92) ≡ false = ne_eqb b 92 other in rw no refl
plain_front groups b (c ∷ rest) other = let no : (b == 92) ≡ false = ne_eqb b 92 other in rw no refl

is_some_mapped : {A B : Type 0} (f : A → B) (o : Option A) → is_some (option_map f o) ≡ is_some o
is_some_mapped f None = refl
is_some_mapped f (Some x) = refl

pub plain_is_some : (groups b : ℕ) (rest : List ℕ) → b ≢ 92 → is_some (pieces_of groups (b ∷ rest)) ≡ is_some (pieces_of groups rest)
plain_is_some groups b rest other = ap (λ (o : Option (List Piece)). is_some o) (plain_front groups b rest other) ∙ is_some_mapped (λ pieces. byte b ∷ pieces) (pieces_of groups rest)

then_is_some : (o : Option Piece) (q : Option (List Piece)) → is_some o ≡ true → is_some (then_pieces o q) ≡ is_some q
then_is_some None q h = cc
then_is_some (Some piece) q h = is_some_mapped (λ pieces. piece ∷ pieces) q

then_is_none : (o : Option Piece) (q : Option (List Piece)) → is_some o ≡ false → is_some (then_pieces o q) ≡ false
then_is_none None q h = refl
then_is_none (Some piece) q h = cc

pub escape_is_some : (groups c : ℕ) (rest : List ℕ) → is_some (escaped groups c) ≡ true → is_some (pieces_of groups (92 ∷ c ∷ rest)) ≡ is_some (pieces_of groups rest)
escape_is_some groups c rest h = then_is_some (escaped groups c) (pieces_of groups rest) h

pub escape_is_none : (groups c : ℕ) (rest : List ℕ) → is_some (escaped groups c) ≡ false → is_some (pieces_of groups (92 ∷ c ∷ rest)) ≡ false
escape_is_none groups c rest h = then_is_none (escaped groups c) (pieces_of groups rest) h

-- ---- up to a backslash

abbrev pub HasNoEscape : List ℕ → Type 0
HasNoEscape text = (i : ℕ) → i < length text → get_or text i 0 ≢ 92

tail_plain : (b : ℕ) (rest : List ℕ) → HasNoEscape (b ∷ rest) → HasNoEscape rest
tail_plain b rest h i lt = h (suc i) (omega arith)

mapped_twice : (b : ℕ) (front : List Piece) (o : Option (List Piece))
    → option_map (λ pieces. byte b ∷ pieces) (option_map (λ pieces. front ++ pieces) o) ≡ option_map (λ pieces. (byte b ∷ front) ++ pieces) o
mapped_twice b front None = refl
mapped_twice b front (Some pieces) = refl

mapped_by_nothing : (o : Option (List Piece)) → o ≡ option_map (λ pieces. [] ++ pieces) o
mapped_by_nothing None = refl
mapped_by_nothing (Some pieces) = refl

-- what stands before a backslash stands for itself
pieces_behind : (groups : ℕ) (literal rest : List ℕ) → HasNoEscape literal
    → pieces_of groups (literal ++ rest) ≡ option_map (λ pieces. map byte literal ++ pieces) (pieces_of groups rest)
pieces_behind groups [] rest plain = mapped_by_nothing (pieces_of groups rest)
pieces_behind groups (b ∷ literal) rest plain =
    plain_front groups b (literal ++ rest) (plain 0 (omega arith))
    ∙ ap (option_map (λ pieces. byte b ∷ pieces)) (pieces_behind groups literal rest (tail_plain b literal plain))
    ∙ mapped_twice b (map byte literal) (pieces_of groups rest)

written_literal : (text : List ℕ) (spans : List (Option Span)) (literal : List ℕ) (pieces : List Piece)
    → expansion (map byte literal ++ pieces) text spans ≡ literal ++ expansion pieces text spans
written_literal text spans [] pieces = refl
written_literal text spans (b ∷ literal) pieces = ap (λ (bytes : List ℕ). b ∷ bytes) (written_literal text spans literal pieces)

-- a text without a backslash stands for itself
pub literal_expansion : (text : List ℕ) (spans : List (Option Span)) (rest : List ℕ) → HasNoEscape rest → expansion (pieces_in rest) text spans ≡ rest
literal_expansion text spans rest plain =
    let e : pieces_of 9 (rest ++ []) ≡ Some (map byte rest ++ []) = pieces_behind 9 rest [] plain in
    let f : pieces_of 9 rest ≡ Some (map byte rest ++ []) = subst (λ (t : List ℕ). pieces_of 9 t ≡ Some (map byte rest ++ [])) (append-nil rest) e in
    rw f (written_literal text spans rest [] ∙ append-nil rest)

-- what is told of a text with a backslash behind the literal, of which `behind` are the pieces of the rest
pub record Step (text : List ℕ) (spans : List (Option Span)) (literal : List ℕ) (escape : Option Piece) (behind whole : Option (List Piece)) : Type 0 where
  pub escape_is : IsSome escape
  pub behind_is : IsSome behind
  pub written_is : (w : List ℕ) → option_map (written text spans) escape ≡ Some w
      → expansion (unwrap_or whole []) text spans ≡ literal ++ (w ++ expansion (unwrap_or behind []) text spans)

step_of : (text : List ℕ) (spans : List (Option Span)) (literal : List ℕ) (escape : Option Piece) (behind : Option (List Piece))
    → IsSome (option_map (λ pieces. map byte literal ++ pieces) (then_pieces escape behind))
    → Step text spans literal escape behind (option_map (λ pieces. map byte literal ++ pieces) (then_pieces escape behind))
step_of text spans literal None behind h = cc
step_of text spans literal (Some piece) None h = cc
step_of text spans literal (Some piece) (Some pieces) h = record {
  escape_is = refl;
  behind_is = refl;
  written_is = λ w e. written_literal text spans literal (piece ∷ pieces) ∙ ap (λ (v : List ℕ). literal ++ (v ++ expansion pieces text spans)) (same_Some _ _ e);
}

-- a text up to a backslash, what the backslash stands for, and the rest
pub expansion_step : (text : List ℕ) (spans : List (Option Span)) (rest literal behind : List ℕ) → rest ≡ literal ++ (92 ∷ behind) → HasNoEscape literal
    → IsSome (pieces_of 9 rest)
    → (0 < length behind)
    × Step text spans literal (escaped 9 (slice_index behind 0)) (pieces_of 9 (drop 1 behind)) (pieces_of 9 rest)
expansion_step text spans rest literal [] e plain h =
    let same = ap (pieces_of 9) e ∙ pieces_behind 9 literal (92 ∷ []) plain in
    absurd (true≢false (sym (rw same at h)))
expansion_step text spans rest literal (c ∷ later) e plain h =
    let same = ap (pieces_of 9) e ∙ pieces_behind 9 literal (92 ∷ c ∷ later) plain in
    (omega arith, rw same (step_of text spans literal (escaped 9 c) (pieces_of 9 later) (rw same at h)))

-- ---- from a count of groups to all that can be named

same_choice : (slash a b : Bool) (one other piece : Piece) → (a ≡ true → b ≡ true)
    → cond slash (Some one) (cond a (Some other) None) ≡ Some piece → cond slash (Some one) (cond b (Some other) None) ≡ Some piece
same_choice true a b one other piece imply h = h
same_choice false true b one other piece imply h = rw (imply refl) h
same_choice false false b one other piece imply h = cc

names_by_nine : (groups c : ℕ) → names_group groups c ≡ true → names_group 9 c ≡ true
names_by_nine groups c h = grind (arith, nat_tests)

escaped_by_nine : (groups c : ℕ) (piece : Piece) → escaped groups c ≡ Some piece → escaped 9 c ≡ Some piece
escaped_by_nine groups c piece h =
    same_choice (c == 92) (names_group groups c) (names_group 9 c) (byte 92) (group (c - 48)) piece (names_by_nine groups c) h

then_by_nine : (o p : Option Piece) (q r : Option (List Piece)) (pieces : List Piece) → ((x : Piece) → o ≡ Some x → p ≡ Some x)
    → ((xs : List Piece) → q ≡ Some xs → r ≡ Some xs) → then_pieces o q ≡ Some pieces → then_pieces p r ≡ Some pieces
then_by_nine None p q r pieces first rest h = cc
then_by_nine (Some x) p None r pieces first rest h = cc
then_by_nine (Some x) p (Some xs) r pieces first rest h = rw (first x refl, rest xs refl) h

chosen_by_nine : (b : Bool) (o p q r : Option (List Piece)) (pieces : List Piece) → (o ≡ Some pieces → q ≡ Some pieces) → (p ≡ Some pieces → r ≡ Some pieces)
    → cond b o p ≡ Some pieces → cond b q r ≡ Some pieces
chosen_by_nine true o p q r pieces escape plain h = escape h
chosen_by_nine false o p q r pieces escape plain h = plain h

-- a substitution for some groups is one for all that can be named
pub pieces_by_nine : (groups : ℕ) (text : List ℕ) (pieces : List Piece) → pieces_of groups text ≡ Some pieces → pieces_of 9 text ≡ Some pieces
pieces_by_nine groups [] pieces h = h
pieces_by_nine groups (b ∷ []) pieces h = h
pieces_by_nine groups (b ∷ c ∷ rest) pieces h =
    chosen_by_nine (b == 92) _ _ _ _ pieces
    (then_by_nine (escaped groups c) (escaped 9 c) _ _ pieces (escaped_by_nine groups c) (pieces_by_nine groups rest))
    (then_by_nine (Some (byte b)) (Some (byte b)) _ _ pieces (λ x e. e) (pieces_by_nine groups (c ∷ rest)))
    h

-- ---- what is read

pub too_long : (groups : ℕ) (text : List ℕ) → max_substitution < length text → substitution_of text groups ≡ Err BadSubstitution
too_long groups text h = let long : nat_lt max_substitution (length text) ≡ true = grind (arith, nat_tests, h) in rw long refl

pub not_read : (groups : ℕ) (text : List ℕ) → length text ≤ max_substitution → is_some (pieces_of groups text) ≡ false
    → substitution_of text groups ≡ Err BadSubstitution
not_read groups text short h =
    let long : nat_lt max_substitution (length text) ≡ false = grind (arith, nat_tests, short) in
    rw (long, is_none_is (pieces_of groups text) h) refl

pub is_read : (groups : ℕ) (text : List ℕ) → length text ≤ max_substitution → is_some (pieces_of groups text) ≡ true
    → IsSome (pieces_of 9 text) × (substitution_of text groups ≡ Ok (pieces_in text))
is_read groups text short h =
    let long : nat_lt max_substitution (length text) ≡ false = grind (arith, nat_tests, short) in
    let found = some_is (pieces_of groups text) h in
    let nine = pieces_by_nine groups text found.0 found.1 in
    (rw nine refl, rw (long, found.1, nine) refl)

chosen_read : (b : Bool) (o p : Option (List Piece)) (pieces : List Piece) → ((xs : List Piece) → o ≡ Some xs → p ≡ Some xs)
    → cond b (Err BadSubstitution) (or_bad o) ≡ Ok pieces → cond b (Err BadSubstitution) (or_bad p) ≡ Ok pieces
chosen_read true o p pieces imply h = cc
chosen_read false None p pieces imply h = cc
chosen_read false (Some xs) p pieces imply h = rw (imply xs refl) h

pub read_by_nine : (text : List ℕ) (groups : ℕ) (pieces : List Piece) → substitution_of text groups ≡ Ok pieces → substitution_of text 9 ≡ Ok pieces
read_by_nine text groups pieces h =
    chosen_read (nat_lt max_substitution (length text)) (pieces_of groups text) (pieces_of 9 text) pieces (pieces_by_nine groups text) h

-- ---- what follows a backslash is ASCII

low_choice : (c : ℕ) (slash digit : Bool) (one other : Piece) → (slash ≡ true → c < 128) → (digit ≡ true → c < 128)
    → IsSome (cond slash (Some one) (cond digit (Some other) None)) → c < 128
low_choice c true digit one other first second h = first refl
low_choice c false true one other first second h = second refl
low_choice c false false one other first second h = cc

slash_is_ascii : (c : ℕ) → (c == 92) ≡ true → c < 128
slash_is_ascii c h = grind (arith, nat_tests)

digit_is_ascii : (groups c : ℕ) → names_group groups c ≡ true → c < 128
digit_is_ascii groups c h = grind (arith, nat_tests)

pub escape_is_ascii : (groups c : ℕ) → IsSome (escaped groups c) → c < 128
escape_is_ascii groups c h =
    low_choice c (c == 92) (names_group groups c) (byte 92) (group (c - 48)) (slash_is_ascii c) (digit_is_ascii groups c) h

-- ---- where the text may be cut

-- what stands behind a backslash is text
pub text_behind : (rest literal behind : List ℕ) → rest ≡ literal ++ (92 ∷ behind) → IsUtf8 rest → IsUtf8 behind
text_behind rest literal behind e text =
    let whole : IsUtf8 (literal ++ (92 ∷ behind)) = subst IsUtf8 e text in
    let at : get_or (literal ++ (92 ∷ behind)) (length literal) 0 ≡ 92 = get_or-append_seam literal 92 behind 0 in
    let rest_is : drop (length literal) (literal ++ (92 ∷ behind)) ≡ 92 ∷ behind = drop-append_seam literal (92 ∷ behind) in
    let inside : length literal < length (literal ++ (92 ∷ behind)) = omega (arith, length-append literal (92 ∷ behind)) in
    let slash : IsUtf8 (92 ∷ behind) = subst IsUtf8 rest_is (IsUtf8-drop _ (length literal) whole (IsCharBoundary-before_ascii _ (length literal) inside (omega (arith, at)))) in
    IsUtf8-drop (92 ∷ behind) 1 slash (IsCharBoundary-after_ascii (92 ∷ behind) 0 slash (omega arith) (omega arith))

pub escape_ends : (groups : ℕ) (behind : List ℕ) → IsUtf8 behind → 0 < length behind → IsSome (escaped groups (slice_index behind 0)) → IsCharBoundary behind 1
escape_ends groups behind text some h = IsCharBoundary-after_ascii behind 0 text some (escape_is_ascii groups (slice_index behind 0) h)

pub joined : (old middle new literal w r e whole : List ℕ) → middle ≡ old ++ literal → new ≡ middle ++ w → e ≡ literal ++ (w ++ r) → old ++ e ≡ whole → new ++ r ≡ whole
joined old middle new literal w r e whole first second third fourth = rw (second, first) (simp append_assoc (ap (λ (t : List ℕ). old ++ t) (sym third) ∙ fourth))

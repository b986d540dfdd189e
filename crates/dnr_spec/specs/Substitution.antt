-- A substitution, which puts groups of a match into a new URL: Chrome's reference, `Redirect.regexSubstitution`.
use Rattle.std.specs.Prelude.{ℕ, ◌-◌, List, [], ◌∷◌, length, slice_range, slice_index_or, Bool, nat_le, nat_lt, ◌==◌, ◌&&◌, Option, Some, None, option_map, Result, Ok, Err, if◌then◌else◌}
use Rattle.std.specs.List.{flat_map}
use Rattle.dnr_base.specs.declared.span.Span.{Span}
use Rattle.dnr_spec.specs.declared.substitution_refusal.SubstitutionRefusal.{SubstitutionRefusal}
use Rattle.dnr_spec.specs.declared.substitution_refusal.SubstitutionRefusal.TheVariants.{BadSubstitution}

-- a byte as it is, or what a group took, where group 0 is the whole match
pub data Piece : Type 0 where
  byte : ℕ → Piece
  group : ℕ → Piece

-- a digit that names a group up to this count
abbrev pub names_group : ℕ → ℕ → Bool
names_group groups b = nat_le 48 b && nat_le b 57 && nat_le (b - 48) groups

-- what a backslash and the byte behind it stand for
abbrev pub escaped : ℕ → ℕ → Option Piece
escaped groups b = if b == 92 then Some (byte 92) else (if names_group groups b then Some (group (b - 48)) else None)

-- this piece and those behind it, if all are there
abbrev pub then_pieces : Option Piece → Option (List Piece) → Option (List Piece)
then_pieces None rest = None
then_pieces (Some piece) rest = option_map (λ pieces. piece ∷ pieces) rest

-- the pieces of a text: `\0` to `\9` are groups, `\\` is a backslash, and no other backslash may stand
abbrev pub pieces_of : ℕ → List ℕ → Option (List Piece)
pieces_of groups [] = Some []
pieces_of groups (b ∷ []) = if b == 92 then None else Some (byte b ∷ [])
pieces_of groups (b ∷ c ∷ rest) =
    if b == 92 then then_pieces (escaped groups c) (pieces_of groups rest)
    else then_pieces (Some (byte b)) (pieces_of groups (c ∷ rest))

abbrev pub max_substitution : ℕ
max_substitution = 2048

abbrev pub or_bad : Option (List Piece) → Result (List Piece) SubstitutionRefusal
or_bad None = Err BadSubstitution
or_bad (Some pieces) = Ok pieces

-- the substitution of a text, for a pattern with this count of groups
abbrev pub substitution_of : List ℕ → ℕ → Result (List Piece) SubstitutionRefusal
substitution_of text groups = if nat_lt max_substitution (length text) then Err BadSubstitution else or_bad (pieces_of groups text)

-- what stands at a place, and nothing where a group took no part
abbrev pub text_at : List ℕ → Option Span → List ℕ
text_at text None = []
text_at text (Some span) = slice_range text span.start span.end

abbrev pub written : List ℕ → List (Option Span) → Piece → List ℕ
written text spans (byte b) = b ∷ []
written text spans (group n) = text_at text (slice_index_or spans n None)

-- the bytes that a substitution stands for at a match in a text, whose groups took these places
abbrev pub expansion : List Piece → List ℕ → List (Option Span) → List ℕ
expansion pieces text spans = flat_map (written text spans) pieces

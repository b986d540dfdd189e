-- The pieces that are kept as a text, and why a text is not read.
use Rattle.std.specs.Prelude.{◌≡◌, ℕ, List, [], Ok, Err, unwrap_or}
use Rattle.dnr_spec.specs.Substitution.{Piece, pieces_of, substitution_of}
use Rattle.dnr_spec.specs.declared.substitution_refusal.SubstitutionRefusal.{SubstitutionRefusal}
use Rattle.dnr_spec.specs.declared.substitution_refusal.SubstitutionRefusal.TheVariants.{BadSubstitution, NoMemory}

-- the pieces of a text that is a substitution where a pattern has all groups that it can name
abbrev pub pieces_in : List ℕ → List Piece
pieces_in text = unwrap_or (pieces_of 9 text) []

-- it is no substitution, or it is one and memory ran out
abbrev pub IsRefused : List ℕ → ℕ → SubstitutionRefusal → Type 0
IsRefused text groups BadSubstitution = substitution_of text groups ≡ Err BadSubstitution
IsRefused text groups NoMemory = (pieces : List Piece) × (substitution_of text groups ≡ Ok pieces)

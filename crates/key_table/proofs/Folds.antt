-- A text that is asked for as it stands.
use Rattle.std.proofs.Common.{◌≡◌, ℕ, false, List, [], ◌∷◌, refl, ap}
use Rattle.key_table.specs.Asked.{asked_text}

pub as_it_stands : (text : List ℕ) → asked_text false text ≡ text
as_it_stands [] = refl
as_it_stands (b ∷ text) = ap (λ rest. b ∷ rest) (as_it_stands text)

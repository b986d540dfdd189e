-- A list that is given and not empty is kept as the list alone: an empty one stands for a list that is not given.
use Rattle.std.specs.Prelude.{List, [], ◌∷◌, Option, Some, None}

abbrev pub given : {X : Type 0} → List X → Option (List X)
given [] = None
given (x ∷ xs) = Some (x ∷ xs)

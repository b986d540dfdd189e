-- Bytes that are taken or given piece by piece.
use Rattle.std.proofs.Common.{◌≡◌, ℕ, ◌-◌, List, ◌++◌, length, take, drop, Option, Some, None, sym, ap, ◌∙◌, append_assoc}
use Rattle.std.proofs.lemmas.List.{take_rest, take-append-drop}
use Rattle.std.specs.Io.KnownBytes.{Appends}

pub appends_append : (a b c : Option (List ℕ)) (xs ys : List ℕ) → Appends a b xs → Appends b c ys → Appends a c (xs ++ ys)
appends_append None b c xs ys p q = tt
appends_append (Some a) None c xs ys p q = absurd p
appends_append (Some a) (Some b) None xs ys p q = absurd q
appends_append (Some a) (Some b) (Some c) xs ys p q = q ∙ ap (λ l. l ++ ys) p ∙ append_assoc a xs ys

split : (n : ℕ) (xs : List ℕ) → xs ≡ take n xs ++ take (length xs - n) (drop n xs)
split n xs = sym (ap (λ ys. take n xs ++ ys) (take_rest xs n) ∙ take-append-drop n xs)

pub rejoin : (all sent rest : List ℕ) (n : ℕ) → all ≡ sent ++ rest → all ≡ (sent ++ take n rest) ++ take (length rest - n) (drop n rest)
rejoin all sent rest n e = e ∙ ap (λ xs. sent ++ xs) (split n rest) ∙ sym (append_assoc sent (take n rest) (take (length rest - n) (drop n rest)))

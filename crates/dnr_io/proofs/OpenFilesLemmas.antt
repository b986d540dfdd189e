-- What is left of a list of which some first items were taken.
use Rattle.std.proofs.Common.{◌≡◌, ℕ, List, ◌+◌, ◌++◌, take, drop, sym, ap, ◌∙◌}
use Rattle.std.proofs.lemmas.List.{drop-drop, take-append-drop}

pub taken : (bytes : List ℕ) (at count : ℕ) (front : List ℕ) → front ≡ take count (drop at bytes) → drop at bytes ≡ front ++ drop (at + count) bytes
taken bytes at count front e =
    sym (take-append-drop count (drop at bytes)) ∙ ap (λ items. items ++ drop count (drop at bytes)) (sym e) ∙ ap (λ rest. front ++ rest) (drop-drop count at bytes)

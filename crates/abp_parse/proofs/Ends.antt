-- What is cut off at the ends of a line.
use Rattle.std.proofs.Common.{◌≡◌, ℕ, List, [], ◌∷◌, ◌++◌, true, false, sym, ap, ◌∙◌}
use Rattle.std.specs.Prelude.{reverse}
use Rattle.std.proofs.lemmas.Bool.{cond-true, cond-false}
use Rattle.std.proofs.lemmas.List.{reverse-append, reverse-reverse}
use Rattle.list_spec.specs.LineKind.{is_cut_off, without_front}

pub front_more : (text rest : List ℕ) (b : ℕ) → text ≡ b ∷ rest → is_cut_off b ≡ true → without_front text ≡ without_front rest
front_more text rest b e cut = ap without_front e ∙ cond-true (is_cut_off b) _ _ cut

pub front_kept : (text rest : List ℕ) (b : ℕ) → text ≡ b ∷ rest → is_cut_off b ≡ false → without_front text ≡ text
front_kept text rest b e kept = ap without_front e ∙ cond-false (is_cut_off b) _ _ kept ∙ sym e

last_first : (text rest : List ℕ) (b : ℕ) → text ≡ rest ++ b ∷ [] → reverse text ≡ b ∷ reverse rest
last_first text rest b e = ap reverse e ∙ reverse-append rest (b ∷ [])

pub end_more : (text rest : List ℕ) (b : ℕ) → text ≡ rest ++ b ∷ [] → is_cut_off b ≡ true → without_front (reverse text) ≡ without_front (reverse rest)
end_more text rest b e cut = front_more (reverse text) (reverse rest) b (last_first text rest b e) cut

pub end_kept : (text rest : List ℕ) (b : ℕ) → text ≡ rest ++ b ∷ [] → is_cut_off b ≡ false → reverse (without_front (reverse text)) ≡ text
end_kept text rest b e kept = ap reverse (front_kept (reverse text) (reverse rest) b (last_first text rest b e) kept) ∙ reverse-reverse text

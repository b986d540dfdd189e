-- What is cut off at the ends of a selector.
use Rattle.std.proofs.Common.{◌≡◌, ℕ, List, [], ◌∷◌, ◌++◌, true, false, sym, ap, ◌∙◌}
use Rattle.std.specs.Prelude.{reverse}
use Rattle.std.proofs.lemmas.Bool.{cond-true, cond-false}
use Rattle.std.proofs.lemmas.List.{reverse-append, reverse-reverse}
use Rattle.hide_spec.specs.HidingLine.{is_space_or_tab, behind_spaces}

pub front_more : (text rest : List ℕ) (b : ℕ) → text ≡ b ∷ rest → is_space_or_tab b ≡ true → behind_spaces text ≡ behind_spaces rest
front_more text rest b e cut = ap behind_spaces e ∙ cond-true (is_space_or_tab b) _ _ cut

pub front_kept : (text rest : List ℕ) (b : ℕ) → text ≡ b ∷ rest → is_space_or_tab b ≡ false → behind_spaces text ≡ text
front_kept text rest b e kept = ap behind_spaces e ∙ cond-false (is_space_or_tab b) _ _ kept ∙ sym e

last_first : (text rest : List ℕ) (b : ℕ) → text ≡ rest ++ b ∷ [] → reverse text ≡ b ∷ reverse rest
last_first text rest b e = ap reverse e ∙ reverse-append rest (b ∷ [])

pub end_more : (text rest : List ℕ) (b : ℕ) → text ≡ rest ++ b ∷ [] → is_space_or_tab b ≡ true → behind_spaces (reverse text) ≡ behind_spaces (reverse rest)
end_more text rest b e cut = front_more (reverse text) (reverse rest) b (last_first text rest b e) cut

pub end_kept : (text rest : List ℕ) (b : ℕ) → text ≡ rest ++ b ∷ [] → is_space_or_tab b ≡ false → reverse (behind_spaces (reverse text)) ≡ text
end_kept text rest b e kept = ap reverse (front_kept (reverse text) (reverse rest) b (last_first text rest b e) kept) ∙ reverse-reverse text

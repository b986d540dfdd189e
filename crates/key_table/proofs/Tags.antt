-- Keys by their tags and by their order.
use Rattle.std.proofs.Common.{◌≡◌, ℕ, List, false, ap, arith}
use Rattle.std.specs.Str.{bytes_eq}
use Rattle.std.proofs.lemmas.Slice.Eq.{bytes_eq-Decides}
use Rattle.std.proofs.lemmas.Grind.{common_steps}
use Rattle.key_table.specs.Hash.{tag_of}

-- a key with another tag is another key
pub other_tag : (xs ys : List ℕ) → (tag_of xs ≡ tag_of ys → ⊥) → bytes_eq xs ys ≡ false
other_tag xs ys differs = grind (arith, common_steps, bytes_eq-Decides xs ys, λ (e : xs ≡ ys). differs (ap tag_of e))

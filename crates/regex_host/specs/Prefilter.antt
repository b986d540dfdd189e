-- Texts of which every text that a pattern matches has one.
use Rattle.std.specs.Prelude.{◌≡◌, ℕ, ◌<◌, List, length, All, Bool, None}
use Rattle.regex_literal.specs.Find.{OccursAt, needle_at}
use Rattle.dnr_spec.specs.Patterns.{found}

-- no needle stands in the text
abbrev pub LacksAll : List (List ℕ) → List ℕ → Type 0
LacksAll needles text = (n k : ℕ) → n < length needles → ¬ OccursAt text (needle_at needles n) k

-- where a text has none of the needles, the pattern matches nowhere in it
abbrev pub AreNeeded : List (List ℕ) → List ℕ → Bool → Type 0
AreNeeded needles pattern fold =
    (text : List ℕ) → All (λ b. b < 256) text → LacksAll needles text → found pattern fold text ≡ None

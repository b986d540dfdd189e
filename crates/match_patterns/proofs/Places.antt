-- Where a byte first stands in a text, and what stands around it.
use Rattle.std.proofs.Common.{◌≡◌, ℕ, ◌<◌, ◌≤◌, List, ◌∷◌, length, drop, Bool, false, Option, Some, None, cond, ap, ◌∙◌, ◌-◌, ⊎_elim, arith, lt-ltb, length-drop}
use Rattle.std.specs.Prelude.{unwrap_or, position, nat_eq, not}
use Rattle.std.specs.List.{position_or_len, ends_with}
use Rattle.std.proofs.lemmas.Bool.{cases_lt, le-ltb}
use Rattle.std.proofs.lemmas.List.Sums.{prefix_len-le-length}
use Rattle.std.proofs.lemmas.Slice.Eq.{bytes_eq-Decides}
use Rattle.match_patterns.proofs.Paths.{never}

pub place_is : (test : ℕ → Bool) (text : List ℕ) (found : Option ℕ) → found ≡ position test text → unwrap_or found (length text) ≡ position_or_len test text
place_is test text found is =
    ap (λ o. unwrap_or o (length text)) is
    ∙ ⊎_elim
    (λ (less : position_or_len test text < length text). ap (λ t. unwrap_or (cond t (Some (position_or_len test text)) None) (length text)) (lt-ltb (position_or_len test text) (length text) less))
    (λ (past : length text ≤ position_or_len test text).
    let within = prefix_len-le-length (λ b. not (test b)) text in
    let end : length text ≡ position_or_len test text = omega (arith, within) in
    ap (λ t. unwrap_or (cond t (Some (position_or_len test text)) None) (length text)) (le-ltb (position_or_len test text) (length text) past) ∙ end)
    (cases_lt (position_or_len test text) (length text))

pub place_within : (test : ℕ → Bool) (text : List ℕ) (place : ℕ) → place ≡ position_or_len test text → place ≤ length text
place_within test text place is = let within = prefix_len-le-length (λ b. not (test b)) text in omega (arith, within)

-- a text that is not longer ends with no dot and this
pub ends_with_no_longer : (domain host : List ℕ) → length host ≤ length domain → ends_with nat_eq host (46 ∷ domain) ≡ false
ends_with_no_longer domain host short =
    never (ends_with nat_eq host (46 ∷ domain)) (λ yes.
    let end = (bytes_eq-Decides (46 ∷ domain) (drop (length host - length (46 ∷ domain)) host)).0 yes in
    let same = ap length end in
    let left = length-drop (length host - length (46 ∷ domain)) host in
    omega (arith, same, left))

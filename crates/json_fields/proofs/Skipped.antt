-- The turns of a walk that keeps nothing.
use Rattle.std.proofs.Common.{◌≡◌, ℕ, ◌-◌, ◌<◌, List, Option, Some, None, is_some, true, false, option_map, refl, ap, ◌∙◌}
use Rattle.json.specs.Token.{Token}
use Rattle.json.specs.Json as json
use Rattle.json.specs.Json.{Parse, parse_map, after_end_array, read_key, items, members}
use Rattle.json.proofs.Grammar.{left, left-parse_map, left_none, left_some}
use Rattle.serde_json.specs.Data.{Num, Data, number, item, Members, put}
use Rattle.serde_json.specs.Read.{of_json, of_items, of_members, converted}
use Rattle.json_fields.proofs.Turns.{item_read, item_refused, member_read, member_refused}

module _ (p : Parse json.Json) (n : ℕ) where
  pub item_passed : (ts r : List Token) → 0 < n → after_end_array ts ≡ None → left (converted of_json (p ts)) ≡ Some r
      → left (converted of_items (items p n ts)) ≡ left (converted of_items (items p (n - 1) r))
  item_passed ts r some going e = let d = left_some _ r e in ap left (item_read p n ts r d.0 some going d.1) ∙ left-parse_map (item d.0) _

  pub item_not_passed : (ts : List Token) → after_end_array ts ≡ None → left (converted of_json (p ts)) ≡ None → left (converted of_items (items p n ts)) ≡ None
  item_not_passed ts going e = ap left (item_refused p n ts going (left_none _ e))

  pub member_passed : (old : Members) (k : List ℕ) (ts s r : List Token) → 0 < n → read_key ts ≡ Some (Some k, s) → left (converted of_json (p s)) ≡ Some r
      → (d : Data) × (left (converted (λ ms. of_members ms old) (members p n ts)) ≡ left (converted (λ ms. of_members ms (put k d old)) (members p (n - 1) r)))
  member_passed old k ts s r some key e = let d = left_some _ r e in (d.0, ap left (member_read p old n k ts s r d.0 some key d.1))

  pub member_not_passed : (old : Members) (k : List ℕ) (ts s : List Token) → read_key ts ≡ Some (Some k, s) → left (converted of_json (p s)) ≡ None → left (converted (λ ms. of_members ms old) (members p n ts)) ≡ None
  member_not_passed old k ts s key e = ap left (member_refused p old n k ts s key (left_none _ e))

-- ---- a number

abbrev pub number_behind : List Token → Option Num → Option (List Token)
number_behind r x = left (option_map {U = Data × List Token} (λ b. (b, r)) (option_map number x))

pub in_range : (r : List Token) (x : Option Num) → is_some x ≡ true → number_behind r x ≡ Some r
in_range r None e = absurd (cc)
in_range r (Some n) e = refl

pub out_of_range : (r : List Token) (x : Option Num) → is_some x ≡ false → number_behind r x ≡ None
out_of_range r None e = refl
out_of_range r (Some n) e = absurd (cc)

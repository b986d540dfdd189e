-- The first piece of a text, and the pieces behind it.
use Rattle.std.proofs.Common.{◌≡◌, ◌<◌, ◌≤◌, ◌+◌, ℕ, List, [], ◌∷◌, length, take, drop, Bool, true, false, cond, ◌==◌, nat_lt, refl, ap, ◌∙◌, subst, arith, Some, None}
use Rattle.std.specs.Prelude.{position}
use Rattle.std.specs.List.{position_or_len, slice_split}
use Rattle.std.proofs.lemmas.Bool.{ltb-true, ltb-false}
use Rattle.std.proofs.lemmas.List.Splits.{slice_split_first, slice_split_none}
use Rattle.std.proofs.lemmas.List.Sums.{fails_before_first}
use Rattle.list_spec.specs.Pieces.{pieces_of}

told_place : (p : ℕ → Bool) (text : List ℕ) (place : ℕ) (inside : Bool) → nat_lt (position_or_len p text) (length text) ≡ inside
    → cond inside (Some (position_or_len p text)) None ≡ Some place → (position_or_len p text ≡ place) × (position_or_len p text < length text)
told_place p text place true e found = (cc, ltb-true (position_or_len p text) (length text) e)
told_place p text place false e found = cc

told_none : (p : ℕ → Bool) (text : List ℕ) (inside : Bool) → nat_lt (position_or_len p text) (length text) ≡ inside
    → cond inside (Some (position_or_len p text)) None ≡ None → length text ≤ position_or_len p text
told_none p text true e found = cc
told_none p text false e found = ltb-false (position_or_len p text) (length text) e

pub some_cut : (cut : ℕ) (text : List ℕ) (place : ℕ) → position (λ b. b == cut) text ≡ Some place
    → (place < length text) × (pieces_of cut text ≡ take place text ∷ pieces_of cut (drop (place + 1) text))
some_cut cut text place found =
    let p : ℕ → Bool = λ b. b == cut in
    let told = told_place p text place (nat_lt (position_or_len p text) (length text)) refl found in
    let inside : position_or_len p text < length text = told.1 in (
      subst (λ (n : ℕ). n < length text) told.0 inside,
      slice_split_first p text 0 inside ∙ ap (λ (n : ℕ). take n text ∷ slice_split p (drop (n + 1) text)) told.0,
    )

pub none_cut : (cut : ℕ) (text : List ℕ) → position (λ b. b == cut) text ≡ None → pieces_of cut text ≡ text ∷ []
none_cut cut text found =
    let p : ℕ → Bool = λ b. b == cut in
    let past : length text ≤ position_or_len p text = told_none p text (nat_lt (position_or_len p text) (length text)) refl found in
    slice_split_none p text (λ k d less. fails_before_first p text k d (omega arith))

-- The table of places at the end of a text.
use Rattle.std.proofs.Common.{◌≡◌, ◌≢◌, ⊎_elim, ℕ, ◌+◌, ◌<◌, ◌≤◌, List, [], length, drop, get_or, set, Bool, true, false, ◌&&◌, sym, ap, ◌∙◌, arith, get_or-set_other, get_or-set_same}
use Rattle.std.proofs.Math.Seq.{drop-length}
use Rattle.dnr_spec.specs.declared.piece.Piece.{Piece}
use Rattle.dnr_spec.specs.Wildcards.{takes}
use Rattle.wildcard.specs.Places.{takes_nothing, Stands, EndStands}
use Rattle.wildcard.proofs.Rows.{first_or_later}
use Rattle.wildcard.proofs.Takes.{takes_none}

-- the table with nothing but the end of the pattern
pub end_begins : (pieces : List Piece) (table : List Bool) → length pieces < length table → EndStands pieces (set table (length pieces) true) (length pieces) true
end_begins pieces table room =
    let ends : (fold : Bool) → true ≡ takes fold (drop (length pieces) pieces) [] = λ fold. sym (ap (λ q. takes fold q []) (drop-length pieces)) in
    record {
      order = omega arith;
      now = ends;
      told = λ fold k from to.
          let same : k ≡ length pieces = omega arith in
          ap (λ i. get_or (set table (length pieces) true) i false) same
          ∙ get_or-set_same table (length pieces) true false room
          ∙ ends fold
          ∙ ap (λ i. takes fold (drop i pieces) []) (sym same);
    }

pub end_more : (pieces : List Piece) (table : List Bool) (place q : ℕ) (behind now : Bool) (d : Piece) → place ≡ q + 1 → length pieces < length table
    → now ≡ (takes_nothing (get_or pieces q d) && behind) → EndStands pieces table place behind → EndStands pieces (set table q now) q now
end_more pieces table place q behind now d e room is_now s =
    let less : q < length pieces = let o = s.order in omega arith in
    let here : (fold : Bool) → now ≡ takes fold (drop q pieces) [] = λ fold.
    is_now ∙ ap (λ t. takes_nothing (get_or pieces q d) && t) (s.now fold ∙ ap (λ k. takes fold (drop k pieces) []) e) ∙ sym (takes_none fold pieces q d less) in
    record {
      order = omega arith;
      now = here;
      told = λ fold k from to. ⊎_elim
          (λ (same : k ≡ q).
          let within : q < length table = omega arith in
          ap (λ i. get_or (set table q now) i false) same ∙ get_or-set_same table q now false within ∙ here fold ∙ ap (λ i. takes fold (drop i pieces) []) (sym same))
          (λ (later : q + 1 ≤ k).
          let other : k ≢ q = omega arith in
          get_or-set_other table q k now false other ∙ s.told fold k (omega arith) to)
          (first_or_later q k from);
    }

pub end_stands : (pieces : List Piece) (table : List Bool) (place : ℕ) (now fold : Bool) (text : List ℕ) → place ≤ 0 → EndStands pieces table place now
    → Stands fold pieces text (length text) table
end_stands pieces table place now fold text first s k to =
    s.told fold k (omega arith) to ∙ ap (takes fold (drop k pieces)) (sym (drop-length text))

-- Why a seat is not ready when it has done its work.
use Rattle.std.proofs.Common.{◌≡◌, ◌≤◌, ◌<◌, List, [], ◌∷◌, length, true, false, Option, Some, None, inl, inr, ⊎_elim, arith}
use Rattle.std.specs.List.{AllZip}
use Rattle.std.proofs.lemmas.Bool.{cases_Bool}
use Rattle.dnr_base.specs.Faults.{Rose}
use Rattle.generation.specs.Basis.{Basis}
use Rattle.published.specs.Pass.{PassSeen}
use Rattle.update_spec.specs.Entries.{Entry}
use Rattle.session_seats.specs.Reading.{ReadRound}
use Rattle.session_seats.specs.Seats.{DeskSeen, HasBegun, HasWorked, IsExcused, IsLater, IsReadyOrExcused, IsReadyOrExcusedBy, IsUntold, KeepsPass}
use Rattle.session_seats.proofs.Served.{later_on}

-- ---- a seat that works once

excused : (opening : Basis) (round : ReadRound) (note : List Entry) (before begun now : DeskSeen) → HasBegun note before begun → HasWorked opening round begun now → IsReadyOrExcused note before now
excused opening round note before begun now begins worked lost = record {
  begun = begun.pass;
  learning = begins.later;
  later = worked.served.later;
  cause = ⊎_elim (λ (ready : begun.ready ≡ true). inr (worked.served.lost ready lost)) (λ (untold : begun.ready ≡ false). inl (begins.untold untold)) (cases_Bool begun.ready);
}

pub all_excused : (opening : Basis) (round : ReadRound) (note : List Entry) (before begun now : List DeskSeen) → AllZip (HasBegun note) before begun → AllZip (HasWorked opening round) begun now → AllZip (IsReadyOrExcused note) before now
all_excused opening round note [] [] [] begins worked = tt
all_excused opening round note [] (m ∷ begun) now begins worked = absurd begins
all_excused opening round note (b ∷ before) [] now begins worked = absurd begins
all_excused opening round note [] [] (n ∷ now) begins worked = absurd worked
all_excused opening round note (b ∷ before) (m ∷ begun) [] begins worked = absurd worked
all_excused opening round note (b ∷ before) (m ∷ begun) (n ∷ now) begins worked =
    (excused opening round note b m n begins.0 worked.0, all_excused opening round note before begun now begins.1 worked.1)

pub all_keep : (opening : Basis) (round : ReadRound) (note : List Entry) (before begun now : List DeskSeen) → AllZip (HasBegun note) before begun → AllZip (HasWorked opening round) begun now → AllZip KeepsPass before now
all_keep opening round note [] [] [] begins worked = tt
all_keep opening round note [] (m ∷ begun) now begins worked = absurd begins
all_keep opening round note (b ∷ before) [] now begins worked = absurd begins
all_keep opening round note [] [] (n ∷ now) begins worked = absurd worked
all_keep opening round note (b ∷ before) (m ∷ begun) [] begins worked = absurd worked
all_keep opening round note (b ∷ before) (m ∷ begun) (n ∷ now) begins worked =
    (later_on b.pass m.pass n.pass begins.0.later worked.0.served.later, all_keep opening round note before begun now begins.1 worked.1)

-- ---- and one that may work twice

pub once_excused : (first second : List Entry) (before now : List DeskSeen) → AllZip (IsReadyOrExcused first) before now → AllZip (IsReadyOrExcusedBy first second) before now
once_excused first second [] [] all = tt
once_excused first second [] (n ∷ now) all = absurd all
once_excused first second (b ∷ before) [] all = absurd all
once_excused first second (b ∷ before) (n ∷ now) all = (λ lost. inl (all.0 lost), once_excused first second before now all.1)

untold_before : (a b c : Option PassSeen) (note : List Entry) → IsLater a b → IsUntold b c note → IsUntold a c note
untold_before None b c note later untold = tt
untold_before (Some a) None c note later untold = absurd later
untold_before (Some a) (Some b) None note later untold = absurd untold
untold_before (Some a) (Some b) (Some c) note later untold =
    let from : a.missed ≤ b.missed = later in
    ⊎_elim (λ (rose : Rose b.missed c.missed). inl (omega (arith, from, rose))) (λ (few : length c.entered < length note). inr few) untold

excused_before : (note : List Entry) (before middle now : DeskSeen) → KeepsPass before middle → IsExcused note middle now → IsExcused note before now
excused_before note before middle now keeps excuse = record {
  begun = excuse.begun;
  learning = later_on before.pass middle.pass excuse.begun keeps excuse.learning;
  later = excuse.later;
  cause = ⊎_elim (λ untold. inl (untold_before before.pass middle.pass excuse.begun note keeps untold)) (λ none. inr none) excuse.cause;
}

pub twice_excused : (first second : List Entry) (before middle now : List DeskSeen) → AllZip KeepsPass before middle → AllZip (IsReadyOrExcused second) middle now → AllZip (IsReadyOrExcusedBy first second) before now
twice_excused first second [] [] [] keeps all = tt
twice_excused first second [] (m ∷ middle) now keeps all = absurd keeps
twice_excused first second (b ∷ before) [] now keeps all = absurd keeps
twice_excused first second [] [] (n ∷ now) keeps all = absurd all
twice_excused first second (b ∷ before) (m ∷ middle) [] keeps all = absurd all
twice_excused first second (b ∷ before) (m ∷ middle) (n ∷ now) keeps all =
    (λ lost. inr (excused_before second b m n keeps.0 (all.0 lost)), twice_excused first second before middle now keeps.1 all.1)

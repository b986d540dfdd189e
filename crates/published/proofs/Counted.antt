-- Each entry counts once.
use Rattle.std.proofs.Common.{◌≡◌, ◌+◌, List, [], ◌∷◌, length, fold, refl, ap, arith}
use Rattle.rule_spec.specs.State.{State}
use Rattle.update_spec.specs.Update.{Update, changed}
use Rattle.update_spec.specs.Entries.{Entry, one, batch, after, replay}

-- changes leave the count
pub changes_count_nothing : (state : State) (updates : List Update) → (fold changed state updates).count ≡ state.count
changes_count_nothing state [] = refl
changes_count_nothing state (update ∷ updates) = changes_count_nothing (changed state update) updates

pub one_more : (state : State) (entry : Entry) → (after state entry).count ≡ state.count + 1
one_more state (one update) = refl
one_more state (batch updates) = ap (λ count. count + 1) (changes_count_nothing state updates)

pub entries_are_counted : (state : State) (list : List Entry) → (replay state list).count ≡ state.count + length list
entries_are_counted state [] = omega arith
entries_are_counted state (entry ∷ list) =
    let rest = entries_are_counted (after state entry) list in
    let more = one_more state entry in omega (arith, rest, more)

-- Lines of which none but the last one is a sync.
use Rattle.std.proofs.Common.{◌≡◌, ◌⊎◌, List, [], ◌∷◌, ◌++◌, Bool, false, Result, Ok, Err, refl, sym, ◌∙◌, subst, ⊎_elim, inl, inr}
use Rattle.std.specs.Prelude.{IsTrue}
use Rattle.std.proofs.lemmas.Bool.{true≢false}
use Rattle.line_spec.specs.Line.{Command, blank, sync, request, explain, update, batch, command_of}
use Rattle.line_spec.specs.declared.line_fault.LineFault.{LineFault}
use Rattle.lines_ahead.specs.Cut.{CutSeen}
use Rattle.session_spec.specs.Rounds.{is_sync}
use Rattle.session_seats.specs.Cutting.{AreNoSync, IsNoSync, EndsAtSync}

-- what is read is no sync, or is one
sync_or_not : (read : Result Command LineFault) → (is_sync read ≡ false) ⊎ (read ≡ Ok sync)
sync_or_not (Ok blank) = inl refl
sync_or_not (Ok sync) = inr refl
sync_or_not (Ok (request r)) = inl refl
sync_or_not (Ok (explain r)) = inl refl
sync_or_not (Ok (update one)) = inl refl
sync_or_not (Ok (batch all)) = inl refl
sync_or_not (Err fault) = inl refl

-- a line that may be none is none
pub never_sync : (line : CutSeen) (may : Bool) → (command_of line.number line.bytes ≡ Ok sync → IsTrue may) → may ≡ false → IsNoSync line
never_sync line may syncs not = ⊎_elim (λ (none : is_sync (command_of line.number line.bytes) ≡ false). none) (λ (is : command_of line.number line.bytes ≡ Ok sync). absurd (true≢false (sym (syncs is) ∙ not))) (sync_or_not (command_of line.number line.bytes))

one_more : (lines : List CutSeen) (line : CutSeen) → AreNoSync lines → IsNoSync line → AreNoSync (lines ++ line ∷ [])
one_more [] line none not = (not, tt)
one_more (first ∷ lines) line none not = (none.0, one_more lines line none.1 not)

last_one : (lines : List CutSeen) (line : CutSeen) → AreNoSync lines → EndsAtSync (lines ++ line ∷ [])
last_one [] line none = tt
last_one (first ∷ []) line none = (none.0, tt)
last_one (first ∷ next ∷ lines) line none = (none.0, last_one (next ∷ lines) line none.1)

-- one line more behind those that are none: it may be the last
pub no_sync_more : (lines now : List CutSeen) (line : CutSeen) → now ≡ lines ++ line ∷ [] → AreNoSync lines → IsNoSync line → AreNoSync now
no_sync_more lines now line longer none not = subst AreNoSync (sym longer) (one_more lines line none not)

pub ends_at_sync : (lines now : List CutSeen) (line : CutSeen) → now ≡ lines ++ line ∷ [] → AreNoSync lines → EndsAtSync now
ends_at_sync lines now line longer none = subst EndsAtSync (sym longer) (last_one lines line none)

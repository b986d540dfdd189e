-- The state that an update leaves, by its judgement.
use Rattle.std.proofs.Common.{◌≡◌, Option, Some, None, ap, ◌∙◌, sym}
use Rattle.rule_spec.specs.State.{State}
use Rattle.update_spec.specs.declared.refusal.Refusal.{Refusal}
use Rattle.update_spec.specs.Entries.{one, refused_at, judge, after}
use Rattle.update_spec.specs.Judge.{judge_update}
use Rattle.update_spec.specs.Update.{Update}
use Rattle.session_spec.specs.InTurn.{left_by}

abbrev left_with : State → Update → Option Refusal → State
left_with state update judged = left_by state (one update) (refused_at 0 judged None)

pub accepted : (state next : State) (update : Update) → judge_update state update ≡ None → next ≡ after state (one update) → next ≡ left_by state (one update) (judge state (one update))
accepted state next update judged same = same ∙ sym (ap (left_with state update) judged)

pub refused : (state : State) (update : Update) (why : Refusal) → judge_update state update ≡ Some why → state ≡ left_by state (one update) (judge state (one update))
refused state update why judged = sym (ap (left_with state update) judged)

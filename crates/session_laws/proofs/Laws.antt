-- The laws of sessions.
use Rattle.std.proofs.Common.{ℕ, List, refl, inl, inr, subst}
use Rattle.dnr_spec.specs.declared.status.Status.TheVariants as status
use Rattle.load_spec.specs.Files.{Files}
use Rattle.session_spec.specs.Answers.{Applies}
use Rattle.session_spec.specs.Out.{Outside, Session, HasLongFileOf, HoldsTooMuch, in_rounds}
use Rattle.session_laws.specs.Laws.{RefusalsChangeNothing, NumbersNeverFall, SessionsComplete}

pub refusals_change_nothing : RefusalsChangeNothing
refusals_change_nothing now entry at said next refused applies = (subst (λ j. Applies now entry j said next) refused applies).1

pub numbers_never_fall : NumbersNeverFall
numbers_never_fall hosts setting first rounds written serves seat = serves.order seat

too_long : (files : Files) (outside : Outside) (session : Session) (name written : List ℕ) → (HasLongFileOf files session → ⊥) → ((script : List ℕ) → HoldsTooMuch files name script → ⊥)
    → ((in_rounds files outside session name).TooLong written) → ⊥
too_long files outside session name written short within (inl long) = short long.0
too_long files outside session name written short within (inr served) = within served.script served.holds

pub sessions_complete : SessionsComplete
sessions_complete files outside session name status.Done written shelf sink accepted short within ends = inl refl
sessions_complete files outside session name status.Refused written shelf sink accepted short within ends = absurd (accepted written ends)
sessions_complete files outside session name status.Usage written shelf sink accepted short within ends = absurd ends
sessions_complete files outside session name status.ReadFault written shelf sink accepted short within ends = absurd (shelf ends.0)
sessions_complete files outside session name status.WriteFault written shelf sink accepted short within ends = absurd (sink ends.0)
sessions_complete files outside session name status.NoMemory written shelf sink accepted short within ends = inr refl
sessions_complete files outside session name status.FileTooLong written shelf sink accepted short within ends = absurd (too_long files outside session name written short within ends)
sessions_complete files outside session name status.DiskFault written shelf sink accepted short within ends = absurd ends

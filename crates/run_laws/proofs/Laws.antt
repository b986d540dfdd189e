-- The laws of runs.
use Rattle.std.proofs.Common.{◌≡◌, List, [], ◌∷◌, Option, Some, None, Result, Ok, refl, sym, ap, ◌∙◌}
use Rattle.rule_spec.specs.State.{State}
use Rattle.update_spec.specs.declared.refusal.Refusal.{Refusal}
use Rattle.update_spec.specs.Update.{NewExtension, install, changed}
use Rattle.update_spec.specs.Judge.{judge_update}
use Rattle.update_spec.specs.Entries.{RefusedInstall, changed_unless, install_then, install_all, empty}
use Rattle.run_laws.specs.Laws.{SessionsBeginAtZero, ServedRoundsAreAHistory}
use Rattle.run_laws.proofs.History.{one_history}

pub served_rounds_are_a_history : ServedRoundsAreAHistory
served_rounds_are_a_history = one_history

-- what is installed counts for nothing
unless_counts : (refused : Option Refusal) (now : State) (new : NewExtension) (added : List NewExtension) (state : State) → now.count ≡ 0
    → ((next : State) → next.count ≡ 0 → install_all next added ≡ Ok state → state.count ≡ 0)
    → install_then (changed_unless refused now new) (λ next. install_all next added) ≡ Ok state → state.count ≡ 0
unless_counts None now new added state none later is = later (changed now (install new)) none is
unless_counts (Some refusal) now new added state none later is = cc is

installed_counts : (now : State) (added : List NewExtension) (state : State) → now.count ≡ 0 → install_all now added ≡ Ok state → state.count ≡ 0
installed_counts now [] state none is =
    let same : now ≡ state = let both : ◌≡◌ {A = Result State RefusedInstall} (Ok now) (Ok state) = is in cc both in
    ap (λ (s : State). s.count) (sym same) ∙ none
installed_counts now (new ∷ added) state none is =
    unless_counts (judge_update now (install new)) now new added state none (λ next zero rest. installed_counts next added state zero rest) is

pub sessions_begin_at_zero : SessionsBeginAtZero
sessions_begin_at_zero files session loaded first opens = installed_counts empty loaded.extensions first refl opens.installed

-- Installations before a script count for nothing.
use Rattle.std.proofs.Common.{◌≡◌, List, [], ◌∷◌, Option, Some, None, Result, Ok, refl, ap, sym, ◌∙◌}
use Rattle.generation.specs.Basis.{Basis}
use Rattle.rule_spec.specs.State.{State}
use Rattle.update_spec.specs.Entries.{RefusedInstall, empty, changed_unless, install_then, install_all}
use Rattle.update_spec.specs.Judge.{judge_update}
use Rattle.update_spec.specs.Update.{NewExtension, install, changed}
use Rattle.update_spec.specs.declared.refusal.Refusal.{Refusal}
use Rattle.session_spec.specs.Loading.{Loaded}
use Rattle.dnr_top.specs.Run.{IsOpened}

one_installed : (judged : Option Refusal) (state last : State) (new : NewExtension) (later : State → Result State RefusedInstall)
    → ((next : State) → next.count ≡ state.count → later next ≡ Ok last → last.count ≡ state.count) → install_then (changed_unless judged state new) later ≡ Ok last → last.count ≡ state.count
one_installed None state last new later each is = each (changed state (install new)) refl is
one_installed (Some refusal) state last new later each is = absurd (cc is)

all_installed : (state last : State) (added : List NewExtension) → install_all state added ≡ Ok last → last.count ≡ state.count
all_installed state last [] is = let same : state ≡ last = cc is in ap (λ (s : State). s.count) (sym same)
all_installed state last (new ∷ rest) is =
    one_installed (judge_update state (install new)) state last new (λ next. install_all next rest) (λ next same more. all_installed next last rest more ∙ same) is

pub nothing_counted : (loaded : Loaded) (basis : Basis) → IsOpened loaded basis → basis.state.count ≡ 0
nothing_counted loaded basis opened = all_installed empty basis.state loaded.extensions opened.installed

use Rattle.std.proofs.Common.{refl, subst}
use Rattle.std.specs.Prelude.{IfOk, IfErr}
use Rattle.update_spec.specs.Update as spec
use Rattle.ruleset_store.specs.Seen.{IsMadeIn, IsRefusalOf, judge_in}
use Rattle.ruleset_store.specs.Tests.{install_tests}
use Rattle.ruleset_store.proofs.Rows.{install_rows, made_whole, refused_whole}
use Rattle.ruleset_store.proofs.changes.after_install.Goals as goal

pub returns-in-Ok-clause-made : goal.returns-in-Ok-clause-made
returns-in-Ok-clause-made c =
    let all = c.args.extensions.now in
    let new = c.deref.result.now in
    subst (λ (new : spec.NewExtension). IfOk c.with_installed.result (λ next. IsMadeIn all c.args.count (spec.install new) next.items)) c.deref.ensures
    (made_whole all c.args.count (spec.install new) (install_tests c.args.count new all) (spec.extensions_after (spec.install new) all) c.with_installed.result
    (install_rows all c.args.count new) refl c.with_installed.ensures.judged c.with_installed.ensures.next)

pub returns-in-Ok-clause-refused : goal.returns-in-Ok-clause-refused
returns-in-Ok-clause-refused c =
    let all = c.args.extensions.now in
    let new = c.deref.result.now in
    subst (λ (new : spec.NewExtension). IfErr c.with_installed.result (IsRefusalOf (judge_in all c.args.count (spec.install new)))) c.deref.ensures
    (refused_whole all c.args.count (spec.install new) (install_tests c.args.count new all) c.with_installed.result
    (install_rows all c.args.count new) c.with_installed.ensures.refused)

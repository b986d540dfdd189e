use Rattle.std.proofs.Common.{[], ◌∷◌, refl, sym}
use Rattle.update_spec.specs.Update as spec
use Rattle.ruleset_store.specs.Tests.{count_test}
use Rattle.ruleset_store.proofs.Rows.{uninstall_rows, uninstall_missing, made_whole, refused_whole, refusal_same}
use Rattle.ruleset_store.proofs.changes.after_uninstall.Goals as goal

pub returns-in-Some-clause-made : goal.returns-in-Some-clause-made
returns-in-Some-clause-made c =
    let all = c.args.extensions.now in
    let name = c.args.name.now in
    made_whole all c.args.count (spec.uninstall name) (count_test c.args.count ∷ []) (spec.extensions_after (spec.uninstall name) all) c.uninstalled.result
    (uninstall_rows all c.args.count name _ (sym c.in-Some.ensures)) refl c.uninstalled.ensures.judged c.uninstalled.ensures.next

pub returns-in-Some-clause-refused : goal.returns-in-Some-clause-refused
returns-in-Some-clause-refused c =
    let all = c.args.extensions.now in
    let name = c.args.name.now in
    refused_whole all c.args.count (spec.uninstall name) (count_test c.args.count ∷ []) c.uninstalled.result
    (uninstall_rows all c.args.count name _ (sym c.in-Some.ensures)) c.uninstalled.ensures.refused

pub returns-in-None-clause-refused : goal.returns-in-None-clause-refused
returns-in-None-clause-refused c =
    refusal_same _ _ _ (uninstall_missing c.args.extensions.now c.args.count c.args.name.now (sym c.in-None.ensures)) c.missing.ensures

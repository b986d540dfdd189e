use Rattle.std.proofs.Common.{sym}
use Rattle.update_spec.specs.Update as spec
use Rattle.ruleset_store.specs.Seen.{switched_among}
use Rattle.ruleset_store.specs.Tests.{ruleset_tests}
use Rattle.ruleset_store.proofs.Rows.{switched_rows, switched_is, ruleset_missing, made_whole, refused_whole, refusal_same}
use Rattle.ruleset_store.proofs.changes.after_rulesets.Goals as goal

pub returns-in-Some-clause-made : goal.returns-in-Some-clause-made
returns-in-Some-clause-made c =
    let all = c.args.extensions.now in
    let name = c.args.name.now in
    let disable = c.args.disable.now in
    let enable = c.args.enable.now in
    let e = c.in-Some.extension.now in
    let found = sym c.in-Some.ensures in
    let next = switched_among all name disable enable e in
    made_whole all c.args.count (spec.rulesets name disable enable) (ruleset_tests c.args.count disable enable e next) next c.rulesets_after.result
    (switched_rows all c.args.count name disable enable e found) (switched_is all name disable enable e found) c.rulesets_after.ensures.judged c.rulesets_after.ensures.next

pub returns-in-Some-clause-refused : goal.returns-in-Some-clause-refused
returns-in-Some-clause-refused c =
    let all = c.args.extensions.now in
    let name = c.args.name.now in
    let disable = c.args.disable.now in
    let enable = c.args.enable.now in
    let e = c.in-Some.extension.now in
    let next = switched_among all name disable enable e in
    refused_whole all c.args.count (spec.rulesets name disable enable) (ruleset_tests c.args.count disable enable e next) c.rulesets_after.result
    (switched_rows all c.args.count name disable enable e (sym c.in-Some.ensures)) c.rulesets_after.ensures.refused

pub returns-in-None-clause-refused : goal.returns-in-None-clause-refused
returns-in-None-clause-refused c =
    refusal_same _ _ _ (ruleset_missing c.args.extensions.now c.args.count c.args.name.now c.args.disable.now c.args.enable.now (sym c.in-None.ensures)) c.missing.ensures

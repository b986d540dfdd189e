use Rattle.std.proofs.Common.{refl, sym, ◌<◌}
use Rattle.update_spec.specs.Judge.{max_updates}
use Rattle.update_spec.specs.Update as spec
use Rattle.ruleset_store.specs.Tests.{static_tests}
use Rattle.ruleset_store.proofs.Rows.{static_rows, static_missing, made_of, refused_of, fits_of, refusal_same}
use Rattle.ruleset_store.proofs.changes.after_static.Goals as goal

pub returns-in-Some-clause-made : goal.returns-in-Some-clause-made
returns-in-Some-clause-made c =
    let all = c.args.extensions.now in
    let e = c.in-Some.extension.now in
    let update = spec.static c.args.name.now c.args.set.now c.args.disable.now c.args.enable.now in
    let found = sym c.in-Some.ensures in
    made_of all c.args.count update c.args.name.now (static_tests c.args.count c.args.set.now c.args.disable.now c.args.enable.now e) e (spec.updated update) c.static_after-next.result c.placed.result
    (static_rows all c.args.count c.args.name.now c.args.set.now c.args.disable.now c.args.enable.now e found) refl found c.static_after-next.ensures.judged c.static_after-next.ensures.next c.placed.ensures

pub returns-in-Some-clause-refused : goal.returns-in-Some-clause-refused
returns-in-Some-clause-refused c =
    let all = c.args.extensions.now in
    let e = c.in-Some.extension.now in
    let update = spec.static c.args.name.now c.args.set.now c.args.disable.now c.args.enable.now in
    let found = sym c.in-Some.ensures in
    refused_of all c.args.count update c.args.name.now (static_tests c.args.count c.args.set.now c.args.disable.now c.args.enable.now e) c.static_after-next.result c.placed.result
    (static_rows all c.args.count c.args.name.now c.args.set.now c.args.disable.now c.args.enable.now e found) c.static_after-next.ensures.refused c.placed.ensures

pub returns-in-Some-clause-fits : goal.returns-in-Some-clause-fits
returns-in-Some-clause-fits c =
    fits_of (c.args.count < max_updates) c.args.extensions.now c.args.name.now c.static_after-next.result c.placed.result c.static_after-next.ensures.fits c.placed.ensures

pub returns-in-None-clause-refused : goal.returns-in-None-clause-refused
returns-in-None-clause-refused c =
    refusal_same _ _ _ (static_missing c.args.extensions.now c.args.count c.args.name.now c.args.set.now c.args.disable.now c.args.enable.now (sym c.in-None.ensures)) c.missing.ensures

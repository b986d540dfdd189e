use Rattle.std.proofs.Common.{false}
use Rattle.dnr_io.specs.Files.{held_or_empty}
use Rattle.session_spec.specs.Out.{of_rules, LoadsFor}
use Rattle.engine.proofs.Reading.{not_installed, rules_not_read, told_of}
use Rattle.engine.proofs.opening.load_rules.Goals as goal

pub returns-in-Ok-load_local-clause-refused : goal.returns-in-Ok-load_local-clause-refused
returns-in-Ok-load_local-clause-refused c =
    not_installed c.install.result (held_or_empty c.args.files.items) (of_rules false c.args.rules.now) c.in-Ok-load_local.loaded
    (told_of _ (held_or_empty c.args.files.items) (λ files. LoadsFor files (of_rules false c.args.rules.now) c.in-Ok-load_local.loaded) c.new-shelf.ensures.files c.in-Ok-load_local.ensures.loads)
    c.install.ensures.refused

pub returns-clause-refused : goal.returns-clause-refused
returns-clause-refused c =
    rules_not_read _ (held_or_empty c.args.files.items) c.args.rules.now _ _ c.in-Err.stop c.refusal_of.result c.new-shelf.ensures.files c.in-Ok.ensures c.in-Err.ensures.stops c.refusal_of.ensures

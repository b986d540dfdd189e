use Rattle.dnr_io.specs.Files.{held_or_empty}
use Rattle.session_spec.specs.Loading.{Loads}
use Rattle.session_spec.specs.Out.{of_words}
use Rattle.engine.proofs.Reading.{read_installed, not_installed, serving_not_read, told_of}
use Rattle.engine.proofs.opening.load_all.Goals as goal

pub returns-in-Ok-load_serving-clause-opened : goal.returns-in-Ok-load_serving-clause-opened
returns-in-Ok-load_serving-clause-opened c =
    read_installed c.install.result (held_or_empty c.args.files.items) (of_words c.args.serving.now) c.in-Ok-load_serving.loaded
    (told_of _ (held_or_empty c.args.files.items) (λ files. Loads files c.args.serving.now c.in-Ok-load_serving.loaded) c.new-shelf.ensures.files c.in-Ok-load_serving.ensures.loads)
    c.install.ensures.opened

pub returns-in-Ok-load_serving-clause-refused : goal.returns-in-Ok-load_serving-clause-refused
returns-in-Ok-load_serving-clause-refused c =
    not_installed c.install.result (held_or_empty c.args.files.items) (of_words c.args.serving.now) c.in-Ok-load_serving.loaded
    (told_of _ (held_or_empty c.args.files.items) (λ files. Loads files c.args.serving.now c.in-Ok-load_serving.loaded) c.new-shelf.ensures.files c.in-Ok-load_serving.ensures.loads)
    c.install.ensures.refused

pub returns-clause-refused : goal.returns-clause-refused
returns-clause-refused c =
    serving_not_read _ (held_or_empty c.args.files.items) c.args.serving.now _ _ c.in-Err.stop c.refusal_of.result c.new-shelf.ensures.files c.in-Ok.ensures c.in-Err.ensures.stops c.refusal_of.ensures

use Rattle.engine.proofs.Given.{all_given}
use Rattle.engine.proofs.opening.names_are_given.Goals as goal

pub returns : goal.returns
returns c =
    all_given c.args.files.now c.args.serving.now c.in_ok-installed.installed.items c.suffixes_are_given.result c.lists_are_given.result
    c.suffixes_are_given.ensures c.if-not-suffixes_are_given.false (rw c.deref.ensures.value at c.lists_are_given.ensures) c.in_ok-installed.ensures

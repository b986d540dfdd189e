use Rattle.std.proofs.Common.{rules, ap, ◌∙◌, not}
use Rattle.key_walk.proofs.Repeats.{has_it, with_it}
use Rattle.key_walk.proofs.listed_words.meet.Goals as goal

pub returns-clause-new : goal.returns-clause-new
returns-clause-new c words has =
    c.in_ok-insert.ensures.added ∙ ap not (has_it c.args.met.now words c.args.word.now c.in_ok-key.key has c.in_ok-key.ensures)

pub returns-clause-met : goal.returns-clause-met
returns-clause-met c words has =
    with_it c.args.met.now c.insert.new.self words c.args.word.now c.in_ok-key.key has c.in_ok-key.ensures c.in_ok-insert.ensures.updates

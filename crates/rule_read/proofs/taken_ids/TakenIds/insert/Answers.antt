use Rattle.std.proofs.Common.{true, ◌==◌, ◌||◌, refl, ap, ◌∙◌}
use Rattle.rule_read.specs.Reading.{is_taken}
use Rattle.rule_read.proofs.Ids.{one_more}
use Rattle.rule_read.proofs.taken_ids.TakenIds.insert.Goals as goal

pub returns-clause-taken : goal.returns-clause-taken
returns-clause-taken c = λ other.
    one_more c.self.inside.rising.items c.self.inside.others c.insert.new.self c.args.id other true (c.in_ok-insert.ensures.updates.0 other) refl
    ∙ ap (λ ids. is_taken ids other || c.args.id == other) c.self.view_is

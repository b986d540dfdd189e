use Rattle.std.proofs.Common.{rules}
use Rattle.rule_index.specs.Lists.{AreReordered}
use Rattle.rule_index.proofs.Lists.{listed}
use Rattle.rule_index.proofs.list_draft.ListDraft.finish.Goals as goal

pub returns-clause-listed : goal.returns-clause-listed
returns-clause-listed c all is =
    let kept : AreReordered c.args.self c.of_indexes.result = search rules in
    listed all c.args.self c.of_indexes.result is kept

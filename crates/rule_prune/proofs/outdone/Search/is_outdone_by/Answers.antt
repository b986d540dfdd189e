use Rattle.std.specs.List.{slice_get}
use Rattle.rule_prune.specs.Filters.{one_outdoes}
use Rattle.rule_prune.proofs.Tested.{never_outdone}
use Rattle.rule_prune.proofs.outdone.Search.is_outdone_by.Goals as goal

pub returns : goal.returns
returns c =
    let search = c.args.self.now in
    let rules = search.rules.now in
    never_outdone c.may_be_outdone_by.result (one_outdoes rules (slice_get rules c.args.other) (slice_get rules search.place)) c.may_be_outdone_by.ensures c.if-may_be_outdone_by.false

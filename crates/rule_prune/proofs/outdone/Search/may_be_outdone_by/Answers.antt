use Rattle.std.proofs.Common.{◌∙◌}
use Rattle.rule_prune.specs.Digests.{may_be_same}
use Rattle.rule_prune.proofs.Tested.{may_outdo}
use Rattle.rule_prune.proofs.outdone.Search.may_be_outdone_by.Goals as goal

pub returns : goal.returns
returns c = λ out.
    let search = c.args.self.now in
    c.may_be_same.ensures
    ∙ (λ i. may_be_same (c.digest_at.ensures i) (c.digest_at-2.ensures i))
    ∙ may_outdo search.rules.now search.digests.now c.requires.digests c.args.other search.place out

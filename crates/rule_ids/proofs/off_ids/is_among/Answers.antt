use Rattle.std.proofs.Common.{◌∙◌}
use Rattle.rule_ids.proofs.Ranks.{is_found}
use Rattle.rule_ids.proofs.off_ids.is_among.Goals as goal

pub returns : goal.returns
returns c = c.is_ok.ensures.value ∙ is_found c.args.rising.now c.args.id c.binary_search.result c.binary_search.ensures.position c.requires

use Rattle.std.proofs.Common.{◌∙◌}
use Rattle.manifest_read.proofs.Ids.{text_among}
use Rattle.manifest_read.proofs.resource.has_id.Goals as goal

pub returns : goal.returns
returns c = c.contains.ensures ∙ text_among c.args.taken.now c.args.id.now

use Rattle.std.proofs.Common.{◌∙◌}
use Rattle.abp_compile.proofs.groups.Groups.find.Goals as goal

pub returns : goal.returns
returns c = c.copied.ensures ∙ c.get.ensures.value ∙ c.requires c.args.key.now

use Rattle.std.proofs.Common.{◌∙◌}
use Rattle.generation.proofs.PlainRules.{extension_told}
use Rattle.generation.proofs.plain_rules.extension_is_plain.Goals as goal

pub returns : goal.returns
returns c = c.parts_are_plain.ensures ∙ extension_told c.args.extension.now

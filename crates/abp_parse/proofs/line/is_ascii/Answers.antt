use Rattle.abp_parse.proofs.Ascii.{told_ascii}
use Rattle.abp_parse.proofs.line.is_ascii.Goals as goal

pub returns-clause-value : goal.returns-clause-value
returns-clause-value c = told_ascii c.args.text.now c.is_ascii.result c.is_ascii.ensures.cases

use Rattle.regex_host.proofs.Prefilters.{nowhere_at_all}
use Rattle.regex_host.proofs.prefilter.lacks.Goals as goal

pub returns-in-None : goal.returns-in-None
returns-in-None c = nowhere_at_all c.args.text.now c.args.finder.now c.in-None.ensures

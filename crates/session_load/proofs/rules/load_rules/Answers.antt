use Rattle.dnr_base.specs.Faults.{Rose}
use Rattle.session_load.proofs.Read.{bad_rules}
use Rattle.session_load.proofs.rules.load_rules.Goals as goal

pub returns-in-Err-BadFile-clause-stops : goal.returns-in-Err-BadFile-clause-stops
returns-in-Err-BadFile-clause-stops g c =
    bad_rules (g.F.Source.files c.args.shelf.now) (Rose (g.H.RegexHost.faults c.args.host.now) (g.H.RegexHost.faults c.load_rules.new.host))
    c.args.kind c.args.name.now c.in-Err-BadFile.field-0 c.in-Err-BadFile.refusal c.refused.result c.in-Err-BadFile.field-0-is c.in-Err-BadFile.ensures.refused c.refused.ensures

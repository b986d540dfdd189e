use Rattle.serde_json.specs.View.{view}
use Rattle.dnr_base.specs.Faults.{Rose}
use Rattle.rule_read.proofs.ReadLists.{refused_alone}
use Rattle.rule_read.proofs.rules.read_rule.Goals as goal

pub returns-clause-refused : goal.returns-clause-refused
returns-clause-refused g c =
    let rose : Type 0 = Rose (g.H.RegexHost.faults c.args.host.now) (g.H.RegexHost.faults c.read_among.new.host) in
    refused_alone c.args.kind (view c.args.value.now) c.new-taken.result rose c.read_among.result c.new-taken.ensures c.read_among.ensures.refused

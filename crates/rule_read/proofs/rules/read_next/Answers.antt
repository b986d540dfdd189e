use Rattle.std.proofs.Common.{◌≡◌, length, vec_len, ap, ◌∙◌, arith}
use Rattle.serde_json.specs.View.{view}
use Rattle.dnr_base.specs.Faults.{Rose}
use Rattle.json_spec.specs.ReadRule.{placed}
use Rattle.rule_read.proofs.ReadLists.{stops_at}
use Rattle.rule_read.proofs.rules.read_next.Goals as goal

pub returns-in-Err-clause-refused : goal.returns-in-Err-clause-refused
returns-in-Err-clause-refused g c =
    let d = view c.args.value.now in
    let rose : Type 0 = Rose (g.H.RegexHost.faults c.args.host.now) (g.H.RegexHost.faults c.read_among.new.host) in
    let cause = c.in-Err.cause in
    let rules = c.args.rules.now in
    let count : vec_len rules ≡ length rules.items = omega (arith, rules.ok.0) in
    stops_at c.args.kind d c.args.taken.now c.args.rules.now.items rose cause c.placed.result c.requires c.in-Err.ensures.refused
    (c.placed.ensures ∙ ap (λ place. placed place d cause) (c.len.ensures ∙ count))

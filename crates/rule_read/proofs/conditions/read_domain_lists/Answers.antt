use Rattle.json_spec.specs.MayRefuse.{IsRefused}
use Rattle.json_spec.specs.ReadRule.{domain_lists_in}
use Rattle.rule_fields.specs.Seen.{fields_seen}
use Rattle.rule_read.proofs.Chains.{last_list_refused, handed_on}
use Rattle.rule_read.proofs.conditions.read_domain_lists.Goals as goal

pub returns-in_err-not_hosts-clause-refused : goal.returns-in_err-not_hosts-clause-refused
returns-in_err-not_hosts-clause-refused c =
    let f = fields_seen c.args.fields.now in
    let refusal = c.in_err-not_hosts.field-0.0 in
    handed_on _ refusal (IsRefused (domain_lists_in f)) c.from_residual-in_err-not_hosts.ensures.1
    (last_list_refused f _ _ _ _ _ refusal c.in_ok-initiators.ensures.ok c.in_ok-not_initiators.ensures.ok c.in_ok-old_initiators.ensures.ok
    c.in_ok-old_not_initiators.ensures.ok c.in_ok-hosts.ensures.ok c.in_err-not_hosts.ensures.refused)

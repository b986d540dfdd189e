use Rattle.rule_parts.proofs.RuleKept.{kept_reads}
use Rattle.rule_parts.proofs.next_rule.Goals as goal

pub returns-clause-read : goal.returns-clause-read
returns-clause-read c = kept_reads c.args.depth c.args.reader.now c.next_shaped.new.reader c.next_shaped.result c.next_shaped.ensures.ok

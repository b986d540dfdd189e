use Rattle.std.proofs.Common.{rules, ◌≡◌, refl}
use Rattle.verdict_shown.proofs.Learns.{written_so}
use Rattle.verdict_shown.proofs.showing.put_verdict.Goals as goal

pub returns-clause-written : goal.returns-clause-written
returns-clause-written c =
    written_so c.args.generation c.args.verdict.now c.args.changes c.put_rule_if.new.into.items c.put_target.new.into.items _
    (search rules) (search rules) (search rules) (search rules) (search rules) refl (search rules) (search rules) refl

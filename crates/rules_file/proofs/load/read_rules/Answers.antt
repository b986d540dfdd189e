use Rattle.rules_file.proofs.load.read_rules.Goals as goal

pub returns-in-Ok-clause-read : goal.returns-in-Ok-clause-read
returns-in-Ok-clause-read g c = (c.args.bytes.now, c.in-Ok.ensures.ok)

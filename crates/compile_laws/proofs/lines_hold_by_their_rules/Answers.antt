use Rattle.compile_laws.proofs.Origins as proof
use Rattle.compile_laws.proofs.lines_hold_by_their_rules.Goals as goal

pub returns : goal.returns
returns c = proof.lines_hold_by_their_rules

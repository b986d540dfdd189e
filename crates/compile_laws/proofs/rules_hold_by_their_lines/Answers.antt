use Rattle.compile_laws.proofs.Origins as proof
use Rattle.compile_laws.proofs.rules_hold_by_their_lines.Goals as goal

pub returns : goal.returns
returns c = proof.rules_hold_by_their_lines

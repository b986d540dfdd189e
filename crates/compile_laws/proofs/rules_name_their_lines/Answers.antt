use Rattle.compile_laws.proofs.Origins as proof
use Rattle.compile_laws.proofs.rules_name_their_lines.Goals as goal

pub returns : goal.returns
returns c = proof.rules_name_their_lines

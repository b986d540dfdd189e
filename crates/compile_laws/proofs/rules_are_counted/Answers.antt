use Rattle.compile_laws.proofs.Reports as proof
use Rattle.compile_laws.proofs.rules_are_counted.Goals as goal

pub returns : goal.returns
returns c = proof.rules_are_counted

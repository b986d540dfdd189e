use Rattle.compile_laws.proofs.Rules as proof
use Rattle.compile_laws.proofs.groups_give_rules.Goals as goal

pub returns : goal.returns
returns c = proof.groups_give_rules

use Rattle.rule_laws.proofs.ReadRules as proof
use Rattle.rule_laws.proofs.rules_keep_their_form.Goals as goal

-- src/lib.rt:7:1
pub returns : goal.returns
returns c = proof.rules_keep_their_form

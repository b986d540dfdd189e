use Rattle.compile_laws.proofs.Reports as proof
use Rattle.compile_laws.proofs.report_is_whole.Goals as goal

pub returns : goal.returns
returns c = proof.report_is_whole

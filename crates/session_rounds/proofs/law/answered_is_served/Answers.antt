use Rattle.session_rounds.proofs.Read.{round_served}
use Rattle.session_rounds.proofs.law.answered_is_served.Goals as goal

pub returns : goal.returns
returns c = round_served

use denote.Param.Send.{sendable}
use Rattle.dnr_top.proofs.Asked.{all_may_be_asked}
use Rattle.regex_host.proofs.SentHosts.{PackHost-send}
use Rattle.dnr.proofs.main.Goals as goal

pub run-requires-send-H : goal.run-requires-send-H
run-requires-send-H g c κs = search (PackHost-send, sendable)

pub run-requires-clause-names : goal.run-requires-clause-names
run-requires-clause-names g c κs = all_may_be_asked _ _ _ (λ name. tt)

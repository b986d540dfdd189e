use denote.Param.Send.{sendable}
use Rattle.std.proofs.Crossing
use Rattle.std.proofs.MapsCrossing
use Rattle.dnr_top.proofs.Asked.{all_may_be_asked}
use Rattle.regex_host.proofs.SentHosts.{PackHost-send}
use Rattle.session_tests.proofs.gates.written.Goals as goal

pub run-status-requires-send-H : goal.run-status-requires-send-H
run-status-requires-send-H g c κs = search (PackHost-send, MapsCrossing.crosses, Crossing.crosses, sendable) depth 60 fits 20000

pub run-status-requires-clause-names : goal.run-status-requires-clause-names
run-status-requires-clause-names g c κs within = all_may_be_asked _ _ _ (λ name. tt)

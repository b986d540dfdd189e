use denote.Param.Send.{sendable}
use Rattle.regex_host.proofs.SentHosts.{PackHost-send}
use Rattle.regex_host.proofs.sent.pack_hosts_are_sent.Goals as goal

pub is_sent-requires-send-T : goal.is_sent-requires-send-T
is_sent-requires-send-T c κs = search (PackHost-send, sendable)

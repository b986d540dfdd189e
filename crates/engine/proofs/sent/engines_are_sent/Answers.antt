use denote.Param.Send.{sendable}
use Rattle.engine.proofs.SentEngines.{Engine-send}
use Rattle.engine.proofs.sent.engines_are_sent.Goals as goal

pub is_sent-requires-send-T : goal.is_sent-requires-send-T
is_sent-requires-send-T c κs = search (Engine-send, sendable)

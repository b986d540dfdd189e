use Rattle.std.proofs.Common.{◌≡◌, ◌+◌, drop}
use Rattle.rule_spec.specs.Reaches.{first_frame}
use Rattle.rule_match.specs.Tested.{frames_tested}
use Rattle.rule_match.proofs.prepared_request.PreparedRequest.first_frame.Given as goal

abbrev pub invariant-loop-place : goal.invariant-loop-place
invariant-loop-place g l = record {
  found : first_frame l.self.suffixes l.rule l.self.request 0 l.self.request.frames
      ≡ first_frame l.self.suffixes l.rule l.self.request l.place (drop l.place l.self.request.frames);
  counted : l.steps + frames_tested l.self.suffixes l.rule l.self.request l.place (drop l.place l.self.request.frames)
      ≡ l.fn.steps + frames_tested l.self.suffixes l.rule l.self.request 0 l.self.request.frames;
  calm : g.H.RegexHost.faults l.host ≡ g.H.RegexHost.faults l.fn.host;
}

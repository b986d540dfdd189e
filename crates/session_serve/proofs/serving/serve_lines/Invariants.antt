use Rattle.std.proofs.Common.{◌≡◌, ◌∷◌, ◌-◌, ◌≤◌, length, map, is_some}
use Rattle.std.specs.Io.KnownBytes.{IsAtEnd}
use Rattle.std.specs.Prelude.{IsTrue, IsFalse}
use Rattle.dnr_io.specs.Lines.{ahead, AreEnded}
use Rattle.dnr_spec.specs.Lines.{max_lines}
use Rattle.session_laws.specs.Turns.{NoneFell}
use Rattle.session_serve.specs.Round.{setting_with}
use Rattle.session_serve.proofs.SoFar.{SoFar}
use Rattle.session_serve.proofs.serving.serve_lines.Given as goal

abbrev pub invariant-loop-round : goal.invariant-loop-round
invariant-loop-round g l = record {
  so_far : SoFar (setting_with l.fn.session (length l.fn.finders)) l.fn.session.state (g.O.Sink.taken l.fn.out) (g.O.Sink.taken l.out)
      (g.H.RegexHost.faults l.fn.checker ∷ map g.H.RegexHost.faults l.fn.finders) (g.H.RegexHost.faults l.checker ∷ map g.H.RegexHost.faults l.finders)
      (g.S.Source.left l.fn.source) (ahead l.lines (g.S.Source.left l.source)) l.lines.count l.round l.session.state;
  suffixes : l.session.suffixes ≡ l.fn.session.suffixes;
  updates : l.session.updates ≡ l.fn.session.updates;
  follows : l.session.follows ≡ l.fn.session.follows;
  seats : length l.finders ≡ length l.fn.finders;
  here : l.number ≡ l.lines.count;
  few : l.lines.count ≤ max_lines;
  ended : IsFalse l.lines.live → IsAtEnd (ahead l.lines (g.S.Source.left l.source));
  lf : IsTrue l.lines.live → AreEnded (g.S.Source.left l.fn.source) (ahead l.lines (g.S.Source.left l.source));
  fell : NoneFell (g.H.RegexHost.faults l.fn.checker ∷ map g.H.RegexHost.faults l.fn.finders) (g.H.RegexHost.faults l.checker ∷ map g.H.RegexHost.faults l.finders);
  told : is_some (g.S.Source.left l.source) ≡ is_some (g.S.Source.left l.fn.source);
  starts : g.S.Source.starts l.source ≡ g.S.Source.starts l.fn.source;
  read : g.S.Source.faults l.fn.source ≤ g.S.Source.faults l.source;
  wrote : g.O.Sink.faults l.fn.out ≤ g.O.Sink.faults l.out;
}

abbrev pub decreases-loop-round : goal.decreases-loop-round
decreases-loop-round g l = max_lines - l.lines.count

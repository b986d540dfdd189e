use Rattle.std.proofs.Common.{◌≡◌, ◌-◌, ◌≤◌}
use Rattle.std.specs.Io.KnownBytes.{IsAtEnd}
use Rattle.std.specs.Prelude.{IsTrue, IsFalse}
use Rattle.dnr_io.specs.Lines.{ahead}
use Rattle.dnr_spec.specs.Lines.{max_lines}
use Rattle.keep_spec.specs.Agrees.{Agrees, Sound}
use Rattle.keep_run.proofs.Answered.{SoFar}
use Rattle.keep_run.proofs.lines.answer_lines.Given as goal

abbrev pub invariant-loop-memo : goal.invariant-loop-memo
invariant-loop-memo g l = record {
  so_far : SoFar l.fn.keep (g.O.Sink.taken l.fn.out) (g.O.Sink.taken l.out) (g.H.RegexHost.faults l.fn.host) (g.H.RegexHost.faults l.host)
      (g.S.Source.left l.fn.source) (ahead l.lines (g.S.Source.left l.source)) l.lines.count l.keep;
  agrees : IsTrue (g.D.Disk.tells l.disk) → Agrees (g.D.Disk.images l.disk) l.keep;
  kept_live : IsTrue l.keep.live;
  name : l.keep.name ≡ l.fn.keep.name;
  here : l.number ≡ l.lines.count;
  few : l.lines.count ≤ max_lines;
  ended : IsFalse l.lines.live → IsAtEnd (ahead l.lines (g.S.Source.left l.source));
  later : g.H.RegexHost.faults l.fn.host ≤ g.H.RegexHost.faults l.host;
  sound : IsTrue (g.D.Disk.tells l.fn.disk) → Sound l.fn.keep.name (g.D.Disk.images l.fn.disk) → Sound l.fn.keep.name (g.D.Disk.images l.disk);
  tells : g.D.Disk.tells l.disk ≡ g.D.Disk.tells l.fn.disk;
  read : g.S.Source.faults l.fn.source ≤ g.S.Source.faults l.source;
  wrote : g.O.Sink.faults l.fn.out ≤ g.O.Sink.faults l.out;
  broke : g.D.Disk.faults l.fn.disk ≤ g.D.Disk.faults l.disk;
}

abbrev pub decreases-loop-memo : goal.decreases-loop-memo
decreases-loop-memo g l = max_lines - l.lines.count

use Rattle.std.proofs.Common.{◌≡◌, ◌-◌, ◌≤◌, length, map, is_some}
use Rattle.std.specs.Prelude.{IsFalse}
use Rattle.std.specs.Io.KnownBytes.{IsAtEnd}
use Rattle.dnr_spec.specs.Lines.{max_lines}
use Rattle.dnr_io.specs.Lines.{ahead}
use Rattle.dnr_io.proofs.ReadSoFar.{ReadSoFar}
use Rattle.dnr_io.proofs.all_lines.read_lines.Given as goal

abbrev pub invariant-loop-all : goal.invariant-loop-all
invariant-loop-all g l = record {
  read : ReadSoFar (g.S.Source.left l.fn.source) (ahead l.lines (g.S.Source.left l.source)) (map (λ line. line.items) l.all.items) l.lines.count;
  counted : length l.all.items ≡ l.lines.count;
  few : l.lines.count ≤ max_lines;
  ended : IsFalse l.lines.live → IsAtEnd (ahead l.lines (g.S.Source.left l.source));
  told : is_some (g.S.Source.left l.source) ≡ is_some (g.S.Source.left l.fn.source);
  files : g.S.Source.files l.source ≡ g.S.Source.files l.fn.source;
  starts : g.S.Source.starts l.source ≡ g.S.Source.starts l.fn.source;
  later : g.S.Source.faults l.fn.source ≤ g.S.Source.faults l.source;
}

abbrev pub decreases-loop-all : goal.decreases-loop-all
decreases-loop-all g l = max_lines - l.lines.count

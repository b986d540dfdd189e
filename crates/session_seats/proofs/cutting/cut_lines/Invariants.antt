use Rattle.std.proofs.Common.{◌≡◌, ◌+◌, ◌-◌, ◌<◌, ◌≤◌, true, false, length, is_some}
use Rattle.std.specs.Prelude.{IsTrue, IsFalse}
use Rattle.std.specs.Io.KnownBytes.{IsAtEnd}
use Rattle.dnr_io.specs.Lines.{ahead, AreEnded}
use Rattle.dnr_spec.specs.Lines.{max_lines}
use Rattle.session_seats.specs.Cutting.{AreCut, AreNoSync, CutsLines}
use Rattle.session_seats.proofs.cutting.cut_lines.Given as goal

abbrev pub invariant-loop-going : goal.invariant-loop-going
invariant-loop-going g l = record {
  cuts : CutsLines (ahead l.fn.lines (g.S.Source.left l.fn.source)) l.fn.cut.items l.cut.items (λ behind. behind ≡ ahead l.lines (g.S.Source.left l.source));
  are : AreCut l.lines.count l.cut.items;
  counted : l.lines.count + length l.fn.cut.items ≡ l.fn.lines.count + length l.cut.items;
  ended : IsFalse l.lines.live → IsAtEnd (ahead l.lines (g.S.Source.left l.source));
  lf : IsTrue l.lines.live → AreEnded (ahead l.fn.lines (g.S.Source.left l.fn.source)) (ahead l.lines (g.S.Source.left l.source));
  none : l.going ≡ true → AreNoSync l.cut.items;
  some : l.going ≡ false → 0 < length l.cut.items;
  told : is_some (g.S.Source.left l.source) ≡ is_some (g.S.Source.left l.fn.source);
  files : g.S.Source.files l.source ≡ g.S.Source.files l.fn.source;
  starts : g.S.Source.starts l.source ≡ g.S.Source.starts l.fn.source;
  read : g.S.Source.faults l.fn.source ≤ g.S.Source.faults l.source;
}

abbrev pub decreases-loop-going : goal.decreases-loop-going
decreases-loop-going g l = max_lines - l.lines.count

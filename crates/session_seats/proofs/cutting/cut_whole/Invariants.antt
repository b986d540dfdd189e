use Rattle.std.proofs.Common.{◌≡◌, ◌+◌, ◌-◌, true, length, List, ℕ, Option}
use Rattle.dnr_io.specs.Lines.{ahead, AreEnded}
use Rattle.dnr_spec.specs.Lines.{max_lines}
use Rattle.session_seats.specs.Cutting.{AreCut, AreNoSync, CutsLines}
use Rattle.session_seats.proofs.cutting.cut_whole.Given as goal

abbrev pub invariant-loop-going : goal.invariant-loop-going
invariant-loop-going l = record {
  cuts : (left : Option (List ℕ)) → CutsLines (ahead l.fn.lines left) l.fn.cut.items l.cut.items (λ behind. behind ≡ ahead l.lines left);
  are : AreCut l.lines.count l.cut.items;
  counted : l.lines.count + length l.fn.cut.items ≡ l.fn.lines.count + length l.cut.items;
  lf : (left : Option (List ℕ)) → AreEnded (ahead l.fn.lines left) (ahead l.lines left);
  none : l.going ≡ true → AreNoSync l.cut.items;
  live : l.lines.live ≡ l.fn.lines.live;
}

abbrev pub decreases-loop-going : goal.decreases-loop-going
decreases-loop-going l = max_lines - l.lines.count

use Rattle.std.proofs.Common.{◌≡◌, ◌+◌, ◌-◌, ◌<◌, ◌≤◌, length, is_some}
use Rattle.std.specs.Io.KnownBytes.{Consumes, prepend_known}
use Rattle.dnr_spec.specs.Lines.{max_line}
use Rattle.dnr_io.specs.Ahead.{HasNoLf}
use Rattle.dnr_io.proofs.lines.take_raw_line.Given as goal

abbrev pub invariant-loop-ahead : goal.invariant-loop-ahead
invariant-loop-ahead g l = record {
  taken : Consumes (prepend_known l.fn.ahead (g.S.Source.left l.fn.source)) (prepend_known l.ahead (g.S.Source.left l.source)) l.line.items;
  plain : HasNoLf l.line.items;
  some : 0 < length l.ahead + length l.line.items;
  within : length l.line.items ≤ max_line;
  told : is_some (g.S.Source.left l.source) ≡ is_some (g.S.Source.left l.fn.source);
  files : g.S.Source.files l.source ≡ g.S.Source.files l.fn.source;
  starts : g.S.Source.starts l.source ≡ g.S.Source.starts l.fn.source;
  later : g.S.Source.faults l.fn.source ≤ g.S.Source.faults l.source;
}

abbrev pub decreases-loop-ahead : goal.decreases-loop-ahead
decreases-loop-ahead g l = max_line - length l.line.items

use Rattle.std.proofs.Common.{◌≡◌, ◌≤◌}
use Rattle.session_load.proofs.Read.{AreLoadedSoFar}
use Rattle.session_load.proofs.serving.load_extensions.Given as goal

abbrev pub invariant-loop-one : goal.invariant-loop-one
invariant-loop-one g l = record {
  so_far : AreLoadedSoFar (g.F.Source.files l.initial.shelf) l.installed l.all.items l.one-index;
  files : g.F.Source.files l.shelf ≡ g.F.Source.files l.initial.shelf;
  left : g.F.Source.left l.shelf ≡ g.F.Source.left l.initial.shelf;
  starts : g.F.Source.starts l.shelf ≡ g.F.Source.starts l.initial.shelf;
  read : g.F.Source.faults l.initial.shelf ≤ g.F.Source.faults l.shelf;
  later : g.H.RegexHost.faults l.initial.host ≤ g.H.RegexHost.faults l.host;
}

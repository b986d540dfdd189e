use Rattle.std.proofs.Common.{◌≡◌, ◌≤◌}
use Rattle.manifest_read.proofs.Sets.{AreReadSoFar}
use Rattle.manifest_read.proofs.extension.read_sets.Given as goal

abbrev pub invariant-loop-resource : goal.invariant-loop-resource
invariant-loop-resource g l = record {
  so_far : AreReadSoFar (g.F.Source.files l.initial.shelf) l.name l.resources l.sets.items l.resource-index;
  files : g.F.Source.files l.shelf ≡ g.F.Source.files l.initial.shelf;
  left : g.F.Source.left l.shelf ≡ g.F.Source.left l.initial.shelf;
  starts : g.F.Source.starts l.shelf ≡ g.F.Source.starts l.initial.shelf;
  read : g.F.Source.faults l.initial.shelf ≤ g.F.Source.faults l.shelf;
  later : g.H.RegexHost.faults l.initial.host ≤ g.H.RegexHost.faults l.host;
}

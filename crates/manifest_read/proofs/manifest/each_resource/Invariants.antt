use Rattle.manifest_read.specs.Reading.{Taken}
use Rattle.manifest_read.proofs.Resources.{AreReadSoFar}
use Rattle.manifest_read.proofs.manifest.each_resource.Given as goal

abbrev pub invariant-loop-value : goal.invariant-loop-value
invariant-loop-value l = record {
  taken : Taken l.taken l.resources.items;
  so_far : AreReadSoFar l.values l.resources.items l.value-index;
}

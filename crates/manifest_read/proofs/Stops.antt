-- A part at fault is a fault of the whole.
use Rattle.std.proofs.Common.{Result, ap}
use Rattle.load_spec.specs.declared.manifest_path.ManifestPath.{ManifestPath}
use Rattle.load_spec.specs.Manifest.{and_then}
use Rattle.manifest_read.specs.declared.fault.Fault.{Fault}
use Rattle.manifest_read.specs.declared.fault.Fault.TheVariants.{BadJson, At, NoMemory}
use Rattle.manifest_read.specs.Reading.{IsFaultOf}

pub stops_there : {X Y : Type 0} (part : Result X ManifestPath) (go_on : X → Result Y ManifestPath) (fault : Fault) → IsFaultOf part fault → IsFaultOf (and_then part go_on) fault
stops_there part go_on BadJson h = h
stops_there part go_on (At field) h = ap (λ p. and_then p go_on) h
stops_there part go_on NoMemory h = h

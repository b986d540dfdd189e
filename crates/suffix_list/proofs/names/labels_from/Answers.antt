use Rattle.std.proofs.Common.{arith}
use Rattle.dnr_spec.specs.Hosts.{labels_of}
use Rattle.suffix_list.proofs.Cuts.{labels_from_is}
use Rattle.suffix_list.proofs.names.labels_from.Goals as goal

pub returns : goal.returns
returns c =
    labels_from_is c.args.suffix c.loop-left.left c.loop-left.rest.now (labels_of c.args.name.now)
    c.loop-left.invariant.1 c.loop-left.invariant.2 (omega arith) c.loop-left.invariant.3 c.loop-left.invariant.4

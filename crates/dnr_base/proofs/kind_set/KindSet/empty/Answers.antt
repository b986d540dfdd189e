use Rattle.std.proofs.Common.{refl}
use Rattle.dnr_base.specs.KindSet.{kinds_of}
use Rattle.dnr_base.proofs.kind_set.KindSet.empty.Goals as goal

pub returns : goal.returns
unfolding kinds_of
returns c = refl

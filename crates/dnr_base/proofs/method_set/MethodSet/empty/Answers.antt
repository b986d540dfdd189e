use Rattle.std.proofs.Common.{refl}
use Rattle.dnr_base.specs.MethodSet.{methods_of}
use Rattle.dnr_base.proofs.method_set.MethodSet.empty.Goals as goal

pub returns : goal.returns
unfolding methods_of
returns c = refl

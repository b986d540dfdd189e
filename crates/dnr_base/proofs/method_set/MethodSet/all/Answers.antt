use Rattle.std.proofs.Common.{refl}
use Rattle.dnr_base.specs.MethodSet.{methods_of}
use Rattle.dnr_base.proofs.MethodSets.{has_method-all_methods}
use Rattle.dnr_base.proofs.method_set.MethodSet.all.Goals as goal

pub returns-clause-list : goal.returns-clause-list
unfolding methods_of
returns-clause-list c = refl

pub returns-clause-members : goal.returns-clause-members
unfolding methods_of
returns-clause-members c = has_method-all_methods

use Rattle.std.proofs.Common.{refl}
use Rattle.dnr_base.specs.KindSet.{kinds_of}
use Rattle.dnr_base.proofs.KindSets.{has_kind-all_kinds}
use Rattle.dnr_base.proofs.kind_set.KindSet.all.Goals as goal

pub returns-clause-list : goal.returns-clause-list
unfolding kinds_of
returns-clause-list c = refl

pub returns-clause-members : goal.returns-clause-members
unfolding kinds_of
returns-clause-members c = has_kind-all_kinds

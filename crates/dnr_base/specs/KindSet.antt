-- The types that a `KindSet` holds.
use Rattle.std.specs.Prelude.{List}
use Rattle.dnr_base.specs.declared.kind.Kind.{Kind}
use Rattle.dnr_base.specs.Kind.{all_kinds, place_of}
use Rattle.dnr_base.specs.BitSet.{members_of}
use Rattle.dnr_base.specs.declared.kind_set.KindSet.{KindSet}

unfoldable pub kinds_of : KindSet → List Kind
kinds_of set = members_of place_of all_kinds set.bits

-- The methods that a `MethodSet` holds.
use Rattle.std.specs.Prelude.{List}
use Rattle.dnr_base.specs.declared.method.Method.{Method}
use Rattle.dnr_base.specs.Method.{all_methods, place_of}
use Rattle.dnr_base.specs.BitSet.{members_of}
use Rattle.dnr_base.specs.declared.method_set.MethodSet.{MethodSet}

unfoldable pub methods_of : MethodSet → List Method
methods_of set = members_of place_of all_methods set.bits

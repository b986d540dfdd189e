use Rattle.std.proofs.Common.{◌≡◌, filter, take}
use Rattle.dnr_base.specs.Method.{has_method}
use Rattle.dnr_base.specs.MethodSet.{methods_of}
use Rattle.rule_write.proofs.sets.methods_among.Given as goal

abbrev pub invariant-loop-method : goal.invariant-loop-method
invariant-loop-method l = l.list.items ≡ filter (has_method (methods_of l.methods)) (take l.method-index l.these)

use Rattle.std.proofs.Common.{take}
use Rattle.dnr_base.specs.Method.{all_methods, place_of}
use Rattle.dnr_base.specs.MethodSet.{methods_of}
use Rattle.rule_fields.proofs.Sets.{IsSetOf}
use Rattle.rule_fields.proofs.forms.method_set.Given as goal

abbrev pub invariant-loop-method : goal.invariant-loop-method
invariant-loop-method l = IsSetOf place_of all_methods (methods_of l.set) (take l.method-index l.methods)

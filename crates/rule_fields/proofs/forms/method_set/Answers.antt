use Rattle.std.proofs.lemmas.List.{get_or_default}
use Rattle.dnr_base.specs.Method.{all_methods, place_of}
use Rattle.dnr_base.specs.MethodSet.{methods_of}
use Rattle.rule_fields.proofs.Sets.{set_more, set_done}
use Rattle.rule_fields.proofs.forms.method_set.Goals as goal

pub loop-method-preserved : goal.loop-method-preserved
loop-method-preserved c =
    let l = c.loop-method in
    let list = c.args.methods.now in
    set_more place_of all_methods (methods_of l.set) (methods_of c.insert.new.self) list l.method-index _ c.loop-method-test.true (get_or_default list l.method-index _ _ c.loop-method-test.true)
    l.invariant c.insert.ensures.members c.insert.ensures.list

pub returns : goal.returns
returns c = set_done place_of all_methods (methods_of c.loop-method.set) c.args.methods.now c.loop-method.method-index c.loop-method-test.false c.loop-method.invariant

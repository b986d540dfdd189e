use Rattle.std.proofs.lemmas.List.{get_or_default}
use Rattle.dnr_base.specs.Kind.{all_kinds, place_of}
use Rattle.dnr_base.specs.KindSet.{kinds_of}
use Rattle.rule_fields.proofs.Sets.{set_more, set_done}
use Rattle.rule_fields.proofs.forms.kind_set.Goals as goal

pub loop-kind-preserved : goal.loop-kind-preserved
loop-kind-preserved c =
    let l = c.loop-kind in
    let list = c.args.kinds.now in
    set_more place_of all_kinds (kinds_of l.set) (kinds_of c.insert.new.self) list l.kind-index _ c.loop-kind-test.true (get_or_default list l.kind-index _ _ c.loop-kind-test.true)
    l.invariant c.insert.ensures.members c.insert.ensures.list

pub returns : goal.returns
returns c = set_done place_of all_kinds (kinds_of c.loop-kind.set) c.args.kinds.now c.loop-kind.kind-index c.loop-kind-test.false c.loop-kind.invariant

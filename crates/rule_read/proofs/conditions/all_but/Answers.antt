use Rattle.std.proofs.Common.{sym, ◌∙◌, get_or}
use Rattle.std.proofs.lemmas.List.{get_or_default}
use Rattle.dnr_base.specs.declared.kind.Kind.TheVariants.{MainFrame}
use Rattle.dnr_base.specs.Kind.{all_kinds}
use Rattle.dnr_base.specs.KindSet.{kinds_of}
use Rattle.rule_read.proofs.TypeSets.{all_removed, all_kept}
use Rattle.rule_read.proofs.conditions.all_but.Goals.{then-contains, else-contains}
use Rattle.rule_read.proofs.conditions.all_but.Goals as goal

pub loop-kind-preserved : goal.loop-kind-preserved
loop-kind-preserved c =
    let i = c.loop-kind.kind-index in
    let kind = get_or all_kinds i MainFrame in
    let is = get_or_default all_kinds i MainFrame kind c.loop-kind-test.true in
    let excluded = kinds_of c.args.excluded in
    let kinds = kinds_of c.loop-kind.kinds in
    elim c.if-contains.branch [
      | then-contains w ↦
          rw w.kinds-is (all_removed kinds _ all_kinds excluded i kind c.loop-kind-test.true is (sym c.contains.ensures ∙ w.if-contains.true) c.loop-kind.invariant w.remove.ensures.members w.remove.ensures.list)
      | else-contains w ↦
          rw w.kinds-is (all_kept kinds all_kinds excluded i kind c.loop-kind-test.true is (sym c.contains.ensures ∙ w.if-contains.false) c.loop-kind.invariant)
    ]

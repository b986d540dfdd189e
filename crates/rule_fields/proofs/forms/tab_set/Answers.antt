use Rattle.std.proofs.Common.{◌≡◌, ◌∙◌, ◌+◌, sym, ap, subst, take, ℤ, pos, get_or, to_z, of_z, w32, Vec, Global, arith}
use Rattle.std.specs.BTreeSet.{IsUnchanged}
use Rattle.std.proofs.lemmas.Int.{to_z-of_z, ints}
use Rattle.rule_fields.proofs.Tabs.{IsTabSet, tab_is_new, tab_is_old}
use Rattle.rule_fields.proofs.forms.tab_set.Goals as goal
use Rattle.rule_fields.proofs.forms.tab_set.Goals.{then-branch+in_ok-push, else-branch}

pub loop-tab-preserved : goal.loop-tab-preserved
loop-tab-preserved c =
    let l = c.loop-tab in
    let list = c.args.tabs.now in
    let tab = to_z w32 (of_z w32 (get_or list l.tab-index (pos 0))) in
    let is : tab ≡ get_or list l.tab-index (pos 0) = grind (arith, ints, to_z-of_z) in
    let added = c.in_ok-insert.ensures.added in
    let end = λ (v : Vec ℤ Global). IsTabSet c.insert.new.self v.items (take (l.tab-index + 1) list) in
    elim c.if-branch.branch [
      | then-branch+in_ok-push w ↦ tab_is_new l.seen c.insert.new.self l.set.items c.if-branch.set.items list l.tab-index tab c.loop-tab-test.true is l.invariant (sym w.if-branch.true ∙ added) c.in_ok-insert.ensures.updates (ap (λ (v : Vec ℤ Global). v.items) w.set-is ∙ w.in_ok-push.ensures.items)
      | else-branch w ↦
          let kept : IsUnchanged l.seen c.insert.new.self = rw w.if-branch.false at c.in_ok-insert.ensures.unchanged in
          subst end (sym w.set-is) (tab_is_old l.seen c.insert.new.self l.set.items list l.tab-index tab c.loop-tab-test.true is l.invariant (sym w.if-branch.false ∙ added) kept)
    ]

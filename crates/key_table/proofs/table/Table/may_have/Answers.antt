use Rattle.std.proofs.Common.{◌≡◌, false, sym, ap, ◌∙◌}
use Rattle.key_table.specs.Marks.{is_marked}
use Rattle.key_table.specs.Pairs.{near_of}
use Rattle.key_table.proofs.Marked.{unmarked}
use Rattle.key_table.proofs.table.Table.may_have.Goals as goal

pub returns : goal.returns
returns c fails asked shown is =
    let none : is_marked c.self.inside.marks.items c.args.tag ≡ false =
    ap (λ marks. is_marked marks c.args.tag) (sym c.deref.ensures.value) ∙ sym c.is_marked.ensures ∙ fails in
    ap (near_of asked shown) (sym c.self.view_is)
    ∙ unmarked c.self.inside.texts.items asked shown c.self.inside.entries.items c.self.inside.marks.items c.args.tag c.self.invariant.kept.all c.self.invariant.marked is none

use Rattle.std.proofs.Common.{◌<◌, length, arith, sym, ap, ◌∙◌}
use Rattle.key_table.specs.Pairs.{near_of}
use Rattle.key_table.proofs.Long.{none_so_long}
use Rattle.key_table.proofs.table.Table.may_have_length.Goals as goal

pub returns : goal.returns
returns c fails asked shown is =
    let long : c.self.inside.longest < length asked = grind (arith, fails, is) in
    ap (near_of asked shown) (sym c.self.view_is)
    ∙ none_so_long c.self.inside.texts.items asked shown c.self.inside.entries.items c.self.inside.longest c.self.invariant.kept.all c.self.invariant.none_longer long

use Rattle.std.proofs.Common.{List, ap, sym, subst, refl}
use mathlib.Core.List.{IsPrefix}
use Rattle.left_right.specs.Sides.{view}
use Rattle.update_spec.specs.Entries.{Entry}
use Rattle.published.proofs.pass.ReaderPass.new.Goals as goal

pub invariant_of-result : goal.invariant_of-result
invariant_of-result g c =
    let seen = view c.args.reader.place in
    (ap (λ known. known.book) c.requires, subst (λ (list : List Entry). IsPrefix list seen) (sym (ap (λ known. known.list) c.requires)) (seen, refl))

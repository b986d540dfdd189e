use Rattle.std.proofs.Common.{refl, arith, vec_len, ◌∙◌}
use Rattle.action_read.proofs.Changes.{no_item}
use Rattle.action_read.proofs.headers.is_empty_list.Goals as goal

pub returns-in-Some-as_array : goal.returns-in-Some-as_array
returns-in-Some-as_array c =
    let values = c.in-Some-as_array.values.now in
    c.is_empty.ensures ∙ no_item values.items (vec_len values) (omega (arith, values.ok.0))
    ∙ rw (c.in-Some.is, ← c.in-Some-as_array.ensures) refl

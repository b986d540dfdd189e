use Rattle.std.proofs.Common.{ap, ◌∙◌}
use Rattle.std.specs.Ordering.{is_eq, nat_cmp}
use Rattle.std.specs.Cmp.Lexicographic.{slice_cmp}
use Rattle.std.proofs.lemmas.Map.Text.{is_eq-slice_cmp}
use Rattle.key_table.specs.Kept.{key_in}
use Rattle.key_table.proofs.order.has_text.Goals as goal

pub returns : goal.returns
returns c =
    let key = key_in c.args.texts.now c.args.entry.now in
    c.is_eq.ensures ∙ ap is_eq (c.compare_keys.ensures ∙ ap (λ k. slice_cmp nat_cmp k c.args.asked.now) c.key_in.ensures) ∙ is_eq-slice_cmp key c.args.asked.now

use Rattle.std.proofs.Common.{ℕ, List, ◌+◌, eqb, sym, ap, ◌∙◌}
use Rattle.std.specs.Prelude.{count_by}
use Rattle.std.proofs.lemmas.List.Splits.{length-slice_split}
use Rattle.suffix_list.proofs.names.label_count.Goals as goal

pub returns : goal.returns
returns c =
    ap (λ (n : ℕ). n + 1) c.dot_count.ensures
    ∙ ap (λ (t : List ℕ). count_by (λ b. eqb b 46) t + 1) c.as_bytes.ensures.value
    ∙ sym (length-slice_split (λ (b : ℕ). eqb b 46) c.args.name.now)

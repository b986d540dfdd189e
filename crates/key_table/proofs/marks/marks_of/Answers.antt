use Rattle.std.proofs.Common.{◌≡◌, ◌∙◌, ◌+◌, ◌<◌, ℕ, List, length, get_or, true, sym, ap, subst, arith}
use Rattle.key_table.specs.Kept.{tags_in}
use Rattle.key_table.specs.Marks.{is_marked}
use Rattle.key_table.proofs.Marked.{marked_long, marked_more}
use Rattle.key_table.proofs.Rising.{tag_at}
use Rattle.key_table.proofs.marks.marks_of.Goals as goal

pub loop-entry-preserved : goal.loop-entry-preserved
loop-entry-preserved c =
    let entries = c.args.entries.now in
    let place = c.loop-entry.entry-index in
    let marks = c.loop-entry.marks.items in
    record {
      count = ap length c.mark.ensures.marked ∙ marked_long marks _ ∙ c.loop-entry.invariant.count;
      marked = subst (λ (m : List ℕ). (k : ℕ) → k < place + 1 → is_marked m (get_or (tags_in entries) k 0) ≡ true) (sym c.mark.ensures.marked)
          (marked_more marks (tags_in entries) place _ c.mark.ensures.within (sym (tag_at entries place _ (omega arith))) c.loop-entry.invariant.marked);
    }

use Rattle.std.proofs.Common.{rules, sym}
use Rattle.key_table.proofs.Marked.{unmarked}
use Rattle.key_table.proofs.table.marked.Goals as goal

pub returns-else-is_marked : goal.returns-else-is_marked
returns-else-is_marked c = record {
  is = search rules;
  places = λ shown. rw c.none.ensures (sym (unmarked c.args.texts.now c.args.asked.now shown c.args.entries.now c.args.marks.now c.args.tag c.requires.kept.all c.requires.marked c.requires.tag (sym c.if-is_marked.ensures)));
}

use Rattle.std.proofs.Common.{[], refl}
use Rattle.key_walk.proofs.Empty.{none_of_text}
use Rattle.key_walk.proofs.word_walk.text_for.Goals as goal

pub returns-then-is_empty : goal.returns-then-is_empty
returns-then-is_empty c shown = none_of_text c.args.table.now shown [] c.args.text.now (c.if-is_empty.ensures.0 refl)

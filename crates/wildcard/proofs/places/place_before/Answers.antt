use Rattle.std.proofs.Common.{◌≡◌, ◌+◌, ◌-◌, arith}
use Rattle.wildcard.proofs.Rows.{row_more}
use Rattle.wildcard.proofs.places.place_before.Goals as goal

pub returns-clause-stands : goal.returns-clause-stands
returns-clause-stands c text from to within part noted stands =
    let more : c.args.row.place ≡ (c.args.row.place - 1) + 1 = omega arith in
    row_more c.args.fold c.args.pieces.now text from to c.args.first c.args.table.now c.args.words.now c.args.row (c.args.row.place - 1) _ c.word_before-word.result c.told.result
    more c.requires.room within part c.requires.few noted c.word_before-word.ensures c.told.ensures stands

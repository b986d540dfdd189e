use Rattle.std.proofs.Common.{ap, ◌∙◌, sym, take, drop, arith}
use Rattle.index_spec.specs.Words.{word_at}
use Rattle.rule_index.proofs.FirmWords.{word_taken, word_passed, some_word}
use Rattle.rule_index.proofs.filter_words.word_piece.Goals as goal

pub returns-then-is_firm_word-clause-words : goal.returns-then-is_firm_word-clause-words
returns-then-is_firm_word-clause-words c =
    let text = c.args.text.now in
    word_taken c.args.left c.args.ends text c.split_at.result.0.now c.split_at.result.1.now c.requires
    (c.split_at.ensures.front ∙ ap (λ n. take n text) c.word_end.ensures.end)
    (c.split_at.ensures.back ∙ ap (λ n. drop n text) c.word_end.ensures.end)
    (sym c.is_firm_word.ensures ∙ c.if-is_firm_word.true)

pub returns-then-is_firm_word-clause-shorter : goal.returns-then-is_firm_word-clause-shorter
returns-then-is_firm_word-clause-shorter c =
    let some = some_word (word_at c.args.text.now) c.requires in
    omega (arith, some, c.word_end.ensures.end, c.word_end.ensures.within, c.split_at.ensures.back_len)

pub returns-clause-words : goal.returns-clause-words
returns-clause-words c =
    let text = c.args.text.now in
    word_passed c.args.left c.args.ends text c.split_at.result.1.now c.requires
    (c.split_at.ensures.back ∙ ap (λ n. drop n text) c.word_end.ensures.end)
    (sym c.is_firm_word.ensures ∙ c.if-is_firm_word.false)

pub returns-clause-shorter : goal.returns-clause-shorter
returns-clause-shorter c =
    let some = some_word (word_at c.args.text.now) c.requires in
    omega (arith, some, c.word_end.ensures.end, c.word_end.ensures.within, c.split_at.ensures.back_len)

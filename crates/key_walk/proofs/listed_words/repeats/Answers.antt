use Rattle.std.proofs.Common.{◌≡◌, ◌≤◌, ◌<◌, [], ◌∷◌, ◌++◌, length, not, take, subst, sym, ap, ◌∙◌, arith}
use Rattle.std.proofs.lemmas.List.{take_all}
use Rattle.index_spec.specs.Words.{has_word}
use Rattle.key_walk.specs.Listed.{HasMet, repeats_in}
use Rattle.key_walk.proofs.Repeats.{count_of, pushed, word_more}
use Rattle.key_walk.proofs.listed_words.repeats.Goals as goal

pub loop-word-preserved : goal.loop-word-preserved
loop-word-preserved c =
    let words = c.args.words.now in
    let place = c.loop-word.word-index in
    let word = c.word-item.result in
    let inside : place < length words = omega arith in
    let met = c.loop-word.invariant.met in
    record {
      repeats = c.in_ok-push.ensures.items
          ∙ pushed words place word c.loop-word.repeats.items c.in_ok-is_new.is_new inside c.word-item.is c.loop-word.invariant.repeats
          (c.in_ok-is_new.ensures.new (take place words) met ∙ ap (λ w. not (has_word (take place words) w)) c.text.ensures);
      met = subst (HasMet c.meet.new.met) (ap (λ w. take place words ++ w ∷ []) c.text.ensures ∙ sym (word_more words place word inside c.word-item.is))
          (c.in_ok-is_new.ensures.met (take place words) met);
    }

pub returns : goal.returns
returns c =
    let words = c.args.words.now in
    let whole : length words ≤ c.loop-word.word-index = omega arith in
    let count : length (repeats_in words) ≤ c.loop-word.word-index = omega (arith, count_of words, whole) in
    c.loop-word.invariant.repeats ∙ take_all c.loop-word.word-index (repeats_in words) count

use Rattle.std.proofs.Common.{◌∙◌, arith}
use Rattle.wildcard.proofs.Bytes.{none_noted, noted_more}
use Rattle.wildcard.proofs.noted.note.Goals as goal

pub loop-place-init : goal.loop-place-init
loop-place-init c =
    none_noted c.args.fold c.args.text.now c.args.to c.clear.new.words (c.clear.ensures.size ∙ c.requires.size)
    (λ k less. c.clear.ensures.none k (let s = c.clear.ensures.size in omega arith))

pub loop-place-preserved : goal.loop-place-preserved
loop-place-preserved c =
    noted_more c.args.fold c.args.text.now c.args.to c.loop-place.place c.loop-place.words c.from-found.result c.with.result c.loop-place.invariant
    (omega arith) (omega arith) (c.from-found.ensures ∙ c.key.ensures) c.with.ensures.here c.with.ensures.others

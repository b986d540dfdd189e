use Rattle.std.proofs.Common.{subst, sym}
use Rattle.wildcard.specs.Places.{TellsBefore}
use Rattle.wildcard.proofs.Rows.{star_before, question_before, byte_before}
use Rattle.wildcard.proofs.places.word_before.Goals as goal

pub returns-in-AnyBytes : goal.returns-in-AnyBytes
returns-in-AnyBytes c =
    subst (λ piece. TellsBefore c.args.fold c.args.words.now piece c.args.old c.args.was c.args.word c.here_or_later.result) (sym c.in-AnyBytes.is)
    (star_before c.args.fold c.args.words.now c.args.old c.args.was c.args.word c.here_or_later.result c.here_or_later.ensures.last c.here_or_later.ensures.others)

pub returns-in-AtMostOne : goal.returns-in-AtMostOne
returns-in-AtMostOne c =
    subst (λ piece. TellsBefore c.args.fold c.args.words.now piece c.args.old c.args.was c.args.word c.either.result) (sym c.in-AtMostOne.is)
    (question_before c.args.fold c.args.words.now c.args.old c.args.was c.args.word c.behind.result c.either.result
    c.behind.ensures.last c.behind.ensures.others c.either.ensures)

pub returns-in-Byte : goal.returns-in-Byte
returns-in-Byte c =
    subst (λ piece. TellsBefore c.args.fold c.args.words.now piece c.args.old c.args.was c.args.word c.both.result) (sym c.in-Byte.is)
    (byte_before c.args.fold c.args.words.now c.in-Byte.wanted c.args.old c.args.was c.args.word c.behind-in-Byte.result c.places_of.result c.both.result
    c.behind-in-Byte.ensures.last c.behind-in-Byte.ensures.others c.places_of.ensures c.both.ensures)

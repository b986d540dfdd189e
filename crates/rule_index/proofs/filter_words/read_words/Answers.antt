use Rattle.std.proofs.Common.{ap, ◌∙◌, sym, fold}
use Rattle.dnr_spec.specs.Domains.{lower_case}
use Rattle.index_spec.specs.Words.{firm_words, longer_of}
use Rattle.rule_index.specs.Needs.{with_bits, places_of_words}
use Rattle.rule_index.specs.Tokens.{tokens_in, word_or_none}
use Rattle.rule_index.proofs.FirmWords.{bits_more, longest_more}
use Rattle.rule_index.proofs.filter_words.read_words.Goals as goal

pub pieces-preserved : goal.pieces-preserved
pieces-preserved c =
    let l = c.pieces in
    let word = word_or_none c.next_piece-piece.result.word.now in
    let more = firm_words c.next_piece-piece.result.left c.args.ends c.next_piece-piece.result.rest.now in
    let bits = l.read.bits in
    let longest = lower_case l.read.longest.now in
    record {
      bits = ap (λ b. with_bits b (places_of_words more)) c.with_word-read.ensures.bits ∙ bits_more bits word more
          ∙ ap (λ words. with_bits bits (places_of_words words)) (sym c.next_piece-piece.ensures.words) ∙ l.invariant.bits;
      longest = ap (λ w. fold longer_of w (tokens_in more)) c.with_word-read.ensures.longest ∙ longest_more longest word more
          ∙ ap (λ words. fold longer_of longest (tokens_in words)) (sym c.next_piece-piece.ensures.words) ∙ l.invariant.longest;
    }

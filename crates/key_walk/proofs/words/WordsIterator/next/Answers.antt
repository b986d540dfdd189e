use Rattle.std.proofs.Common.{rules, ◌≡◌, take, ◌∷◌, ap, ◌∙◌, sym}
use Rattle.index_spec.specs.Words.{words_of}
use Rattle.key_walk.proofs.Runs.{word_first}
use Rattle.key_walk.proofs.words.WordsIterator.next.Goals as goal

pub returns-then-at-gt0-clause-steps : goal.returns-then-at-gt0-clause-steps
returns-then-at-gt0-clause-steps c =
    sym (c.loop-self.invariant ∙ c.self.view_is)
    ∙ word_first c.loop-self.self-inside.rest.now c.word_end-at.result c.if-at-gt0.true c.word_end-at.ensures.within c.word_end-at.ensures.inside c.word_end-at.ensures.end
    ∙ ap (λ rest. take c.word_end-at.result c.loop-self.self-inside.rest.now ∷ words_of rest) (sym c.behind-self-inside.ensures)

pub returns-then-at-gt0-clause-goes : goal.returns-then-at-gt0-clause-goes
returns-then-at-gt0-clause-goes c =
    let e : c.args.self.now ≡ take c.word_end-at.result c.loop-self.self-inside.rest.now ∷ words_of c.behind-self-inside.result.now = returns-then-at-gt0-clause-steps c in
    rw e (search rules)

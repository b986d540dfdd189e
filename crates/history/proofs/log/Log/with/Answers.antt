use Rattle.std.proofs.Common.{sym, ◌∙◌, ap, ◌≡◌, length}
use Rattle.history.specs.History.{head_of}
use Rattle.history.proofs.Adding.{moves}
use Rattle.history.proofs.log.Log.with.Goals as goal

pub compare_exchange-found-requires : goal.compare_exchange-found-requires
compare_exchange-found-requires g c =
    let word : c.head.inside.word ≡ head_of c.self.inside.seen.book = c.head.invariant ∙ ap head_of (c.head.view_is ∙ c.requires ∙ sym (ap (λ known. known.book) c.self.view_is)) in
    let seen = c.again-seen.ensures in
    let offer = c.plain-offer.ensures in
    let pen = c.no_pen-pen.ensures in
    let same = ap (λ s. s.book) seen in
    let long : length c.again-seen.result.log ≡ c.self.inside.count = rw seen (sym c.self.invariant) in (
      ap (λ w. w.tracked) word,
      same ∙ sym (ap (λ w. w.book) word),
      pen.0 ∙ (same ∙ sym (ap (λ w. w.book) word)),
      offer.0,
      rw (ap (λ w. w.key) word, pen.1, offer.1, offer.3, c.from-count.ensures) (moves c.again-seen.result.log _ c.self.inside.count long),
    )

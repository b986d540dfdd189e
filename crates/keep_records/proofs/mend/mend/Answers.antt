use Rattle.std.proofs.Common.{List, ℕ, sym, ◌∙◌, ap, subst}
use Rattle.keep_records.specs.Records.{payloads, span}
use Rattle.keep_records.specs.Ends.{AllHave}
use Rattle.keep_records.proofs.Mends.{cut_and_closed}
use Rattle.keep_records.proofs.mend.mend.Goals as goal

pub close_gate-requires-clause-place : goal.close_gate-requires-clause-place
close_gate-requires-clause-place g c = λ told.
    let was = sym c.shorten.ensures.told ∙ told in
    c.requires.place was ∙ ap span (sym (c.in_ok-shorten.ensures.same was))

pub returns-in_err-close_gate-clause-any_moment : goal.returns-in_err-close_gate-clause-any_moment
returns-in_err-close_gate-clause-any_moment g c = λ told only.
    cut_and_closed g.D.Disk.moment g.D.Disk.left_since c.args.disk.now c.shorten.new.disk c.close_gate.new.disk
    (payloads (g.D.Disk.seen c.args.disk.now)) (payloads (g.D.Disk.seen c.shorten.new.disk)) (c.in_ok-shorten.ensures.same told)
    (c.shorten.ensures.any_moment told only) (c.close_gate.ensures.any_moment (c.shorten.ensures.told ∙ told) (c.in_ok-shorten.ensures.durable told only))

pub returns-clause-any_moment : goal.returns-clause-any_moment
returns-clause-any_moment g c = λ told only.
    cut_and_closed g.D.Disk.moment g.D.Disk.left_since c.args.disk.now c.shorten.new.disk c.close_gate.new.disk
    (payloads (g.D.Disk.seen c.args.disk.now)) (payloads (g.D.Disk.seen c.shorten.new.disk)) (c.in_ok-shorten.ensures.same told)
    (c.shorten.ensures.any_moment told only) (c.close_gate.ensures.any_moment (c.shorten.ensures.told ∙ told) (c.in_ok-shorten.ensures.durable told only))

pub returns-clause-has : goal.returns-clause-has
returns-clause-has g c = λ told.
    subst (λ (l : List (List ℕ)). AllHave (g.D.Disk.images c.close_gate.new.disk) l c.args.place) (c.in_ok-shorten.ensures.same told)
    (c.in_ok-close_gate.ensures.has (c.shorten.ensures.told ∙ told))

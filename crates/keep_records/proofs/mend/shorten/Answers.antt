use Rattle.std.proofs.Common.{◌+◌, ℕ, take, ◌∙◌, ap, arith}
use Rattle.keep_records.specs.Records.{payloads}
use Rattle.keep_records.proofs.Mended.{cut_same}
use Rattle.keep_records.proofs.Mends.{keeps_cut}
use Rattle.keep_records.proofs.mend.shorten.Goals as goal

pub returns-in_err-cut_through-clause-any_moment : goal.returns-in_err-cut_through-clause-any_moment
returns-in_err-cut_through-clause-any_moment g c = λ told only.
    keeps_cut g.D.Disk.moment g.D.Disk.left_since g.D.Disk.images g.D.Disk.seen c.args.disk.now c.args.place (c.requires.place told)
    (omega (arith, c.requires.count told, c.requires.short)) c.requires.fits only c.cut_through.new.disk (omega (arith, c.requires.count told))
    c.cut_through.ensures.any_moment

pub returns-clause-any_moment : goal.returns-clause-any_moment
returns-clause-any_moment g c = λ told only.
    keeps_cut g.D.Disk.moment g.D.Disk.left_since g.D.Disk.images g.D.Disk.seen c.args.disk.now c.args.place (c.requires.place told)
    (omega (arith, c.requires.count told, c.requires.short)) c.requires.fits only c.cut_through.new.disk (omega (arith, c.requires.count told))
    c.cut_through.ensures.any_moment

pub returns-clause-same : goal.returns-clause-same
returns-clause-same g c = λ told.
    ap payloads (c.in_ok-cut_through.ensures.cut told)
    ∙ ap (λ (n : ℕ). payloads (take (n + 1) (g.D.Disk.seen c.args.disk.now))) (c.requires.place told)
    ∙ cut_same (g.D.Disk.seen c.args.disk.now) (omega (arith, c.requires.place told, c.requires.count told))

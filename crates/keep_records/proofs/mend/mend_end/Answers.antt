use Rattle.std.proofs.Common.{ℕ, List, length, get_or, sym, ◌∙◌, ap, arith}
use Rattle.keep_records.specs.Records.{end_of}
use Rattle.keep_records.proofs.Mends.{already_closed}
use Rattle.keep_records.proofs.mend.mend_end.Goals as goal

pub returns-then-is_closed-clause-has : goal.returns-then-is_closed-clause-has
returns-then-is_closed-clause-has g c = λ told.
    let same = c.requires.bytes told in
    let shut = c.is_closed.ensures c.if-is_closed.true in
    already_closed g.D.Disk.moment g.D.Disk.left_since g.D.Disk.images g.D.Disk.seen c.args.disk.now c.args.place (c.requires.place ∙ ap end_of same)
    (omega (arith, ap length same, c.requires.short)) c.requires.fits (c.requires.durable told) (omega (arith, ap length same, shut.0))
    (ap (λ (l : List ℕ). get_or l c.args.place 0) (sym same) ∙ shut.1)

pub mend-requires-clause-place : goal.mend-requires-clause-place
mend-requires-clause-place g c = λ told. c.requires.place ∙ ap end_of (c.requires.bytes told)

use Rattle.std.proofs.Common.{arith}
use Rattle.keep_records.proofs.Mended.{within}
use Rattle.keep_records.proofs.Mends.{keeps_torn, closes}
use Rattle.keep_records.proofs.mend.close_gate.Goals as goal

pub returns-in_err-write_through-clause-any_moment : goal.returns-in_err-write_through-clause-any_moment
returns-in_err-write_through-clause-any_moment g c = λ told only.
    keeps_torn g.D.Disk.moment g.D.Disk.left_since g.D.Disk.images g.D.Disk.seen c.args.disk.now c.args.place (c.requires.place told) (c.requires.small told)
    c.requires.fits only c.write_through.new.disk (c.requires.short told) c.write_through.ensures.any_moment

pub returns-clause-any_moment : goal.returns-clause-any_moment
returns-clause-any_moment g c = λ told only.
    keeps_torn g.D.Disk.moment g.D.Disk.left_since g.D.Disk.images g.D.Disk.seen c.args.disk.now c.args.place (c.requires.place told) (c.requires.small told)
    c.requires.fits only c.write_through.new.disk (c.requires.short told) c.write_through.ensures.any_moment

pub returns-clause-has : goal.returns-clause-has
returns-clause-has g c = λ told.
    closes g.D.Disk.moment g.D.Disk.left_since g.D.Disk.images g.D.Disk.seen c.args.disk.now c.args.place (c.requires.place told) (c.requires.small told)
    c.requires.fits c.write_through.new.disk (c.requires.short told) (c.in_ok-write_through.ensures.written told) (c.in_ok-write_through.ensures.durable told)

pub write_through-requires : goal.write_through-requires
write_through-requires g c = λ told. omega (arith, c.requires.place told, within (g.D.Disk.seen c.args.disk.now))

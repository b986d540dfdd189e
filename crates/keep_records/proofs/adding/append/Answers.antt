use Rattle.std.proofs.Common.{sym, ◌∙◌, arith}
use Rattle.keep_records.proofs.Appends.{first_leaves, both_leave, adds, gate_there}
use Rattle.keep_records.proofs.adding.append.Goals as goal

pub returns-in_err-write_through-clause-any_moment : goal.returns-in_err-write_through-clause-any_moment
returns-in_err-write_through-clause-any_moment g c = λ told.
    first_leaves g.D.Disk.moment g.D.Disk.left_since g.D.Disk.images g.D.Disk.seen c.args.disk.now c.write_through.new.disk c.write_through.new.disk
    c.args.place c.args.payload.now c.args.bytes.now c.requires.bytes c.requires.some c.requires.fits (c.requires.ends told) c.write_through.ensures.any_moment

pub returns-in_err-write_through-2-clause-any_moment : goal.returns-in_err-write_through-2-clause-any_moment
returns-in_err-write_through-2-clause-any_moment g c = λ told.
    both_leave g.D.Disk.moment g.D.Disk.left_since g.D.Disk.images g.D.Disk.seen c.args.disk.now c.write_through.new.disk c.write_through-2.new.disk
    c.args.place c.args.payload.now c.args.bytes.now c.requires.bytes c.requires.some c.requires.fits (c.requires.ends told)
    (g.met.D.Disk.seen_is_image c.args.disk.now told) (c.in_ok-write_through.ensures.written told)
    (c.in_ok-write_through.ensures.durable told) c.write_through.ensures.any_moment c.write_through-2.ensures.any_moment

pub returns-clause-any_moment : goal.returns-clause-any_moment
returns-clause-any_moment g c = λ told.
    both_leave g.D.Disk.moment g.D.Disk.left_since g.D.Disk.images g.D.Disk.seen c.args.disk.now c.write_through.new.disk c.write_through-2.new.disk
    c.args.place c.args.payload.now c.args.bytes.now c.requires.bytes c.requires.some c.requires.fits (c.requires.ends told)
    (g.met.D.Disk.seen_is_image c.args.disk.now told) (c.in_ok-write_through.ensures.written told)
    (c.in_ok-write_through.ensures.durable told) c.write_through.ensures.any_moment c.write_through-2.ensures.any_moment

pub returns-clause-added : goal.returns-clause-added
returns-clause-added g c = λ told.
    adds g.D.Disk.moment g.D.Disk.left_since g.D.Disk.images g.D.Disk.seen c.args.disk.now c.write_through.new.disk c.write_through-2.new.disk
    c.args.place c.args.payload.now c.args.bytes.now c.requires.bytes c.requires.some c.requires.fits (c.requires.ends told)
    (g.met.D.Disk.seen_is_image c.args.disk.now told) (c.in_ok-write_through.ensures.written told)
    (c.in_ok-write_through-2.ensures.written (c.write_through.ensures.told ∙ told))
    (c.in_ok-write_through-2.ensures.durable (c.write_through.ensures.told ∙ told))

pub write_through-requires : goal.write_through-requires
write_through-requires g c = λ told.
    let here = c.requires.ends told (g.D.Disk.seen c.args.disk.now) (g.met.D.Disk.seen_is_image c.args.disk.now told) in
    omega (arith, here.there)

pub write_through-requires-2 : goal.write_through-requires-2
write_through-requires-2 g c = λ told.
    let was = sym c.write_through.ensures.told ∙ told in
    gate_there g.D.Disk.moment g.D.Disk.left_since g.D.Disk.images g.D.Disk.seen c.args.disk.now c.write_through.new.disk c.write_through.new.disk
    c.args.place c.args.payload.now c.args.bytes.now c.requires.bytes c.requires.some c.requires.fits (c.requires.ends was)
    (g.met.D.Disk.seen_is_image c.args.disk.now was) (c.in_ok-write_through.ensures.written was)

use Rattle.keep_disk.specs.Images.{Shortened}
use Rattle.keep_disk.specs.Undone.{shortened_nothing}
use Rattle.keep_disk.proofs.Works.{in_work, in_sync}
use Rattle.keep_disk.proofs.durable.cut_through.Goals as goal

pub returns-in_err-cut-clause-any_moment : goal.returns-in_err-cut-clause-any_moment
returns-in_err-cut-clause-any_moment g c =
    in_work g.D.Disk.moment g.D.Disk.left_since g.D.Disk.images g.met.D.Disk.only_now (Shortened c.args.length) (shortened_nothing c.args.length)
    c.args.disk.now c.cut.new.self c.cut.ensures.crash c.cut.ensures.time

pub returns-clause-any_moment : goal.returns-clause-any_moment
returns-clause-any_moment g c =
    in_sync g.D.Disk.moment g.D.Disk.left_since g.D.Disk.images g.met.D.Disk.only_now (Shortened c.args.length) (shortened_nothing c.args.length)
    c.args.disk.now c.cut.new.self c.sync.new.self c.cut.ensures.crash c.cut.ensures.time c.sync.ensures.crash c.sync.ensures.time

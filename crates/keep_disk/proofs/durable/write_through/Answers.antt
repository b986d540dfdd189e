use Rattle.std.proofs.Common.{length}
use Rattle.keep_disk.specs.Images.{Torn}
use Rattle.keep_disk.specs.Undone.{torn_nothing}
use Rattle.keep_disk.proofs.Works.{in_work, in_sync}
use Rattle.keep_disk.proofs.durable.write_through.Goals as goal

pub returns-in_err-write_at-clause-any_moment : goal.returns-in_err-write_at-clause-any_moment
returns-in_err-write_at-clause-any_moment g c =
    in_work g.D.Disk.moment g.D.Disk.left_since g.D.Disk.images g.met.D.Disk.only_now (Torn c.args.at (length c.args.bytes.now)) (torn_nothing c.args.at (length c.args.bytes.now))
    c.args.disk.now c.write_at.new.self c.write_at.ensures.crash c.write_at.ensures.time

pub returns-clause-any_moment : goal.returns-clause-any_moment
returns-clause-any_moment g c =
    in_sync g.D.Disk.moment g.D.Disk.left_since g.D.Disk.images g.met.D.Disk.only_now (Torn c.args.at (length c.args.bytes.now)) (torn_nothing c.args.at (length c.args.bytes.now))
    c.args.disk.now c.write_at.new.self c.sync.new.self c.write_at.ensures.crash c.write_at.ensures.time c.sync.ensures.crash c.sync.ensures.time

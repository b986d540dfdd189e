use Rattle.keep_disk.specs.declared.call.Call.TheVariants.{Synced}
use Rattle.keep_disk.proofs.Done.{same_seen, done_seen, same_time, done_time, same_images, synced_only, synced_none}
use Rattle.keep_disk.proofs.memory.MemoryDiskDisk.sync.Goals as goal

pub returns-in_err-settle-clause-time : goal.returns-in_err-settle-clause-time
returns-in_err-settle-clause-time c = same_time c.args.self.now c.settle.new.self c.in_err-settle.ensures.takes.err

pub returns-clause-time : goal.returns-clause-time
returns-clause-time c = done_time Synced c.args.self.now c.settle.new.self c.in_ok-settle.ensures.takes.ok

pub returns-in_err-settle-clause-seen : goal.returns-in_err-settle-clause-seen
returns-in_err-settle-clause-seen c = same_seen c.args.self.now c.settle.new.self c.in_err-settle.ensures.takes.err

pub returns-clause-seen : goal.returns-clause-seen
returns-clause-seen c = done_seen Synced c.args.self.now c.settle.new.self c.in_ok-settle.ensures.takes.ok

pub returns-in_err-settle-clause-crash : goal.returns-in_err-settle-clause-crash
returns-in_err-settle-clause-crash c = λ image left. same_images c.args.self.now c.settle.new.self c.in_err-settle.ensures.takes.err image left

pub returns-clause-durable : goal.returns-clause-durable
returns-clause-durable c = λ told image left. synced_only c.args.self.now c.settle.new.self c.in_ok-settle.ensures.takes.ok image left

pub returns-clause-crash : goal.returns-clause-crash
returns-clause-crash c = λ image left. synced_none c.args.self.now c.settle.new.self c.in_ok-settle.ensures.takes.ok image left

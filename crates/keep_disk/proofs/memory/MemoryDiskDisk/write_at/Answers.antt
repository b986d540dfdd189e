use Rattle.std.proofs.Common.{refl}
use Rattle.keep_disk.specs.declared.call.Call.TheVariants.{Wrote}
use Rattle.keep_disk.proofs.Done.{same_time, done_time, wrote_torn, wrote_bytes, wrote_nothing, wrote_no_part, at_err}
use Rattle.keep_disk.proofs.memory.MemoryDiskDisk.write_at.Goals as goal

pub returns-in_err-overwrite-clause-time : goal.returns-in_err-overwrite-clause-time
returns-in_err-overwrite-clause-time c = same_time c.args.self.now c.overwrite.new.self c.in_err-overwrite.ensures.takes.err

pub returns-clause-time : goal.returns-clause-time
returns-clause-time c = done_time (Wrote c.args.at c.args.bytes.now) c.args.self.now c.overwrite.new.self c.in_ok-overwrite.ensures.takes.ok

pub returns-in_err-overwrite-clause-crash : goal.returns-in_err-overwrite-clause-crash
returns-in_err-overwrite-clause-crash c = λ image left. wrote_nothing c.args.at _ c.args.self.now c.overwrite.new.self c.in_err-overwrite.ensures.takes.err image left

pub returns-clause-crash : goal.returns-clause-crash
returns-clause-crash c = λ image left. wrote_torn c.args.at c.args.bytes.now c.args.self.now c.overwrite.new.self (c.requires refl) c.in_ok-overwrite.ensures.takes.ok image left

pub returns-clause-written : goal.returns-clause-written
returns-clause-written c = λ told. wrote_bytes c.args.at c.args.bytes.now c.args.self.now c.overwrite.new.self (c.requires told) c.in_ok-overwrite.ensures.takes.ok

pub returns-in_err-overwrite-clause-part : goal.returns-in_err-overwrite-clause-part
returns-in_err-overwrite-clause-part c = at_err c.from_residual.result _ (λ told. wrote_no_part c.args.at _ c.args.self.now c.overwrite.new.self c.in_err-overwrite.ensures.takes.err)

use Rattle.keep_disk.specs.declared.call.Call.TheVariants.{Cut}
use Rattle.keep_disk.proofs.Done.{done_seen, same_time, done_time, cut_shortened, cut_nothing, cut_no_part, at_err}
use Rattle.keep_disk.proofs.memory.MemoryDiskDisk.cut.Goals as goal

pub returns-in_err-shorten-clause-time : goal.returns-in_err-shorten-clause-time
returns-in_err-shorten-clause-time c = same_time c.args.self.now c.shorten.new.self c.in_err-shorten.ensures.takes.err

pub returns-clause-time : goal.returns-clause-time
returns-clause-time c = done_time (Cut c.args.length) c.args.self.now c.shorten.new.self c.in_ok-shorten.ensures.takes.ok

pub returns-in_err-shorten-clause-crash : goal.returns-in_err-shorten-clause-crash
returns-in_err-shorten-clause-crash c = λ image left. cut_nothing c.args.length c.args.self.now c.shorten.new.self c.in_err-shorten.ensures.takes.err image left

pub returns-clause-crash : goal.returns-clause-crash
returns-clause-crash c = λ image left. cut_shortened c.args.length c.args.self.now c.shorten.new.self c.in_ok-shorten.ensures.takes.ok image left

pub returns-clause-cut : goal.returns-clause-cut
returns-clause-cut c = λ told. done_seen (Cut c.args.length) c.args.self.now c.shorten.new.self c.in_ok-shorten.ensures.takes.ok

pub returns-in_err-shorten-clause-part : goal.returns-in_err-shorten-clause-part
returns-in_err-shorten-clause-part c = at_err c.from_residual.result _ (λ told. cut_no_part c.args.length c.args.self.now c.shorten.new.self c.in_err-shorten.ensures.takes.err)

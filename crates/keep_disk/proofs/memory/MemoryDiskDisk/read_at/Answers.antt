use Rattle.std.proofs.Common.{refl, ◌∙◌, ◌+◌, ap, List, ℕ, length, arith}
use Rattle.std.specs.Prelude.{slice_range}
use Rattle.keep_disk.specs.declared.call.Call.TheVariants.{Looked}
use Rattle.keep_disk.proofs.Done.{same_seen, done_seen, same_time, done_time, same_images, looked_none}
use Rattle.keep_disk.proofs.memory.MemoryDiskDisk.read_at.Goals as goal

pub returns-in_err-look-clause-time : goal.returns-in_err-look-clause-time
returns-in_err-look-clause-time c = same_time c.args.self.now c.look.new.self c.in_err-look.ensures.takes.err

pub returns-clause-time : goal.returns-clause-time
returns-clause-time c = done_time Looked c.args.self.now c.look.new.self c.in_ok-look.ensures.takes.ok

pub returns-in_err-look-clause-seen : goal.returns-in_err-look-clause-seen
returns-in_err-look-clause-seen c = same_seen c.args.self.now c.look.new.self c.in_err-look.ensures.takes.err

pub returns-clause-seen : goal.returns-clause-seen
returns-clause-seen c = done_seen Looked c.args.self.now c.look.new.self c.in_ok-look.ensures.takes.ok

pub returns-in_err-look-clause-crash : goal.returns-in_err-look-clause-crash
returns-in_err-look-clause-crash c = λ image left. same_images c.args.self.now c.look.new.self c.in_err-look.ensures.takes.err image left

pub returns-clause-crash : goal.returns-clause-crash
returns-clause-crash c = λ image left. looked_none c.args.self.now c.look.new.self c.in_ok-look.ensures.takes.ok image left

pub copy_part-requires : goal.copy_part-requires
copy_part-requires c =
    omega (arith, c.requires refl, ap length (c.bytes.ensures ∙ done_seen Looked c.args.self.now c.look.new.self c.in_ok-look.ensures.takes.ok))

pub returns-clause-bytes : goal.returns-clause-bytes
returns-clause-bytes c = λ told.
    c.copy_part.ensures
    ∙ ap (λ (file : List ℕ). slice_range file c.args.at (c.args.at + length c.args.buf.now))
    (c.bytes.ensures ∙ done_seen Looked c.args.self.now c.look.new.self c.in_ok-look.ensures.takes.ok)

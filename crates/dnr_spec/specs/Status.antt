-- The exit value of each status.
use Rattle.std.specs.Prelude.{ℕ}
use Rattle.dnr_spec.specs.declared.status.Status.{Status}
use Rattle.dnr_spec.specs.declared.status.Status.TheVariants.{Done, Refused, Usage, ReadFault, WriteFault, NoMemory, FileTooLong, DiskFault}

abbrev pub status_value : Status → ℕ
status_value Done = 0
status_value Refused = 1
status_value Usage = 2
status_value ReadFault = 3
status_value WriteFault = 4
status_value NoMemory = 5
status_value FileTooLong = 6
status_value DiskFault = 7

-- Why a script is not answered to its end, by why a line is not, or is not read.
use Rattle.dnr_io.specs.declared.line_refusal.LineRefusal.{LineRefusal}
use Rattle.dnr_io.specs.declared.line_refusal.LineRefusal.TheVariants as refusal
use Rattle.keep_run.specs.declared.stop.KeepStop.{KeepStop}
use Rattle.keep_run.specs.declared.stop.KeepStop.TheVariants as stop
use Rattle.keep_run.specs.declared.stop.LineStop.{LineStop}
use Rattle.keep_run.specs.declared.stop.LineStop.TheVariants as at_line

abbrev pub stop_of_line : LineStop → KeepStop
stop_of_line at_line.DiskFault = stop.DiskFault
stop_of_line at_line.NoMemory = stop.NoMemory

abbrev pub stop_of_reading : LineRefusal → KeepStop
stop_of_reading refusal.ReadFault = stop.ReadFault
stop_of_reading refusal.LineTooLong = stop.TooLong
stop_of_reading refusal.NoMemory = stop.NoMemory

-- Why a file is not read.
use Rattle.dnr_io.specs.declared.shelf.ShelfRefusal.{ShelfRefusal}
use Rattle.dnr_io.specs.declared.shelf.ShelfRefusal.TheVariants as shelf
use Rattle.session_load.specs.declared.stop.Stop.{Stop}
use Rattle.session_load.specs.declared.stop.Stop.TheVariants as stop

abbrev pub stop_of : ShelfRefusal → Stop
stop_of shelf.Failed = stop.ReadFault
stop_of shelf.TooLong = stop.FileTooLong
stop_of shelf.NoMemory = stop.NoMemory

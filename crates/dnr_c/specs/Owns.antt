-- What a handle of C owns.
use base.Fml.{Fml, ftrue}
use base.Stored.{Coded}
use denote.RawPtr.{Ptr}
use Rattle.std.specs.Prelude.{Option, Some, None}
use Rattle.std.specs.Coded.{coded_option}
use Rattle.std.specs.Box.Ownership.{box_owns}
use Rattle.std.specs.Global.{Global}
use Rattle.std_heap.specs.contracts.GlobalAllocator.TheImpl.{ghosts}
use Rattle.engine.specs.contracts.engine.Engine.{the_row}

-- a closed handle owns nothing, and an open one its engine
abbrev pub handle_owns : Global → Ptr → Option the_row.Denot → Fml
handle_owns alloc at None = ftrue
handle_owns alloc at (Some e) = box_owns (ghosts.dealloc_token alloc) the_row at e

abbrev pub engine_coded : Coded (Option the_row.Denot)
engine_coded = coded_option the_row.coded

-- An open handle owns an engine in its block, and an engine may go to another thread.
use mir.Raw.{raw}
use base.Shift.{Keyless}
use denote.Memory.{lone}
use denote.RawPtr.{Ptr}
use denote.Struct.Struct.{exits_of}
use denote.Struct.Owning.{shape, fields, to}
use denote.Param.Send.{IsSend, AllSend, owning_send, struct_send, sendable}
use Rattle.std.specs.Prelude.{Option, Some, None}
use Rattle.std.specs.Global.{Global}
use Rattle.std.proofs.Crossing as heap
use Rattle.std_alloc.proofs.SendSync.{quiet, lies}
use Rattle.std_heap.proofs.Global.TheSendSync as handle
use Rattle.engine.specs.contracts.engine.Engine as Engine
use Rattle.engine.proofs.SentEngines.{Engine-send as engine}
use Rattle.dnr_c.specs.Owns.{handle_owns}
use Rattle.dnr_c.specs.contracts.handle.Handle.{the_row, the_type}

owned : (alloc : Global) (p : Ptr) (o : Option Engine.the_row.Denot) → Keyless (handle_owns alloc p o)
owned alloc p None = tt
owned alloc p (Some x) = (lies Engine.the_row engine p x, heap.frees.frees alloc (raw (lone Engine.the_row.mir)) p)

pub send : IsSend the_row
send =
    let all : AllSend (fields the_type) = (search sendable, (handle.the_field_send, tt)) in
    owning_send the_type all (λ d. owned d.alloc d.ptr d.engine)
    (λ k. quiet (to the_type) (exits_of k (fields the_type)) ((struct_send (shape the_type) all).leaving k))

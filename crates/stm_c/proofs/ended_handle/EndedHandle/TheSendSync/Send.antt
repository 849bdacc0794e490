-- A handle may go to another thread, as what it holds may.
use mir.Raw.{raw}
use base.Shift.{Keyless}
use denote.Memory.{lone}
use denote.RawPtr.{Ptr}
use denote.Struct.Struct.{exits_of}
use denote.Struct.Owning.{shape, fields, to}
use denote.Param.Send.{IsSend, AllSend, owning_send, struct_send, sendable}
use Rattle.std.specs.Prelude.{Option, None, Some}
use Rattle.std.specs.Global.{Global}
use Rattle.std.proofs.Crossing as heap
use Rattle.std_alloc.proofs.SendSync.{quiet, lies}
use Rattle.std_heap.proofs.Global.TheSendSync as handle
use Rattle.stm_desk.specs.contracts.ended.Ended as Home
use Rattle.stm_desk.proofs.Crossing.{ended_send}
use Rattle.stm_c.specs.EndedHandle.{handle_owns}
use Rattle.stm_c.specs.contracts.ended_handle.EndedHandle.{the_row, the_type}

owned : (a : Global) (p : Ptr) (v : Option Home.the_row.Denot) → Keyless (handle_owns a p v)
owned a p None = tt
owned a p (Some x) = (lies Home.the_row ended_send p x, heap.frees.frees a (raw (lone Home.the_row.mir)) p)

pub send : IsSend the_row
send =
    let all : AllSend (fields the_type) = (search sendable, (handle.the_field_send, tt)) in
    owning_send the_type all (λ d. owned d.alloc d.ptr d.value)
    (λ k. quiet (to the_type) (exits_of k (fields the_type)) ((struct_send (shape the_type) all).leaving k))

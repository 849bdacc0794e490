-- A handle may go to another thread, as a `&` to the program that lies there may.
use base.Shift.{Keyless}
use denote.RawPtr.{Ptr}
use denote.Struct.Struct.{exits_of}
use denote.Struct.Owning.{shape, fields, to}
use denote.Param.Send.{IsSend, AllSend, owning_send, struct_send, sendable}
use Rattle.std.specs.Prelude.{Option, None, Some, []}
use Rattle.std_alloc.proofs.SendSync.{quiet, seen}
use Rattle.stm_store.specs.contracts.program.Program as Home
use Rattle.stm_c.proofs.Crossing.{program_sync}
use Rattle.stm_c.specs.ProgramHandle.{handle_owns}
use Rattle.stm_c.specs.contracts.program_handle.ProgramHandle.{the_row, the_type}

owned : (p : Ptr) (v : Option Home.the_row.Denot) → Keyless (handle_owns p v)
owned p None = tt
owned p (Some x) = (seen Home.the_row program_sync p x [], λ _. tt)

pub send : IsSend the_row
send =
    let all : AllSend (fields the_type) = (search sendable, tt) in
    owning_send the_type all (λ d. owned d.ptr d.value)
    (λ k. quiet (to the_type) (exits_of k (fields the_type)) ((struct_send (shape the_type) all).leaving k))

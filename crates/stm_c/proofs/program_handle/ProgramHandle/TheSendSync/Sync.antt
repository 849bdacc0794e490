-- A handle may be read by several threads at once: what it owns may go to each of them.
use denote.Param.Send.{IsSync, part_keyless}
use Rattle.stm_c.proofs.program_handle.ProgramHandle.TheSendSync.Send.{send}
use Rattle.stm_c.specs.contracts.program_handle.ProgramHandle.{the_row}

pub sync : IsSync the_row
sync = record { shared = λ d b o κ q. part_keyless the_row send q d b o }

-- A program may be read by several threads at once: by its one field.
use denote.Param.Send.{IsSync, sendable, shr_sync}
use Rattle.std.proofs.Crossing.{crosses}
use Rattle.book.proofs.Crossing.{catalogue_sync}
use Rattle.stm_store.specs.contracts.program.Program as Home

pub program_sync : IsSync Home.the_row
program_sync = let a = catalogue_sync in let e = shr_sync in search (sendable, crosses) depth 60

-- A publisher may go from one thread to another: a history owns nothing, and all else goes by its fields. So may cells
-- that are lent or counted, since many threads may use cells at once.
use denote.Ref.{NamedLft}
use denote.Param.Send.{IsSend, sendable, shr_sync}
use Rattle.std.proofs.Crossing.{crosses}
use Rattle.cells.specs.contracts.history.History as history
use Rattle.cells.specs.contracts.keeper.Keeper as keeper
use Rattle.cells.specs.contracts.publisher.Publisher as publisher
use Rattle.cells.specs.contracts.sharing.SharedCells as sharing
use Rattle.cells.proofs.cells.Cells.TheSendSync as cells
use Rattle.cells.proofs.writer.Writer.TheSendSync as writer

history_send : IsSend history.the_row
history_send = search (sendable, crosses) depth 20

keeper_send : IsSend keeper.the_row
keeper_send = let h = history_send in search (sendable, crosses) depth 40

pub publisher_send : IsSend publisher.the_row
publisher_send = let k = keeper_send in let w = writer.the_send in search (sendable, crosses) depth 60

pub shared_send : (ℓ : NamedLft) → IsSend (sharing.the_row ℓ)
shared_send ℓ = let a = cells.the_send in let b = cells.the_sync in let e = shr_sync in search (sendable, crosses) depth 60

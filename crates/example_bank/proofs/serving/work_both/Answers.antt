use denote.Param.Send.{sendable}
use Rattle.std.proofs.Crossing.{crosses}
use Rattle.example_bank.proofs.Crossing.{clerk_send, bank_sync}
use Rattle.example_bank.proofs.serving.work_both.Goals as goal

pub join-requires-send-F : goal.join-requires-send-F
join-requires-send-F g c κs within = search (sendable, clerk_send, bank_sync, crosses) depth 14

use denote.Param.Send.{sendable}
use Rattle.std.proofs.Crossing.{crosses}
use Rattle.example_scheduler.proofs.Crossing.{hand_send}
use Rattle.example_scheduler.proofs.Sharing.{shared_sync}
use Rattle.example_scheduler.proofs.crew.labour_both.Goals as goal

pub join-requires-send-F : goal.join-requires-send-F
join-requires-send-F g c κs within = search (sendable, hand_send, shared_sync, crosses) depth 14

use denote.Param.Send.{sendable}
use Rattle.stm_desk.proofs.Crossing.{desk_send, ended_send, told_send}
use Rattle.stm_desk.proofs.cross.Goals as goal

pub sent-requires-send-T : goal.sent-requires-send-T
sent-requires-send-T c κs = search (sendable, desk_send) depth 12

pub sent-requires-2-send-T : goal.sent-requires-2-send-T
sent-requires-2-send-T c κs = search (sendable, told_send) depth 12

pub sent-requires-3-send-T : goal.sent-requires-3-send-T
sent-requires-3-send-T c κs = search (sendable, ended_send) depth 12

-- What the hands share may be used by both at once.
use denote.RattleType.{RattleType}
use denote.Ref.{NamedLft}
use denote.Param.Send.{IsSend, IsSync, sendable}
use denote.Param.SendFields.{declared_sync}
use Rattle.std.proofs.Crossing.{crosses}
use Rattle.example_scheduler.specs.declared.scheduler.Planned.{Ghosts}
use Rattle.example_scheduler.specs.contracts.crew.Shared as shared
use Rattle.example_scheduler.proofs.Crossing.{scheduler_sync}

pub shared_sync : (k : NamedLft) (N W : RattleType) (n : Ghosts N.Denot) → IsSend N → IsSync W → IsSync (shared.the_row k N W n)
shared_sync k N W n s w = declared_sync (shared.the_type k N W n) (scheduler_sync N n s, (search (sendable, crosses) depth 20, (search sendable, tt)))

-- A scheduler and a hand may go from one thread to another, and what the hands share may be used by all of them.
use denote.RattleType.{RattleType}
use denote.Ref.{NamedLft}
use denote.Param.Send.{IsSend, IsSync, sendable, shr_sync}
use denote.Param.SendFields.{declared_send, declared_sync}
use Rattle.std.proofs.Crossing.{crosses}
use Rattle.std.specs.contracts.sync.Mutex as mutex
use Rattle.stm_store.proofs.Crossing.{store_send, worker_send}
use Rattle.example_scheduler.specs.declared.scheduler.Planned.{Ghosts}
use Rattle.example_scheduler.specs.contracts.scheduler.Scheduler as scheduler
use Rattle.example_scheduler.specs.contracts.scheduler.Hand as hand

pub scheduler_send : (N : RattleType) (n : Ghosts N.Denot) → IsSend N → IsSend (scheduler.the_row N n)
scheduler_send N n s = declared_send (scheduler.the_type N n) (store_send, (search sendable, (search sendable, (search sendable, tt))))

pub hand_send : (N : RattleType) (n : Ghosts N.Denot) → IsSend N → IsSend (hand.the_row N n)
hand_send N n s = declared_send (hand.the_type N n) (worker_send, (search sendable, tt))

pub scheduler_sync : (N : RattleType) (n : Ghosts N.Denot) → IsSend N → IsSync (mutex.the_row (scheduler.the_row N n))
scheduler_sync N n s = let h = scheduler_send N n s in search crosses depth 10

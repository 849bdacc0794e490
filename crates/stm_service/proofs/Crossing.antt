-- A front may go from one thread to another, and a service may be used by many at once.
use denote.RattleType.{RattleType}
use denote.Param.Send.{IsSend, IsSync, sendable, shr_sync}
use denote.Param.SendFields.{declared_send, declared_sync}
use Rattle.std.proofs.Crossing.{crosses}
use Rattle.std.proofs.MapsCrossing as maps
use Rattle.std.specs.contracts.sync.Mutex as mutex
use Rattle.book.proofs.Crossing.{catalogue_sync}
use Rattle.stm_store.proofs.Crossing.{worker_send}
use Rattle.stm_store.proofs.job.Job.TheSendSync as job
use Rattle.stm_desk.proofs.Crossing.{desk_send}
use Rattle.stm_service.specs.declared.name.Naming.{Ghosts}
use Rattle.stm_service.proofs.chapter.Shelf.TheSendSync as shelf
use Rattle.stm_service.proofs.front.Front.TheSendSync as front
use Rattle.stm_service.proofs.front.Head.TheSendSync as head
use Rattle.stm_service.proofs.seat.Seat.TheSendSync as seat
use Rattle.stm_service.specs.contracts.behind.Behind as behind
use Rattle.stm_service.specs.contracts.service.Service as service

pub behind_send : (N : RattleType) (n : Ghosts N.Denot) → IsSend N → IsSend (behind.the_row N n)
behind_send N n s =
    let e = seat.the_send N n in
    let f = front.the_send N n in
    let h = head.the_send N n in
    let k = shelf.the_send N n in
    let j = job.the_send in
    declared_send (behind.the_type N n) (
      search (sendable, crosses) depth 20,
      (
        desk_send,
        (
          search (sendable, crosses) depth 20,
          (
            search (sendable, crosses) depth 20,
            (
              search (sendable, crosses) depth 20,
              (
                search (sendable, crosses, maps.crosses) depth 30,
                (search (sendable, crosses) depth 20, (search (sendable, crosses) depth 20, tt)),
              ),
            ),
          ),
        ),
      ),
    )

behind_sync : (N : RattleType) (n : Ghosts N.Denot) → IsSend N → IsSync (mutex.the_row (behind.the_row N n))
behind_sync N n s = let h = behind_send N n s in search crosses depth 10

pub service_sync : (N : RattleType) (n : Ghosts N.Denot) → IsSend N → IsSync (service.the_row N n)
service_sync N n s =
    let c = catalogue_sync in
    let r = shr_sync in
    let w = worker_send in
    declared_sync (service.the_type N n) (
      search (sendable, crosses) depth 60,
      (
        search (sendable, crosses) depth 60,
        (behind_sync N n s, (search (sendable, crosses) depth 60, (search (sendable, crosses) depth 60, (search (sendable, crosses) depth 60, tt)))),
      ),
    )

-- A desk, and what it tells, may go from one thread to another: each by its fields.
use denote.Param.Send.{IsSend, sendable}
use denote.Param.SendFields.{declared_send}
use Rattle.std.proofs.Crossing.{crosses}
use Rattle.std.proofs.MapsCrossing as maps
use Rattle.stm_store.proofs.Crossing.{store_send, lender_send}
use Rattle.ghost_log.proofs.log.Log.TheSendSync as log
use Rattle.stm_desk.specs.contracts.answers.Told as told
use Rattle.stm_desk.specs.contracts.ended.Ended as ended
use Rattle.stm_desk.specs.contracts.ended.Last as last
use Rattle.stm_desk.specs.contracts.waiters.Waiting as waiting
use Rattle.stm_desk.specs.contracts.waiters.Waiters as waiters
use Rattle.stm_desk.specs.contracts.work.Work as work
use Rattle.stm_desk.specs.contracts.desk.Desk as desk

pub told_send : IsSend told.the_row
told_send = search (sendable, crosses) depth 30

pub waiting_send : IsSend waiting.the_row
waiting_send = search (sendable, crosses) depth 30

pub waiters_send : IsSend waiters.the_row
waiters_send = search (sendable, crosses, maps.crosses, told_send, waiting_send) depth 40 fits 20000

pub ended_send : IsSend ended.the_row
ended_send = search (sendable, crosses) depth 30

pub last_send : IsSend last.the_row
last_send = let e = ended_send in search (sendable, crosses) depth 40

pub work_send : IsSend work.the_row
work_send =
    let l = lender_send in
    let e = log.the_send in
    declared_send work.the_type (
      store_send,
      (
        search (sendable, crosses) depth 30,
        (
          waiters_send,
          (
            search (sendable, crosses) depth 30,
            (
              search sendable,
              (
                search sendable,
                (
                  last_send,
                  (
                    search (sendable, crosses) depth 30,
                    (search (sendable, crosses) depth 30, (search (sendable, crosses) depth 30, tt)),
                  ),
                ),
              ),
            ),
          ),
        ),
      ),
    )

pub desk_send : IsSend desk.the_row
desk_send = declared_send desk.the_type (work_send, tt)

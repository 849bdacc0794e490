use Rattle.std.proofs.Math.Logic.{∥∥₁_map}
use Rattle.stm_desk.proofs.Becoming.{parked_call}
use Rattle.stm_desk.proofs.Legal.{ticket}
use Rattle.stm_desk.proofs.work.Work.law.Goals as goal

pub returns-clause-waits : goal.returns-clause-waits
returns-clause-waits c served t seat at =
    let s = c.args.self.now in
    ∥∥₁_map (s.seated t seat at) (parked_call s.store (ticket t) seat.call.value served)

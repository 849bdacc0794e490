use Rattle.std.proofs.Common.{subst}
use Rattle.std.proofs.Math.Logic.{∥∥₁_map}
use Rattle.txn_programs.specs.declared.arguments.Call.{Call}
use Rattle.stm_desk.specs.History.{Begins, History}
use Rattle.stm_service.specs.Telling.{IsTold}
use Rattle.stm_service.proofs.Histories.{answered_waiting}
use Rattle.stm_service.proofs.service.Service.call_once.Goals as goal

pub returns-in-Waits-clause-answered : goal.returns-in-Waits-clause-answered
returns-in-Waits-clause-answered g c =
    let w = c.in-Waits in
    let before = c.args.front.now in
    let now = c.wait_for.new.front in
    let call = c.args.call.now in
    let begins : Begins before now = subst (λ (h : History). Begins h now) w.ensures.begun.1 c.wait_for.ensures.grows in
    ∥∥₁_map c.wait_for.ensures.told (λ (k : IsTold now w.awaited.ticket w.awaited.call c.wait_for.result).
    answered_waiting g.N.Naming.catalogue g.N.Naming.first before now w.awaited.ticket call c.args.way c.wait_for.result w.ensures.begun.3 begins
    (subst (λ (x : Call). IsTold now w.awaited.ticket x c.wait_for.result) w.ensures.begun.2 k))

use Rattle.std.proofs.Common.{subst}
use Rattle.std.proofs.Math.Logic.{∥∥₁_map}
use Rattle.txn_programs.specs.declared.arguments.Call.{Call}
use Rattle.stm_desk.specs.History.{Begins, History}
use Rattle.stm_service.specs.Telling.{IsToldWithin}
use Rattle.stm_service.proofs.InTime.{answered_in_time, refused_in_time}
use Rattle.stm_service.proofs.service.Service.try_within.Goals as goal

pub returns-in-Waits-clause-answered : goal.returns-in-Waits-clause-answered
returns-in-Waits-clause-answered g c =
    let w = c.in-Waits in
    let before = c.args.front.now in
    let now = c.wait_within.new.front in
    let call = c.args.call.now in
    let begins : Begins before now = subst (λ (h : History). Begins h now) w.ensures.begun.1 c.wait_within.ensures.grows in
    ∥∥₁_map c.wait_within.ensures.told (λ (k : IsToldWithin now w.awaited.ticket w.awaited.call c.wait_within.result).
    answered_in_time g.N.Naming.catalogue g.N.Naming.first before now w.awaited.ticket call c.wait_within.result w.ensures.begun.3 begins
    (subst (λ (x : Call). IsToldWithin now w.awaited.ticket x c.wait_within.result) w.ensures.begun.2 k))

pub returns-in-Refused-clause-answered : goal.returns-in-Refused-clause-answered
returns-in-Refused-clause-answered g c =
    ∥∥₁_map c.in-Refused.ensures.begun.1 (refused_in_time g.N.Naming.catalogue g.N.Naming.first c.args.front.now c.call-begun.new.front c.args.call.now c.in-Refused.why)

use Rattle.std.proofs.Common.{refl, subst}
use Rattle.std.proofs.Math.Logic.{∥∥₁_map}
use Rattle.txn_programs.specs.declared.arguments.Call.{Call}
use Rattle.stm_store.specs.declared.job.Ticket.{Ticket}
use Rattle.stm_service.specs.Telling.{IsTold}
use Rattle.stm_service.proofs.Histories.{told_longer}
use Rattle.stm_service.proofs.seat.Seat.hear.Goals as goal

pub returns-in-Some-clause-told : goal.returns-in-Some-clause-told
returns-in-Some-clause-told g c =
    let s = c.args.self.now in
    let h = c.in-Some.heard in
    let new = c.learn.new.self in
    let told : ∥ IsTold new s.ticket s.call h.answer ∥₁ = ∥∥₁_map (s.told h c.in-Some.is) (told_longer h.front new s.ticket s.call h.answer c.learn.ensures.others) in
    subst (λ (x : Call). ∥ IsTold new c.args.awaited.now.ticket x h.answer ∥₁) (c.if-not-is_of.ensures.call refl)
    (subst (λ (t : Ticket). ∥ IsTold new t s.call h.answer ∥₁) (c.if-not-is_of.ensures.ticket refl) told)

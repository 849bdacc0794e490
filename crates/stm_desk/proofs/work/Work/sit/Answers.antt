use Rattle.std.proofs.Common.{sym, subst}
use Rattle.std.proofs.Math.Logic.{∥∥₁_map}
use Rattle.stm_desk.specs.Open.{HasOpenCall}
use Rattle.stm_desk.proofs.Seats.{AreTold, seat_keeps}
use Rattle.stm_desk.proofs.Settling.{seat_awaited}
use Rattle.stm_desk.proofs.work.Work.sit.Goals as goal

pub invariant_of-self-clause-seated : goal.invariant_of-self-clause-seated
invariant_of-self-clause-seated c =
    let s = c.args.self.now in
    seat_keeps c.seat.result s.store s.waiters c.seat.new.self c.args.ticket c.args.whose c.args.call.now c.requires.is_open c.seat.ensures.seated c.seat.ensures.refused s.seated

pub invariant_of-self-clause-told : goal.invariant_of-self-clause-told
invariant_of-self-clause-told c =
    let s = c.args.self.now in
    ∥∥₁_map s.told (subst (AreTold s.first.value.catalogue.now s.closed s.history.items) (sym c.seat.ensures.told))

pub give_up-requires : goal.give_up-requires
give_up-requires c = record { is_open = ∥∥₁_map c.requires.is_open (λ (o : HasOpenCall c.args.self.now.store c.args.ticket c.args.call.now). o.has) }

pub returns-then-is_ok-clause-awaited : goal.returns-then-is_ok-clause-awaited
returns-then-is_ok-clause-awaited c =
    let s = c.args.self.now in
    seat_awaited c.seat.result s.store s.waiters c.seat.new.self c.args.ticket c.args.whose c.args.call.now c.seat.ensures.seated c.seat.ensures.refused

pub returns-clause-awaited : goal.returns-clause-awaited
returns-clause-awaited c all =
    let s = c.args.self.now in
    c.give_up.ensures.awaited (seat_awaited c.seat.result s.store s.waiters c.seat.new.self c.args.ticket c.args.whose c.args.call.now c.seat.ensures.seated c.seat.ensures.refused all)

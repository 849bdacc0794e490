use Rattle.std.proofs.Common.{refl, sym, subst}
use Rattle.std.proofs.Math.Logic.{∥∥₁_map}
use Rattle.stm_desk.specs.declared.answers.Became.TheVariants as became
use Rattle.stm_desk.specs.History.{History}
use Rattle.stm_desk.specs.Keeping.{Accounts}
use Rattle.stm_desk.proofs.Becoming.{gives_up, gives_up_served, open_gives_up}
use Rattle.stm_desk.proofs.Legal.{accounts_become, counted_more, place_left}
use Rattle.stm_desk.proofs.Seats.{AreTold, all_told_on, seated_but}
use Rattle.stm_desk.proofs.Settling.{gives_up_awaited, gives_up_running}
use Rattle.stm_desk.proofs.work.Work.give_up.Goals as goal

pub unreachable-requires : goal.unreachable-requires
unreachable-requires c =
    open_gives_up c.args.self.now.store c.give_up.new.self c.args.ticket c.in_default.field-0 c.requires.is_open c.in_default.ensures.given_up

pub note-requires : goal.note-requires
note-requires c =
    let s = c.args.self.now in
    place_left s.first.value s.store s.history.items s.places s.counted c.law.ensures.tickets s.accounts

pub invariant_of-self-clause-counted : goal.invariant_of-self-clause-counted
invariant_of-self-clause-counted c =
    let s = c.args.self.now in
    counted_more s.places c.note.new.places s.history.items c.note.new.history.items (c.args.ticket, became.Left) s.counted c.note.ensures.places c.note.ensures.history

pub invariant_of-self-clause-accounts : goal.invariant_of-self-clause-accounts
invariant_of-self-clause-accounts c =
    let s = c.args.self.now in
    let new = c.give_up.new.self in
    ∥∥₁_map s.accounts (λ (a : Accounts s.first.value s.store s.history.items).
    subst (λ (h : History). Accounts s.first.value new h) (sym c.note.ensures.history)
    (accounts_become s.first.value s.store new s.history.items c.args.ticket became.Left a
    (gives_up s.store new c.args.ticket c.in-Ok.ensures.kept c.law.ensures.tickets c.in-Ok.ensures.given_up)))

pub invariant_of-self-clause-seated : goal.invariant_of-self-clause-seated
invariant_of-self-clause-seated c =
    let s = c.args.self.now in
    let w = c.leave-waited in
    seated_but s.store c.give_up.new.self s.waiters w.new.self c.args.ticket
    (gives_up s.store c.give_up.new.self c.args.ticket c.in-Ok.ensures.kept c.law.ensures.tickets c.in-Ok.ensures.given_up).stays w.ensures.gone w.ensures.others s.seated

pub invariant_of-self-clause-told : goal.invariant_of-self-clause-told
invariant_of-self-clause-told c =
    let s = c.args.self.now in
    ∥∥₁_map s.told (λ (k : AreTold s.first.value.catalogue.now s.closed s.history.items s.waiters.told.items).
    subst (AreTold s.first.value.catalogue.now s.closed c.note.new.history.items) (sym c.leave-waited.ensures.told)
    (subst (λ (h : History). AreTold s.first.value.catalogue.now s.closed h s.waiters.told.items) (sym c.note.ensures.history)
    (all_told_on s.first.value.catalogue.now s.closed s.history.items (c.args.ticket, became.Left) s.waiters.told.items k)))

pub returns-clause-served : goal.returns-clause-served
returns-clause-served c = gives_up_served c.args.self.now.store c.give_up.new.self c.args.ticket c.in-Ok.ensures.given_up

pub returns-clause-awaited : goal.returns-clause-awaited
returns-clause-awaited c =
    let s = c.args.self.now in
    gives_up_awaited s.store c.give_up.new.self s.waiters c.leave-waited.new.self c.args.ticket c.in-Ok.ensures.kept c.law.ensures.tickets c.in-Ok.ensures.given_up c.leave-waited.ensures.others

pub returns-clause-hands_out : goal.returns-clause-hands_out
returns-clause-hands_out c =
    let s = c.args.self.now in
    record { due = refl; long = refl; runs = λ k r. (gives_up_running s.store c.give_up.new.self c.args.ticket k c.in-Ok.ensures.given_up r).0 }

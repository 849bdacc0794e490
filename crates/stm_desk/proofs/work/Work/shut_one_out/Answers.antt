use Rattle.std.proofs.Common.{refl, sym, subst}
use Rattle.std.proofs.Math.Logic.{∥∥₁_map}
use Rattle.stm_desk.specs.declared.answers.Became.TheVariants as became
use Rattle.stm_desk.specs.History.{History}
use Rattle.stm_desk.specs.Keeping.{Accounts}
use Rattle.stm_desk.proofs.Becoming.{gives_up, gives_up_served, open_gives_up}
use Rattle.stm_desk.proofs.Handing.{shut_nothing, shut_told}
use Rattle.stm_desk.proofs.Legal.{accounts_become, counted_more, place_left}
use Rattle.stm_desk.proofs.Seats.{seated_but, told_shut, waits_open}
use Rattle.stm_desk.proofs.Settling.{gives_up_awaited, keeps_nothing}
use Rattle.stm_desk.proofs.work.Work.shut_one_out.Goals as goal

pub unreachable-requires : goal.unreachable-requires
unreachable-requires c =
    let s = c.args.self.now in
    open_gives_up s.store c.give_up.new.self c.in-Some.ticket c.in_default-give_up.field-0 (waits_open s.store s.waiters c.in-Some.ticket s.seated c.in-Some.ensures.some) c.in_default-give_up.ensures.given_up

pub note-requires : goal.note-requires
note-requires c =
    let s = c.args.self.now in
    place_left s.first.value s.store s.history.items s.places s.counted c.law.ensures.tickets s.accounts

pub invariant_of-self-clause-counted : goal.invariant_of-self-clause-counted
invariant_of-self-clause-counted c =
    let s = c.args.self.now in
    counted_more s.places c.note.new.places s.history.items c.note.new.history.items _ s.counted c.note.ensures.places c.note.ensures.history

pub invariant_of-self-clause-accounts : goal.invariant_of-self-clause-accounts
invariant_of-self-clause-accounts c =
    let s = c.args.self.now in
    let new = c.give_up.new.self in
    ∥∥₁_map s.accounts (λ (a : Accounts s.first.value s.store s.history.items).
    subst (λ (h : History). Accounts s.first.value new h) (sym c.note.ensures.history)
    (accounts_become s.first.value s.store new s.history.items c.in-Some.ticket became.Left a
    (gives_up s.store new c.in-Some.ticket c.in-Ok.ensures.kept c.law.ensures.tickets c.in-Ok.ensures.given_up)))

pub invariant_of-self-clause-seated : goal.invariant_of-self-clause-seated
invariant_of-self-clause-seated c =
    let s = c.args.self.now in
    seated_but s.store c.give_up.new.self s.waiters c.tell.new.self c.in-Some.ticket
    (gives_up s.store c.give_up.new.self c.in-Some.ticket c.in-Ok.ensures.kept c.law.ensures.tickets c.in-Ok.ensures.given_up).stays c.tell.ensures.gone c.tell.ensures.others s.seated

pub invariant_of-self-clause-told : goal.invariant_of-self-clause-told
invariant_of-self-clause-told c =
    let s = c.args.self.now in
    told_shut s.first.value.catalogue.now s.closed s.waiters c.in-Some.ticket s.history.items c.note.new.history.items c.tell.new.self.told.items c.requires.closed c.note.ensures.history c.tell.ensures.told s.told

pub returns-clause-served : goal.returns-clause-served
returns-clause-served c = gives_up_served c.args.self.now.store c.give_up.new.self c.in-Some.ticket c.in-Ok.ensures.given_up

pub returns-in_default-clause-told : goal.returns-in_default-clause-told
returns-in_default-clause-told c = shut_nothing c.args.self.now.waiters c.args.self.now.waiters refl

pub returns-in_default-clause-kept : goal.returns-in_default-clause-kept
returns-in_default-clause-kept c = keeps_nothing c.args.self.now.store

pub returns-clause-told : goal.returns-clause-told
returns-clause-told c = shut_told c.args.self.now.waiters c.tell.new.self c.in-Some.ticket c.tell.ensures.gone c.tell.ensures.others c.tell.ensures.told

pub returns-clause-awaited : goal.returns-clause-awaited
returns-clause-awaited c =
    let s = c.args.self.now in
    gives_up_awaited s.store c.give_up.new.self s.waiters c.tell.new.self c.in-Some.ticket c.in-Ok.ensures.kept c.law.ensures.tickets c.in-Ok.ensures.given_up c.tell.ensures.others

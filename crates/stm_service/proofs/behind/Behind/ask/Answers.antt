use Rattle.std.proofs.Common.{sym, subst}
use Rattle.std.proofs.Math.Logic.{∥∥₁_map}
use Rattle.stm_store.specs.Tickets.{AreTickets}
use Rattle.stm_store.specs.declared.store.Store.{Store}
use Rattle.stm_desk.specs.Answering.{history_of}
use Rattle.stm_desk.specs.History.{Begins, History}
use Rattle.stm_service.proofs.Asking.{legal_on}
use Rattle.stm_service.proofs.Waiting.{awaited_on, carries_asked}
use Rattle.stm_service.proofs.Chapters.{kept_on, none_next}
use Rattle.stm_service.proofs.Keeping.{grows_on, none_lies_on, starts_on}
use Rattle.stm_service.proofs.behind.Behind.ask.Goals as goal

pub add-requires-clause-legal : goal.add-requires-clause-legal
add-requires-clause-legal g c κs within =
    let s = c.args.self.now in
    legal_on g.N.Naming.catalogue g.N.Naming.first s.desk c.ask-asked.new.self c.ask-asked.ensures.first s.named s.placed

pub invariant_of-self-clause-seated : goal.invariant_of-self-clause-seated
invariant_of-self-clause-seated g c t seat at =
    let s = c.args.self.now in
    let new = c.ask-asked.new.self in
    let tickets : AreTickets s.desk.work.store.tickets = subst (λ (x : Store). AreTickets x.tickets) c.store.ensures c.law.ensures.tickets in
    let old = s.seated t seat at in
    (old.0, λ none. ∥∥₁_map (old.1 none) (awaited_on s.desk.work.waiters new.work.waiters t seat.call (carries_asked s.desk new _ c.args.way c.ask-asked.result tickets c.ask-asked.ensures.asked)))

pub returns-clause-grows : goal.returns-clause-grows
returns-clause-grows g c =
    let s = c.args.self.now in
    subst (λ (h : History). Begins s.front h) (sym c.add.ensures) (subst (λ (h : History). Begins h (history_of c.ask-asked.new.self)) (sym s.shown) c.ask-asked.ensures.history)

pub invariant_of-self-clause-kept : goal.invariant_of-self-clause-kept
invariant_of-self-clause-kept g c dropped =
    let s = c.args.self.now in
    kept_on s.desk.work c.ask-asked.new.self.work c.ask-asked.ensures.last (s.kept dropped)

pub invariant_of-self-clause-none_lies : goal.invariant_of-self-clause-none_lies
invariant_of-self-clause-none_lies g c =
    let s = c.args.self.now in
    none_lies_on s.desk.work c.ask-asked.new.self.work c.ask-asked.ensures.last s.none_lies

pub invariant_of-self-clause-starts : goal.invariant_of-self-clause-starts
invariant_of-self-clause-starts g c kept =
    let s = c.args.self.now in
    starts_on g.N.Naming.catalogue g.N.Naming.first s.began s.desk.work.store c.ask-asked.new.self.work.store c.ask-asked.ensures.within (s.starts kept)

pub invariant_of-self-clause-grows : goal.invariant_of-self-clause-grows
invariant_of-self-clause-grows g c =
    let s = c.args.self.now in
    let more : Begins s.front c.add.new.self = subst (λ (h : History). Begins s.front h) (sym c.add.ensures) (subst (λ (h : History). Begins h (history_of c.ask-asked.new.self)) (sym s.shown) c.ask-asked.ensures.history) in
    grows_on s.began s.front c.add.new.self more s.grows

pub returns-clause-full : goal.returns-clause-full
returns-clause-full g c is room =
    let s = c.args.self.now in
    let new = c.ask-asked.new.self in
    none_next s.desk new _ c.args.way c.ask-asked.result (none_lies_on s.desk.work new.work c.ask-asked.ensures.last s.none_lies) c.ask-asked.ensures.asked is room

use Rattle.std.proofs.Common.{◌<◌, length, ap, sym, subst}
use Rattle.std.proofs.Math.Logic.{∥∥₁_map}
use Rattle.stm_store.specs.declared.store.Store.{Store}
use Rattle.stm_desk.specs.declared.desk.Desk.{Desk}
use Rattle.stm_service.proofs.Chapters.{kept_on}
use Rattle.stm_service.proofs.Handing.{fewer_due}
use Rattle.stm_service.proofs.Keeping.{none_lies_on, starts_as}
use Rattle.stm_service.proofs.Waiting.{awaited_on, carries_equal}
use Rattle.stm_service.proofs.behind.Behind.hand_job.Goals as goal

pub invariant_of-self-clause-seated : goal.invariant_of-self-clause-seated
invariant_of-self-clause-seated g c t seat at =
    let s = c.args.self.now in
    let w = s.desk.work.waiters in
    let v = c.next_due.new.self.work.waiters in
    let old = s.seated t seat at in
    (old.0, λ none. ∥∥₁_map (old.1 none) (awaited_on w v t seat.call (carries_equal w v c.next_due.ensures.waiters)))

pub invariant_of-self-clause-kept : goal.invariant_of-self-clause-kept
invariant_of-self-clause-kept g c dropped =
    let s = c.args.self.now in
    kept_on s.desk.work c.next_due.new.self.work c.next_due.ensures.last (s.kept dropped)

pub invariant_of-self-clause-none_lies : goal.invariant_of-self-clause-none_lies
invariant_of-self-clause-none_lies g c =
    let s = c.args.self.now in
    none_lies_on s.desk.work c.next_due.new.self.work c.next_due.ensures.last s.none_lies

pub invariant_of-self-clause-starts : goal.invariant_of-self-clause-starts
invariant_of-self-clause-starts g c kept =
    let s = c.args.self.now in
    starts_as g.N.Naming.catalogue g.N.Naming.first s.began s.desk.work.store c.next_due.new.self.work.store (ap (λ (x : Store). x.book.catalogue) c.next_due.ensures.store) (s.starts kept)

pub returns-clause-fewer : goal.returns-clause-fewer
returns-clause-fewer g c is =
    let s = c.args.self.now in
    let h = c.in-Some.ensures.handed in
    let less = fewer_due h.0 c.next_due.new.self.work.due.items s.desk.work.due.items c.in-Some.due.job h.2 in
    subst (λ (d : Desk). length d.work.due.items < length s.desk.work.due.items) (sym c.hand.ensures.desk) less

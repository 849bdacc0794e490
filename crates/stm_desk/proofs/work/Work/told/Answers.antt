use Rattle.std.proofs.Common.{ap}
use Rattle.std.proofs.Math.Logic.{∥∥₁_map}
use Rattle.std.specs.BTreeMap.{get}
use Rattle.std.specs.Ordering.{nat_cmp}
use Rattle.stm_desk.proofs.Seats.{seated_same, told_next, told_rest}
use Rattle.stm_desk.proofs.work.Work.told.Goals as goal

pub invariant_of-self-clause-seated : goal.invariant_of-self-clause-seated
invariant_of-self-clause-seated c =
    let s = c.args.self.now in
    seated_same s.store s.waiters c.next.new.self (λ t. ap (λ calls. get nat_cmp calls t) c.next.ensures.calls) s.seated

pub invariant_of-self-clause-told : goal.invariant_of-self-clause-told
invariant_of-self-clause-told c =
    let s = c.args.self.now in
    ∥∥₁_map s.told (told_rest s.first.value.catalogue.now s.closed s.history.items c.next.result s.waiters.told.items c.next.new.self.told.items c.next.ensures.told)

pub returns-clause-is : goal.returns-clause-is
returns-clause-is c =
    let s = c.args.self.now in
    told_next s.first.value.catalogue.now s.closed s.history.items c.next.result s.waiters.told.items c.next.new.self.told.items c.next.ensures.told s.told

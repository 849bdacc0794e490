use Rattle.std.proofs.Common.{◌∙◌, sym, subst}
use Rattle.std.proofs.Math.Logic.{∥∥₁_map}
use Rattle.stm_desk.specs.Answering.{history_of}
use Rattle.stm_desk.specs.History.{Begins, History}
use Rattle.stm_service.proofs.Asking.{legal_on}
use Rattle.stm_service.proofs.Looking.{closed_idle}
use Rattle.stm_service.proofs.Chapters.{kept_on}
use Rattle.stm_service.proofs.Keeping.{grows_on, none_lies_on, starts_as}
use Rattle.stm_service.proofs.Waiting.{awaited_on, carries_hands_on}
use Rattle.stm_service.proofs.behind.Behind.settle.Goals as goal

pub add-requires-clause-legal : goal.add-requires-clause-legal
add-requires-clause-legal g c κs within =
    let s = c.args.self.now in
    legal_on g.N.Naming.catalogue g.N.Naming.first s.desk c.settle.new.self c.settle.ensures.settled.goes_on.first s.named s.placed

pub add-requires-clause-begins : goal.add-requires-clause-begins
add-requires-clause-begins g c κs within =
    let s = c.args.self.now in
    subst (λ (h : History). Begins h (history_of c.settle.new.self)) (sym s.shown) c.settle.ensures.settled.goes_on.history

pub invariant_of-self-clause-seated : goal.invariant_of-self-clause-seated
invariant_of-self-clause-seated g c t seat at =
    let s = c.args.self.now in
    let w = s.desk.work.waiters in
    let v = c.settle.new.self.work.waiters in
    let old = s.seated t seat at in
    (old.0, λ none. ∥∥₁_map (old.1 none) (awaited_on w v t seat.call (carries_hands_on w v c.settle.ensures.settled.hands_on)))

pub invariant_of-self-clause-kept : goal.invariant_of-self-clause-kept
invariant_of-self-clause-kept g c dropped =
    let s = c.args.self.now in
    kept_on s.desk.work c.settle.new.self.work c.settle.ensures.settled.goes_on.last (s.kept dropped)

pub invariant_of-self-clause-none_lies : goal.invariant_of-self-clause-none_lies
invariant_of-self-clause-none_lies g c =
    let s = c.args.self.now in
    none_lies_on s.desk.work c.settle.new.self.work c.settle.ensures.settled.goes_on.last s.none_lies

pub invariant_of-self-clause-starts : goal.invariant_of-self-clause-starts
invariant_of-self-clause-starts g c kept =
    let s = c.args.self.now in
    starts_as g.N.Naming.catalogue g.N.Naming.first s.began s.desk.work.store c.settle.new.self.work.store c.settle.ensures.settled.listing (s.starts kept)

pub invariant_of-self-clause-grows : goal.invariant_of-self-clause-grows
invariant_of-self-clause-grows g c =
    let s = c.args.self.now in
    let more : Begins s.front c.add.new.self = subst (λ (h : History). Begins s.front h) (sym c.add.ensures) (subst (λ (h : History). Begins h (history_of c.settle.new.self)) (sym s.shown) c.settle.ensures.settled.goes_on.history) in
    grows_on s.began s.front c.add.new.self more s.grows

pub returns-then-self-clause-idle : goal.returns-then-self-clause-idle
returns-then-self-clause-idle g c =
    let s = c.args.self.now in
    closed_idle s.desk (sym s.shut ∙ c.if-self.true)

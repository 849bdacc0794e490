use Rattle.std.proofs.Common.{◌∙◌, Ok, refl, ap, sym, subst}
use Rattle.std.proofs.Math.Logic.{∥∥₁_map}
use Rattle.stm_store.specs.declared.store.Store.{Store}
use Rattle.stm_desk.specs.declared.ended.Last.TheVariants as last
use Rattle.stm_desk.specs.declared.work.Work.{Work}
use Rattle.stm_desk.specs.Ending.{IsNotKept}
use Rattle.stm_service.proofs.Keeping.{starts_as, taken_back}
use Rattle.stm_service.proofs.Waiting.{awaited_on, carries_equal}
use Rattle.stm_service.proofs.behind.Behind.chapter_kept.Goals as goal

pub unreachable-requires : goal.unreachable-requires
unreachable-requires g c =
    c.in-Err.ensures.0 (c.if-not-has_out.ensures.0 refl ∙ ap (λ n. last.Out n) c.number-number.ensures)

pub invariant_of-self-clause-named : goal.invariant_of-self-clause-named
invariant_of-self-clause-named g c =
    let s = c.args.self.now in
    let is = taken_back s.desk.work c.kept.new.self.work c.args.chapter.ended last.Kept (Ok tt) c.in-Ok.ensures in
    ap (λ (x : Store). x.catalogue.now) is.first ∙ s.named

pub invariant_of-self-clause-placed : goal.invariant_of-self-clause-placed
invariant_of-self-clause-placed g c =
    let s = c.args.self.now in
    let is = taken_back s.desk.work c.kept.new.self.work c.args.chapter.ended last.Kept (Ok tt) c.in-Ok.ensures in
    ap (λ (x : Store). x.book.present.state) is.first ∙ s.placed

pub invariant_of-self-clause-kept : goal.invariant_of-self-clause-kept
invariant_of-self-clause-kept g c dropped = ∣ ap (λ (w : Work). w.last) c.in-Ok.ensures.1 ∣₁

pub invariant_of-self-clause-none_lies : goal.invariant_of-self-clause-none_lies
invariant_of-self-clause-none_lies g c lies = subst IsNotKept (ap (λ (w : Work). w.last) c.in-Ok.ensures.1) lies

pub invariant_of-self-clause-starts : goal.invariant_of-self-clause-starts
invariant_of-self-clause-starts g c kept =
    let s = c.args.self.now in
    let is = taken_back s.desk.work c.kept.new.self.work c.args.chapter.ended last.Kept (Ok tt) c.in-Ok.ensures in
    starts_as g.N.Naming.catalogue g.N.Naming.first s.began s.desk.work.store c.kept.new.self.work.store (ap (λ (x : Store). x.book.catalogue) is.store) (s.starts (sym c.say.ensures.kept ∙ kept))

pub invariant_of-self-clause-shown : goal.invariant_of-self-clause-shown
invariant_of-self-clause-shown g c =
    let s = c.args.self.now in
    let is = taken_back s.desk.work c.kept.new.self.work c.args.chapter.ended last.Kept (Ok tt) c.in-Ok.ensures in
    s.shown ∙ sym is.history

pub invariant_of-self-clause-seated : goal.invariant_of-self-clause-seated
invariant_of-self-clause-seated g c t seat at =
    let s = c.args.self.now in
    let is = taken_back s.desk.work c.kept.new.self.work c.args.chapter.ended last.Kept (Ok tt) c.in-Ok.ensures in
    let old = s.seated t seat at in
    (old.0, λ none. ∥∥₁_map (old.1 none) (awaited_on s.desk.work.waiters c.kept.new.self.work.waiters t seat.call (carries_equal s.desk.work.waiters c.kept.new.self.work.waiters is.waiters)))

pub returns-clause-kept : goal.returns-clause-kept
returns-clause-kept g c = ap (λ (w : Work). w.last) c.in-Ok.ensures.1

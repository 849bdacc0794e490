use Rattle.std.specs.Prelude.{Bool, MatchBool}
use Rattle.std.proofs.Common.{◌≡◌, subst}
use Rattle.std.proofs.Math.Logic.{∥∥₁_map₂}
use Rattle.stm_desk.specs.History.{Begins, History}
use Rattle.stm_service.specs.Keeping.{IsChapter}
use Rattle.stm_service.proofs.Histories.{begins_both}
use Rattle.stm_service.proofs.Keeping.{follows}
use Rattle.stm_service.proofs.chapter.Chapter.follows.Goals as goal

pub returns-then-covers-clause-began : goal.returns-then-covers-clause-began
returns-then-covers-clause-began g c is =
    let began = c.args.self.now.began in
    let until = c.args.earlier.now.until in
    begins_both began until (subst (λ (b : Bool). MatchBool b (Begins began until) (Begins until began)) is c.covers-then-covers.ensures) c.if-covers.ensures

pub returns-then-covers-clause-goes_on : goal.returns-then-covers-clause-goes_on
returns-then-covers-clause-goes_on g c is =
    let s = c.args.self.now in
    let e = c.args.earlier.now in
    let same : s.began ≡ e.until = begins_both s.began e.until (subst (λ (b : Bool). MatchBool b (Begins s.began e.until) (Begins e.until s.began)) is c.covers-then-covers.ensures) c.if-covers.ensures in
    let l = g.N.Naming.catalogue in
    let m = g.N.Naming.first in
    ∥∥₁_map₂ s.told e.told (λ (p : IsChapter l m s.began s.until s.ended) (q : (b : History) × IsChapter l m b e.until e.ended.value).
    follows l m q.0 e.until s.began s.until e.ended.value s.ended same q.1 p)

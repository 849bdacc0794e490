use Rattle.std.proofs.Common.{sym, subst}
use Rattle.std.proofs.Math.Logic.{∥∥₁_map}
use Rattle.stm_desk.specs.declared.ended.Ended.{Ended}
use Rattle.stm_desk.specs.History.{History}
use Rattle.stm_service.specs.Keeping.{IsChapter}
use Rattle.stm_service.proofs.chapter.Chapter.remembered.Goals as goal

pub invariant_of-result : goal.invariant_of-result
invariant_of-result g c =
    let s = c.args.self.now in
    let l = g.N.Naming.catalogue in
    let m = g.N.Naming.first in
    record {
      told = ∥∥₁_map s.told (λ (p : IsChapter l m s.began s.until s.ended). (
        s.began,
        subst (λ (x : History). IsChapter l m s.began x c.of.result.value) (sym c.again.ensures)
            (subst (λ (x : Ended). IsChapter l m s.began s.until x) (sym c.of.ensures) p),
      ));
    }

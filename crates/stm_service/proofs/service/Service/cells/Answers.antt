use Rattle.std.proofs.Common.{◌∙◌, ap, subst}
use Rattle.stm_desk.specs.History.{History}
use Rattle.stm_service.specs.Looking.{IsStoreOf}
use Rattle.stm_service.proofs.Looking.{cells_from}
use Rattle.stm_service.proofs.service.Service.cells.Goals as goal

pub returns-clause-values : goal.returns-clause-values
returns-clause-values g c =
    let l = g.N.Naming.catalogue in
    let m = g.N.Naming.first in
    let h = c.shown.new.front in
    let s = c.store.result.now in
    let is : IsStoreOf l m h s = subst (λ (x : History). IsStoreOf l m x s) (ap (λ b. b.front) c.deref.ensures ∙ c.shown.ensures.shown) c.store.ensures.of in
    cells_from l m h s c.args.table c.args.from c.args.out.now c.cells.result c.cells.new.out is c.cells.ensures

use Rattle.std.proofs.Common.{◌≡◌, ◌∙◌, ap, subst}
use Rattle.book.specs.Chapters.{entered_in_all}
use Rattle.stm_desk.specs.History.{History}
use Rattle.stm_service.specs.Looking.{IsStoreOf}
use Rattle.stm_service.proofs.Looking.{seen}
use Rattle.stm_service.proofs.service.Service.entered.Goals as goal

pub returns-clause-seen : goal.returns-clause-seen
returns-clause-seen g c =
    let l = g.N.Naming.catalogue in
    let m = g.N.Naming.first in
    let h = c.shown.new.front in
    let s = c.store.result.now in
    let is : IsStoreOf l m h s = subst (λ (x : History). IsStoreOf l m x s) (ap (λ b. b.front) c.deref.ensures ∙ c.shown.ensures.shown) c.store.ensures.of in
    seen l m h s (λ x. c.entered.result ≡ entered_in_all x.book) is c.entered.ensures

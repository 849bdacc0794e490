use Rattle.std.proofs.Common.{◌∙◌, ap, subst}
use Rattle.stm_store.specs.Telling.{IsValueOf}
use Rattle.stm_desk.specs.History.{History}
use Rattle.stm_service.specs.Looking.{IsStoreOf}
use Rattle.stm_service.proofs.Looking.{seen, value_in}
use Rattle.stm_service.proofs.service.Service.value.Goals as goal

pub returns-clause-value : goal.returns-clause-value
returns-clause-value g c =
    let l = g.N.Naming.catalogue in
    let m = g.N.Naming.first in
    let h = c.shown.new.front in
    let s = c.store.result.now in
    let is : IsStoreOf l m h s = subst (λ (x : History). IsStoreOf l m x s) (ap (λ b. b.front) c.deref.ensures ∙ c.shown.ensures.shown) c.store.ensures.of in
    value_in l m h s c.args.name.now c.value.result is c.value.ensures

pub returns-clause-seen : goal.returns-clause-seen
returns-clause-seen g c =
    let l = g.N.Naming.catalogue in
    let m = g.N.Naming.first in
    let h = c.shown.new.front in
    let s = c.store.result.now in
    let is : IsStoreOf l m h s = subst (λ (x : History). IsStoreOf l m x s) (ap (λ b. b.front) c.deref.ensures ∙ c.shown.ensures.shown) c.store.ensures.of in
    seen l m h s (λ x. IsValueOf x.book c.args.name.now c.value.result) is c.value.ensures

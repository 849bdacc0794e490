use Rattle.std.proofs.Common.{◌∙◌, ap, refl, subst, sym}
use Rattle.std.specs.Prelude.{string_bytes}
use Rattle.book.specs.Turns.{IsIdle}
use Rattle.stm_store.specs.Telling.{IsTextOf}
use Rattle.stm_service.specs.Looking.{IsSeen, IsStoreOf}
use Rattle.stm_service.proofs.Looking.{if_ok, seen}
use Rattle.stm_service.proofs.service.Service.report.Goals as goal

pub returns-clause-seen : goal.returns-clause-seen
returns-clause-seen g c =
    let l = g.N.Naming.catalogue in
    let m = g.N.Naming.first in
    let h = c.settled.new.front in
    let b = c.deref.result.now in
    let s = b.desk.work.store in
    let is : IsStoreOf l m h s = record { desk = b.desk; named = b.named; placed = b.placed; history = sym b.shown ∙ (ap (λ x. x.front) c.deref.ensures ∙ c.settled.ensures.shown); has = refl } in
    let idle : IsIdle s.book = subst (λ x. IsIdle x.desk.work.store.book) (sym c.deref.ensures) c.settled.ensures.idle in
    if_ok (λ text. IsTextOf s.book (string_bytes text)) (λ text. IsSeen l m h (λ x. IsIdle x.book × IsTextOf x.book (string_bytes text))) c.report.result
    (λ text told. seen l m h s (λ x. IsIdle x.book × IsTextOf x.book (string_bytes text)) is (idle, told)) c.report.ensures

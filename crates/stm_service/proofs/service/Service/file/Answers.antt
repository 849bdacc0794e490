use Rattle.std.proofs.Common.{◌≡◌, ◌∙◌, ap, refl, subst, sym}
use Rattle.std.specs.Prelude.{IfErr, string_bytes}
use Rattle.txn_text.specs.Canonical.{file_text}
use Rattle.book.specs.Turns.{IsIdle}
use Rattle.stm_store.specs.Telling.{IsFileOf, IsTooLong}
use Rattle.stm_store.specs.declared.telling.FileFault.TheVariants as FileFault
use Rattle.stm_desk.specs.History.{History}
use Rattle.stm_service.specs.Looking.{IsSeen, IsStoreOf}
use Rattle.stm_service.proofs.Looking.{if_ok, seen}
use Rattle.stm_service.proofs.service.Service.file.Goals as goal

pub returns-clause-seen : goal.returns-clause-seen
returns-clause-seen g c =
    let l = g.N.Naming.catalogue in
    let m = g.N.Naming.first in
    let h = c.settled.new.front in
    let s = c.store.result.now in
    let is : IsStoreOf l m h s = subst (λ (x : History). IsStoreOf l m x s) (ap (λ b. b.front) c.deref.ensures ∙ c.settled.ensures.shown) c.store.ensures.of in
    let idle : IsIdle s.book = subst (λ x. IsIdle x.book) (sym c.store.ensures.here) (subst (λ b. IsIdle b.desk.work.store.book) (sym c.deref.ensures) c.settled.ensures.idle) in
    if_ok (λ text. IsFileOf s.book (string_bytes text)) (λ text. IsSeen l m h (λ x. IsIdle x.book × IsFileOf x.book (string_bytes text))) c.file.result
    (λ text told. seen l m h s (λ x. IsIdle x.book × IsFileOf x.book (string_bytes text)) is (idle, told)) c.file.ensures.file

pub returns-clause-long : goal.returns-clause-long
returns-clause-long g c e =
    let l = g.N.Naming.catalogue in
    let m = g.N.Naming.first in
    let h = c.settled.new.front in
    let s = c.store.result.now in
    let is : IsStoreOf l m h s = subst (λ (x : History). IsStoreOf l m x s) (ap (λ b. b.front) c.deref.ensures ∙ c.settled.ensures.shown) c.store.ensures.of in
    seen l m h s (λ x. IsTooLong (file_text x.book.catalogue)) is
    (subst (λ r. IfErr r (λ why. why ≡ FileFault.TooLong → IsTooLong (file_text s.book.catalogue))) e c.file.ensures.long refl)

use Rattle.std.proofs.Common.{◌≡◌, ◌∙◌, [], length, arith, ap, sym, subst}
use Rattle.std.proofs.lemmas.Bool.Decides.{nat_tests}
use Rattle.stm_desk.specs.Answering.{history_of}
use Rattle.stm_desk.specs.History.{Begins, History, IsLegal}
use Rattle.stm_service.specs.Pieces.{joined}
use Rattle.stm_service.proofs.Adding.{adds_moves}
use Rattle.stm_service.proofs.Joining.{piece_shown}
use Rattle.stm_service.proofs.front.Front.try_add.Goals as goal

pub compare_exchange-found-requires : goal.compare_exchange-found-requires
compare_exchange-found-requires g c =
    let h = c.args.head.now.head_is in
    let seen = c.again-seen.ensures in
    let offer = c.plain-offer.ensures in
    let pen = c.no_pen-pen.ensures in
    let book = ap (λ s. s.book) seen ∙ (c.self.invariant.1 ∙ sym (ap (λ w. w.book) h)) in (
      ap (λ w. w.tracked) h,
      book,
      pen.0 ∙ book,
      offer.0,
      rw (ap (λ w. w.key) h, pen.1, offer.1, offer.3) (adds_moves c.again-seen.result.log _ c.self.inside.count (ap (λ s. length s.log) seen ∙ sym c.self.invariant.0)),
    )

pub invariant_of-self : goal.invariant_of-self
invariant_of-self g c =
    let ex = c.compare_exchange-found in
    let v = c.again-seen.result.log in
    let e = c.plain-offer.result.ask in
    let seen = c.again-seen.ensures in
    let desk : e.desk.value ≡ c.args.desk.now = ap (λ x. x.desk.value) c.plain-offer.ensures.1 ∙ c.of.ensures in
    let here : joined [] v ≡ c.args.self.now = ap (λ s. joined [] s.log) seen ∙ c.self.view_is in
    let begins : Begins (joined [] v) (history_of c.args.desk.now) = subst (λ (h : History). Begins h (history_of c.args.desk.now)) (sym here) c.requires.begins in
    let found : ex.result ≡ c.self.inside.count = grind (arith, nat_tests, c.if-found-count.false) in
    let is = piece_shown c.args.desk.now v ex.new.seen.log e c.self.inside.count ex.result desk (c.self.invariant.0 ∙ sym (ap (λ s. length s.log) seen)) found ex.ensures.7 begins in
    let book = ex.ensures.0 ∙ (ap (λ s. s.book) seen ∙ c.self.invariant.1) in
    let l = g.N.Naming.catalogue in
    let m = g.N.Naming.first in
    (is.0, book, subst (λ (h : History). ∥ IsLegal l m h ∥₁) (sym is.1) c.requires.legal)

pub returns : goal.returns
returns g c =
    let ex = c.compare_exchange-found in
    let v = c.again-seen.result.log in
    let e = c.plain-offer.result.ask in
    let seen = c.again-seen.ensures in
    let desk : e.desk.value ≡ c.args.desk.now = ap (λ x. x.desk.value) c.plain-offer.ensures.1 ∙ c.of.ensures in
    let here : joined [] v ≡ c.args.self.now = ap (λ s. joined [] s.log) seen ∙ c.self.view_is in
    let begins : Begins (joined [] v) (history_of c.args.desk.now) = subst (λ (h : History). Begins h (history_of c.args.desk.now)) (sym here) c.requires.begins in
    let found : ex.result ≡ c.self.inside.count = grind (arith, nat_tests, c.if-found-count.false) in
    let is = piece_shown c.args.desk.now v ex.new.seen.log e c.self.inside.count ex.result desk (c.self.invariant.0 ∙ sym (ap (λ s. length s.log) seen)) found ex.ensures.7 begins in
    is.1

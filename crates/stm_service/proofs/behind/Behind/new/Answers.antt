use Rattle.std.proofs.Common.{◌≡◌, ◌∙◌, [], ◌++◌, refl, sym, ap, subst}
use Rattle.txn_programs.specs.Listing.{Listing}
use Rattle.stm_desk.specs.Ending.{IsNotKept}
use Rattle.stm_desk.specs.Answering.{history_of}
use Rattle.stm_desk.specs.History.{History, led}
use Rattle.stm_service.proofs.Asking.{legal_of}
use Rattle.stm_service.proofs.behind.Behind.new.Goals as goal

pub add-requires-clause-begins : goal.add-requires-clause-begins
add-requires-clause-begins g c κs within =
    let h = history_of c.open-desk.result in
    (h, subst (λ (f : History). h ≡ f ++ h) (sym (c.again-front.ensures ∙ c.named-head.ensures)) refl)

pub add-requires-clause-legal : goal.add-requires-clause-legal
add-requires-clause-legal g c κs within =
    let first = c.open-desk.ensures.first in
    legal_of g.N.Naming.catalogue g.N.Naming.first c.open-desk.result (ap (λ s. s.catalogue.now) first ∙ c.requires.named) (ap (λ s. s.book.present.state) first ∙ c.requires.placed)

pub invariant_of-behind-clause-kept : goal.invariant_of-behind-clause-kept
invariant_of-behind-clause-kept g c dropped = ∣ c.open-desk.ensures.last ∣₁

pub invariant_of-behind-clause-none_lies : goal.invariant_of-behind-clause-none_lies
invariant_of-behind-clause-none_lies g c lies = subst IsNotKept c.open-desk.ensures.last lies

pub invariant_of-behind-clause-starts : goal.invariant_of-behind-clause-starts
invariant_of-behind-clause-starts g c kept =
    let l = g.N.Naming.catalogue in
    let m = g.N.Naming.first in
    let began : c.again-began.result ≡ [] = c.again-began.ensures ∙ c.named-head.ensures in
    let first : c.open-desk.result.work.store.book.catalogue.initial ≡ m =
    ap (λ (k : Listing). k.initial) c.open-desk.ensures.kept.listing ∙ c.requires.fresh (sym c.new-shelf.ensures ∙ kept) in
    ∣ first ∙ ap (led l m) (sym began) ∣₁

pub invariant_of-behind-clause-grows : goal.invariant_of-behind-clause-grows
invariant_of-behind-clause-grows g c =
    let began : c.again-began.result ≡ [] = c.again-began.ensures ∙ c.named-head.ensures in
    let h = c.add.new.self in
    ∣ (h, ap (λ (x : History). x ++ h) (sym began)) ∣₁

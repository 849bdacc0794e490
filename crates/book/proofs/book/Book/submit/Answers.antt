use Rattle.std.proofs.Common.{sym, subst, arith}
use Rattle.txn_programs.specs.Listing.{IsCallable}
use Rattle.attempt.proofs.Calls.{call_known}
use Rattle.book.specs.View.{BookView}
use Rattle.book.proofs.Kept.{kept_submitted}
use Rattle.book.proofs.book.Book.submit.Goals as goal

pub invariant_of-self : goal.invariant_of-self
invariant_of-self c =
    let s = c.self.inside in
    let l = s.chapter.listing in
    let tx = c.args.tx in
    let given = c.args.arguments.now in
    let known : IsCallable l tx given = subst (λ (b : BookView). IsCallable b.catalogue tx given) (sym c.self.view_is) c.requires in
    kept_submitted s c.add.new.self c.add-2.new.self (record { tx = tx; arguments = given }) c.self.invariant c.add-2.ensures.added
    (omega (arith, c.if-self-eq0.false))
    c.add.ensures.listing c.add.ensures.room
    (call_known l tx given c.rules.ensures.names c.rules.ensures.valued known.declared)

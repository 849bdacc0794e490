use Rattle.std.proofs.Common.{◌∙◌, ◌≤◌, ◌+◌, length, sym, ap, subst, arith}
use Rattle.book.specs.View.{BookView}
use Rattle.stm_store.specs.Tickets.{TicketsView}
use Rattle.stm_store.specs.Working.{declaring}
use Rattle.stm_store.proofs.Beginning.{chapter_each, chapter_fits}
use Rattle.stm_store.proofs.store.Store.begin_chapter.Goals as goal

pub invariant_of-self : goal.invariant_of-self
invariant_of-self c =
    let s = c.args.self.now in
    let new = c.begin_chapter.new.self in
    let is = c.begin_chapter.ensures in
    let tickets = c.keep_staying.ensures in
    record {
      declared = ap (λ (b : BookView). declaring b.catalogue) is ∙ s.declared;
      wide = ap (λ (b : BookView). length b.catalogue.initial) is ∙ (c.law.ensures.fits.values ∙ s.wide);
      shared = ap (λ (b : BookView). b.cells) is ∙ s.shared;
      own = s.own;
      counted = s.counted;
      each = ap (λ (t : TicketsView). length t.held) tickets ∙ chapter_each s.tickets.held s.book new s.each is;
      fits = subst (λ (t : TicketsView). length new.tasks + new.spare ≤ t.room) (sym tickets) (chapter_fits s.tickets.held s.tickets.room s.book new s.each s.fits (omega (arith, s.room)) is);
      room = ap (λ (b : BookView). b.room) is ∙ (s.room ∙ sym (ap (λ (t : TicketsView). t.room) tickets));
    }

use Rattle.std.proofs.Common.{◌<◌, sym, subst}
use Rattle.book.specs.View.{BookView}
use Rattle.stm_store.specs.Tickets.{TicketsView, most_tickets}
use Rattle.stm_desk.proofs.laws.next_chapter_has_room.Goals as goal

pub returns : goal.returns
returns c old new h n = (
  subst (λ (b : BookView). 0 < b.spare) (sym n.book) h.0,
  subst (λ (t : TicketsView). t.given < most_tickets) (sym n.tickets) h.1,
)

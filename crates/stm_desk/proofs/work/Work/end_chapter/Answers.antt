use Rattle.std.proofs.Common.{◌∙◌}
use Rattle.stm_desk.specs.Ending.{Settled}
use Rattle.stm_desk.proofs.Ending.{chapter_ends, last_kept}
use Rattle.stm_desk.proofs.work.Work.end_chapter.Goals as goal

-- what ran has had its turn
pub returns-clause-ended : goal.returns-clause-ended
returns-clause-ended c =
    let s = c.args.self.now in
    let mid = c.serve_all.new.self in
    let none = c.again.ensures.none c.in_default.is in
    let g = c.serve_all.ensures.settled.goes_on in
    let settled : Settled s mid = record {
      still = c.serve_all.ensures.settled.still;
      due = c.serve_all.ensures.settled.due;
      listing = c.serve_all.ensures.settled.listing;
      tickets = c.serve_all.ensures.settled.tickets;
      hands_on = c.serve_all.ensures.settled.hands_on;
      goes_on = record { first = g.first; long = g.long; catalogue = g.catalogue; chapter = g.chapter; closed = g.closed; last = g.last ∙ none.0; history = g.history };
    } in
    chapter_ends s mid c.begin_next.new.self c.begin_next.result (last_kept s.last (c.is_any_out.ensures.none c.if-is_any_out.false) none.1) settled c.begin_next.ensures.ended c.begin_next.ensures.out c.begin_next.ensures.memory c.begin_next.ensures.unchanged

pub returns-clause-awaited : goal.returns-clause-awaited
returns-clause-awaited c all k t runs held = absurd (c.begin_next.ensures.still k runs)

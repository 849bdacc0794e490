use Rattle.std.proofs.Common.{refl}
use Rattle.stm_desk.specs.Ending.{BeginsUntold}
use Rattle.stm_desk.proofs.work.Work.begin_chapter.Goals as goal

pub returns-clause-awaited : goal.returns-clause-awaited
returns-clause-awaited c all k t runs held = absurd (c.next_chapter.ensures.still k runs)

-- what ran has had its turn
pub returns-clause-begun : goal.returns-clause-begun
returns-clause-begun c =
    let is = c.next_chapter.ensures in
    let begins : BeginsUntold c.serve_all.new.self c.next_chapter.new.self = record { begins = is.begins; waiters = is.waiters; history = is.history; due = is.due } in
    (c.if-not-is_kept.ensures.0 refl, (c.serve_all.new.self, c.serve_all.ensures.settled, begins))

use Rattle.std.proofs.Common.{sym, subst}
use Rattle.book.specs.GivingUp.{GivesUpForMemory}
use Rattle.book.proofs.GivingUp.{gives_served, gives_kept}
use Rattle.book.proofs.book.Book.give_turn.Goals as goal

pub returns-clause-memory : goal.returns-clause-memory
returns-clause-memory c = λ h.
    subst GivesUpForMemory (sym c.keep_short.ensures.kept_short)
    (gives_kept c.args.every c.serve-how.result c.serve-how.new.self (gives_served c.args.self.now c.args.task c.serve-how.result c.serve-how.new.self c.serve-how.ensures.served c.serve-how.ensures.memory h))

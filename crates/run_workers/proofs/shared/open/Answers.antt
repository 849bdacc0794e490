use Rattle.std.proofs.Common.{sym, subst}
use Rattle.book.specs.GivingUp.{GivesUpForMemory}
use Rattle.book.proofs.GivingUp.{gives_opened}
use Rattle.run_workers.proofs.shared.open.Goals as goal

pub invariant_of-result-clause-given_up : goal.invariant_of-result-clause-given_up
invariant_of-result-clause-given_up g c = subst GivesUpForMemory (sym c.in_ok-book.ensures) (gives_opened c.args.catalogue.now c.args.cells.now 0)

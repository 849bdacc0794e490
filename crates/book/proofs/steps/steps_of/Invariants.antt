use Rattle.std.proofs.Common.{◌≡◌, length}
use Rattle.book.proofs.Compiling.{AreOf}
use Rattle.book.proofs.steps.steps_of.Given as goal

abbrev pub invariant-transactions : goal.invariant-transactions
invariant-transactions l = record { all : length l.transactions.items ≡ l.tx; each : AreOf l.transactions.items l.catalogue }

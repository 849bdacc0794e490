use Rattle.std.proofs.Common.{IfOk, sym, subst}
use Rattle.book_storage.specs.declared.run_report.RunReport.{RunReport}
use Rattle.book_storage.specs.PackedEntries.{told_run}
use Rattle.txn_programs.specs.Listing.{Listing}
use Rattle.run_workers.specs.GivingUp.{GaveUpForMemory}
use Rattle.run_workers.proofs.tasks.run_named.Goals as goal

pub returns-clause-memory : goal.returns-clause-memory
returns-clause-memory g c =
    subst (λ (l : Listing). IfOk c.settle.result (λ (r : RunReport). GaveUpForMemory l (told_run r))) (sym c.requires.named) c.settle.ensures.memory

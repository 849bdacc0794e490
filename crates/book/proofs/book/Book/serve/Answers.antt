use Rattle.std.proofs.Common.{◌≡◌, ◌<◌, ◌∙◌, length, ap, sym, subst}
use Rattle.txn_programs.specs.Listing.{task_tx}
use Rattle.attempt.specs.Room.{TakesMemory}
use Rattle.book.specs.declared.task.Serial.TheVariants as serial
use Rattle.book.specs.Turns.{Served}
use Rattle.book.specs.View.{BookView}
use Rattle.book.proofs.book.Book.serve.Goals as goal

pub serial_lent-requires : goal.serial_lent-requires
serial_lent-requires c = record { exists = subst (λ (b : BookView). c.args.task.0 < length b.tasks) (sym c.in-Err.ensures.unchanged) c.requires.exists }

pub returns-in-Ok-clause-served : goal.returns-in-Ok-clause-served
returns-in-Ok-clause-served c = c.in-Ok.ensures.committed.served

pub returns-in-Err-clause-served : goal.returns-in-Err-clause-served
returns-in-Err-clause-served c =
    subst (λ (b : BookView). Served b c.args.task c.serial_lent.result c.serial_lent.new.self) c.in-Err.ensures.unchanged c.serial_lent.ensures.served

pub returns-in-Err-clause-memory : goal.returns-in-Err-clause-memory
returns-in-Err-clause-memory c =
    subst (λ (b : BookView). c.serial_lent.result ≡ serial.Abandoned → TakesMemory b.catalogue (task_tx b.catalogue c.args.task)) c.in-Err.ensures.unchanged c.serial_lent.ensures.memory

pub returns-in-Err-clause-catalogue : goal.returns-in-Err-clause-catalogue
returns-in-Err-clause-catalogue c = c.serial_lent.ensures.catalogue ∙ ap (λ (b : BookView). b.catalogue) c.in-Err.ensures.unchanged

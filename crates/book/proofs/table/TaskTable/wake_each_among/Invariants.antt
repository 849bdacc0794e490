use Rattle.std.proofs.Common.{◌≡◌}
use Rattle.book.proofs.Waking.{Waking}
use Rattle.book.proofs.table.TaskTable.wake_each_among.Given as goal

abbrev pub invariant-loop-write : goal.invariant-loop-write
invariant-loop-write l = record {
  tasks : Waking l.values l.writes l.initial.self.tasks l.write-index l.self.tasks;
  variables : l.self.variables ≡ l.initial.self.variables;
  spare : l.self.spare ≡ l.initial.self.spare;
}

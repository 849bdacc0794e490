use Rattle.std.proofs.Common.{◌≡◌, ◌≢◌, ◌<◌, ◌-◌, ℕ, Some, true, map}
use Rattle.std.specs.List.{slice_get}
use Rattle.txn_programs.specs.declared.limits.TheConstants.{MAX_TASKS}
use Rattle.book.specs.Table.{woken_for, waits_for}
use Rattle.book.proofs.table.TaskTable.wake_among.Given as goal

abbrev pub invariant-loop-at : goal.invariant-loop-at
invariant-loop-at l = record {
  tasks : map (woken_for l.variable) l.self.tasks ≡ map (woken_for l.variable) l.initial.self.tasks;
  variables : l.self.variables ≡ l.initial.self.variables;
  spare : l.self.spare ≡ l.initial.self.spare;
  before : (j : ℕ) → j < l.from → slice_get (map (waits_for l.variable) l.self.tasks) j ≢ Some true;
}

abbrev pub decreases-loop-at : goal.decreases-loop-at
decreases-loop-at l = MAX_TASKS - l.from

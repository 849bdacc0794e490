-- What is in the set of the ready tasks is a ready task.
use Rattle.std.proofs.Common.{◌≡◌, ◌<◌, ℕ, true, Some, arith}
use Rattle.std.specs.List.{slice_get}
use Rattle.std.proofs.lemmas.Option.{slice_get_within}
use Rattle.txn_programs.specs.declared.limits.TheConstants.{MAX_TASKS}
use Rattle.book.specs.declared.table.TaskTable.TheInside.{Inside}
use Rattle.book.specs.Tasks.{Ready}
use Rattle.book.specs.TableInside.{places, tasks_of, IsSorted}
use Rattle.book.proofs.Sets.{at_place, from_place, ready_in, in_ready}

pub found_ready : (b : Inside) (k : ℕ) → IsSorted b → slice_get b.ready k ≡ Some true → slice_get (tasks_of b) k ≡ Some Ready
found_ready b k h e =
    from_place (tasks_of b) b.spare k Ready (ready_in (places (tasks_of b) b.spare) b.ready b.sleepers.items k h.sets e) (λ same. cc)

pub ready_found : (b : Inside) (k : ℕ) → IsSorted b → slice_get (tasks_of b) k ≡ Some Ready → slice_get b.ready k ≡ Some true
ready_found b k h e = in_ready (places (tasks_of b) b.spare) b.ready b.sleepers.items k h.sets (at_place (tasks_of b) b.spare k Ready e)

-- its number is that of a task
pub found_few : (b : Inside) (k : ℕ) → IsSorted b → slice_get b.ready k ≡ Some true → k < MAX_TASKS
found_few b k h e =
    let at = ready_in (places (tasks_of b) b.spare) b.ready b.sleepers.items k h.sets e in
    omega (arith, slice_get_within (places (tasks_of b) b.spare) k Ready at, h.sets.few)

-- Which line is to be found, by the kind of the fault.
use Rattle.std.proofs.Common.{◌≡◌, ◌∙◌, ℕ, Bool, true, false, List, [], ◌∷◌, length, Option, Some, None, Ok, refl}
use Rattle.std.specs.Prelude.{nat_lt, is_some}
use Rattle.std.specs.List.{list_all}
use Rattle.std.specs.Str.Parse.{digits_value}
use Rattle.std.proofs.lemmas.Bool.{and_parts}
use Rattle.txn_programs.specs.declared.ast.TaskId.{TaskId}
use Rattle.txn_programs.specs.declared.ast.VarId.{VarId}
use Rattle.txn_programs.specs.declared.moves.Move.{Move}
use Rattle.txn_programs.specs.declared.moves.Move.TheVariants as move
use Rattle.txn_programs.specs.Listing.{Listing, tasks, variable_named}
use Rattle.txn_programs.specs.Limits.{limits_hold}
use Rattle.txn_programs.proofs.Lawful.{few_tasks}
use Rattle.text_words.specs.declared.fault.ReadFault.TheVariants.{Name, Limit}
use Rattle.text_line_reader.specs.CellNames.{cell_named}
use Rattle.text_line_reader.specs.Counts.{task_id, below}
use Rattle.text_line_reader.specs.ScheduleRaw.{Raw, OfTask, OfVariable, OfCell, Word}
use Rattle.text_line_reader.specs.ScheduleResolving.{is_known, names_known, variable_id, cell_id, found, task_move, variable_move, move_told, moves_told}
use Rattle.text_line_reader.specs.Schedules.{IsSchedule, IsWritten, IsFirst}
use Rattle.text_line_reader.proofs.ScheduleBacks.{told_back}
use Rattle.explain_schedules.specs.Places.{names_a_task}
use Rattle.explain_schedules.specs.Walking.{IsUneven}

pub name_uneven : (l : Listing) (bytes : List ℕ) → IsFirst l bytes Name → IsUneven l (is_known l) bytes
name_uneven l bytes f = record { raws = f.0; written = f.1.0; not_all = f.1.1 }

-- ---- where all variables are known and all tasks are there, the lines are those of moves

task_told : (l : Listing) (task : List ℕ) → nat_lt (digits_value 10 task) (length (tasks l)) ≡ true → (x : TaskId) × (task_id l task ≡ Ok x)
unfolding task_id below
task_told l task h = (record { 0 = digits_value 10 task }, rw h refl)

some_told : (o : Option VarId) → is_some o ≡ true → (x : VarId) × (found o ≡ Ok x)
some_told None h = absurd cc
some_told (Some x) h = (x, refl)

variable_told : (l : Listing) (name : List ℕ) → is_some (variable_named l name) ≡ true → (x : VarId) × (variable_id l name ≡ Ok x)
unfolding variable_id
variable_told l name h = some_told (variable_named l name) h

cell_told : (l : Listing) (table index : List ℕ) → is_some (cell_named l table index) ≡ true → (x : VarId) × (cell_id l table index ≡ Ok x)
unfolding cell_id
cell_told l table index h = some_told (cell_named l table index) h

line_told : (l : Listing) (r : Raw) → is_known l r ≡ true → names_a_task l r ≡ true → (m : Move) × (move_told l r ≡ Ok m)
line_told l (OfTask v task) k h = let t = task_told l task h in (task_move v t.0, rw t.1 refl)
line_told l (OfVariable v task name) k h = let t = task_told l task h in let x = variable_told l name k in (variable_move v t.0 x.0, rw (t.1, x.1) refl)
line_told l (OfCell v task table index) k h = let t = task_told l task h in let x = cell_told l table index k in (variable_move v t.0 x.0, rw (t.1, x.1) refl)
line_told l Word k h = (move.Word, refl)

all_told : (l : Listing) (raws : List Raw) → names_known l raws ≡ true → list_all (names_a_task l) raws ≡ true → (moves : List Move) × (moves_told l raws ≡ Ok moves)
all_told l [] k h = ([], refl)
all_told l (r ∷ raws) k h =
    let p = and_parts (is_known l r) (names_known l raws) k in
    let q = and_parts (names_a_task l r) (list_all (names_a_task l) raws) h in
    let first = line_told l r p.0 q.0 in
    let others = all_told l raws p.1 q.1 in
    (first.0 ∷ others.0, rw (first.1, others.1) refl)

all_there : (l : Listing) (bytes : List ℕ) (raws : List Raw) → limits_hold l ≡ true → IsWritten l bytes raws → names_known l raws ≡ true → list_all (names_a_task l) raws ≡ true → (moves : List Move) × IsSchedule l bytes moves
all_there l bytes raws limits w k h =
    let t = all_told l raws k h in
    let b = told_back l raws t.0 limits (few_tasks l limits) w.words t.1 in
    (t.0, record { short = w.short; text = w.text ∙ b.text; fits = b.fits })

not_all : (l : Listing) (bytes : List ℕ) (raws : List Raw) (b : Bool) → list_all (names_a_task l) raws ≡ b → limits_hold l ≡ true → IsWritten l bytes raws → names_known l raws ≡ true
    → ((moves : List Move) → IsSchedule l bytes moves → ⊥) → b ≡ false
not_all l bytes raws true e limits w k none = absurd (let s = all_there l bytes raws limits w k e in none s.0 s.1)
not_all l bytes raws false e limits w k none = refl

pub limit_uneven : (l : Listing) (bytes : List ℕ) → limits_hold l ≡ true → IsFirst l bytes Limit → IsUneven l (names_a_task l) bytes
limit_uneven l bytes limits f = record { raws = f.0; written = f.1.0; not_all = not_all l bytes f.0 (list_all (names_a_task l) f.0) refl limits f.1.0 f.1.1 f.1.2 }

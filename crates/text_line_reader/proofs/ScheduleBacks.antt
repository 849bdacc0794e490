-- The moves of lines are written as these lines.
use Rattle.std.proofs.Common.{◌≡◌, ◌∙◌, ℕ, ◌≤◌, Bool, true, List, [], ◌∷◌, length, Ok, refl, sym, ap, subst}
use Rattle.std.specs.Prelude.{All}
use Rattle.std.specs.Fmt.{decimal}
use Rattle.std.specs.List.{AllByRecursion}
use Rattle.std.proofs.lemmas.List.Elements.{All-from_recursion}
use Rattle.txn_programs.specs.declared.ast.TaskId.{TaskId}
use Rattle.txn_programs.specs.declared.ast.VarId.{VarId}
use Rattle.txn_programs.specs.declared.limits.TheConstants.{MAX_TASKS}
use Rattle.txn_programs.specs.declared.moves.Move.{Move}
use Rattle.txn_programs.specs.declared.moves.Move.TheVariants as move
use Rattle.txn_programs.specs.Limits.{limits_hold}
use Rattle.txn_programs.specs.Listing.{Listing, tasks}
use Rattle.text_report_printer.specs.Names.{value_name}
use Rattle.text_report_printer.specs.ReportText.{cell_text}
use Rattle.text_words.specs.Words.{line}
use Rattle.text_words.proofs.Steps.{bind_ok, ok_is}
use Rattle.text_line_reader.specs.Counts.{task_id}
use Rattle.text_line_reader.specs.Reports.{knows_cells}
use Rattle.text_line_reader.proofs.Backs.{TaskBack, task_id_back, Pairs, each_back, pairs_text, pairs_all}
use Rattle.text_line_reader.specs.declared.schedule.raw.TaskVerb.{TaskVerb}
use Rattle.text_line_reader.specs.declared.schedule.raw.TaskVerb.TheVariants as of_task
use Rattle.text_line_reader.specs.declared.schedule.raw.VariableVerb.{VariableVerb}
use Rattle.text_line_reader.specs.declared.schedule.raw.VariableVerb.TheVariants as of_variable
use Rattle.text_line_reader.specs.ScheduleRaw.{Raw, OfTask, OfVariable, OfCell, Word, task_word, variable_word, raw_words, raw_text, IsRaw}
use Rattle.text_line_reader.specs.ScheduleResolving.{task_move, variable_move, cell_id, variable_id, move_told, moves_told}
use Rattle.text_line_reader.specs.Spelling.{move_words, schedule_text, TaskFits, VariableFits, MoveFits}
use Rattle.text_line_reader.proofs.SchedulePlaces.{HasName, variable_back, cell_has_name}

-- ---- the words of a verb's move

pub task_words : (l : Listing) (v : TaskVerb) (task : TaskId) → move_words l (task_move v task) ≡ task_word v ∷ decimal task.0 ∷ []
task_words l of_task.Begin task = refl
task_words l of_task.Commit task = refl
task_words l of_task.Drop task = refl
task_words l of_task.Value task = refl
task_words l of_task.Second task = refl
task_words l of_task.Ask task = refl
task_words l of_task.Again task = refl
task_words l of_task.Move task = refl

task_fits : (l : Listing) (v : TaskVerb) (task : TaskId) → TaskFits l task → MoveFits l (task_move v task)
task_fits l of_task.Begin task h = h
task_fits l of_task.Commit task h = h
task_fits l of_task.Drop task h = h
task_fits l of_task.Value task h = h
task_fits l of_task.Second task h = h
task_fits l of_task.Ask task h = h
task_fits l of_task.Again task h = h
task_fits l of_task.Move task h = h

pub variable_words : (l : Listing) (v : VariableVerb) (task : TaskId) (x : VarId) → move_words l (variable_move v task x) ≡ variable_word v ∷ decimal task.0 ∷ value_name l x.0 ∷ []
variable_words l of_variable.Read task x = refl
variable_words l of_variable.First task x = refl

variable_fits : (l : Listing) (v : VariableVerb) (task : TaskId) (x : VarId) → TaskFits l task → VariableFits l x → MoveFits l (variable_move v task x)
variable_fits l of_variable.Read task x h k = (h, k)
variable_fits l of_variable.First task x h k = (h, k)

-- ---- one line

pub record MoveBack (l : Listing) (r : Raw) (m : Move) : Type 0 where
  pub text : line (raw_words r) ≡ line (move_words l m)
  pub fits : MoveFits l m

-- a variable or a cell of this name
name_back : (l : Listing) (v : VariableVerb) (task : TaskId) (number name : List ℕ) (x : VarId) → TaskBack l number task → HasName l name x → (r : Raw) → raw_words r ≡ variable_word v ∷ number ∷ name ∷ [] → MoveBack l r (variable_move v task x)
name_back l v task number name x t h r words =
    record {
      text = ap line words ∙ ap (λ (n : List ℕ). line (variable_word v ∷ n ∷ name ∷ [])) (sym t.written)
          ∙ ap (λ (n : List ℕ). line (variable_word v ∷ decimal task.0 ∷ n ∷ [])) (sym h.name_is) ∙ ap line (sym (variable_words l v task x));
      fits = variable_fits l v task x t.known h.known;
    }

move_back : (l : Listing) (cells : Bool) → limits_hold l ≡ true → length (tasks l) ≤ MAX_TASKS → (r : Raw) (m : Move) → IsRaw cells r → move_told l r ≡ Ok m → MoveBack l r m
move_back l cells limits few (OfTask v number) m is e =
    let a = bind_ok (task_id l number) _ m e in
    let task = task_id_back l number a.0 few is a.1 in
    subst (MoveBack l (OfTask v number)) (ok_is (task_move v a.0) m a.2) (record {
      text = ap (λ (n : List ℕ). line (task_word v ∷ n ∷ [])) (sym task.written) ∙ ap line (sym (task_words l v a.0));
      fits = task_fits l v a.0 task.known;
    })
move_back l cells limits few (OfVariable v number name) m is e =
    let a = bind_ok (task_id l number) _ m e in
    let b = bind_ok (variable_id l name) _ m a.2 in
    subst (MoveBack l (OfVariable v number name)) (ok_is (variable_move v a.0 b.0) m b.2)
    (name_back l v a.0 number name b.0 (task_id_back l number a.0 few is.0 a.1) (variable_back l name b.0 b.1) (OfVariable v number name) refl)
move_back l cells limits few (OfCell v number table index) m is e =
    let a = bind_ok (task_id l number) _ m e in
    let b = bind_ok (cell_id l table index) _ m a.2 in
    subst (MoveBack l (OfCell v number table index)) (ok_is (variable_move v a.0 b.0) m b.2)
    (name_back l v a.0 number (cell_text table index) b.0 (task_id_back l number a.0 few is.1 a.1) (cell_has_name l table index b.0 limits is.3 b.1) (OfCell v number table index) refl)
move_back l cells limits few Word m is e = subst (MoveBack l Word) (ok_is move.Word m e) (record { text = refl; fits = tt })

-- ---- all lines

pub record MovesBack (l : Listing) (raws : List Raw) (moves : List Move) : Type 0 where
  pub text : raw_text raws ≡ schedule_text l moves
  pub fits : All (MoveFits l) moves

pub told_back : (l : Listing) (raws : List Raw) (moves : List Move) → limits_hold l ≡ true → length (tasks l) ≤ MAX_TASKS → AllByRecursion (IsRaw (knows_cells l)) raws → moves_told l raws ≡ Ok moves → MovesBack l raws moves
told_back l raws moves limits few is e =
    let pairs : Pairs (MoveBack l) raws moves = each_back (IsRaw (knows_cells l)) (MoveBack l) (move_told l) (move_back l (knows_cells l) limits few) raws moves is e in
    record {
      text = pairs_text (MoveBack l) (λ r. line (raw_words r)) (λ m. line (move_words l m)) (λ r m q. q.text) raws moves pairs;
      fits = All-from_recursion (MoveFits l) moves (pairs_all (MoveBack l) (MoveFits l) (λ r m q. q.fits) raws moves pairs);
    }

-- The lines of moves are read as these moves.
use Rattle.std.proofs.Common.{◌≡◌, ◌∙◌, ℕ, ◌<◌, ◌≤◌, ◌-◌, ◌||◌, suc, Bool, true, false, List, [], ◌∷◌, length, map, Ok, refl, sym, ap, subst, arith}
use Rattle.std.specs.Prelude.{All, is_some, nat_lt, sum_by}
use Rattle.std.specs.Fmt.{decimal}
use Rattle.std.specs.List.{AllByRecursion}
use Rattle.std.proofs.lemmas.Bool.{lt-ltb, ltb-true, ltb-false}
use Rattle.std.proofs.lemmas.List.Elements.{recursion_from_All}
use Rattle.txn_programs.specs.declared.ast.TaskId.{TaskId}
use Rattle.txn_programs.specs.declared.ast.VarId.{VarId}
use Rattle.txn_programs.specs.declared.limits.TheConstants.{MAX_TASKS}
use Rattle.txn_programs.specs.declared.moves.Move.{Move}
use Rattle.txn_programs.specs.declared.moves.Move.TheVariants as move
use Rattle.txn_programs.specs.Listing.{Listing, tasks}
use Rattle.txn_programs.specs.Limits.{limits_hold}
use Rattle.txn.specs.Arities.{most_arity}
use Rattle.txn_programs.specs.Names.{names_hold}
use Rattle.text_words.specs.Words.{line}
use Rattle.text_report_printer.specs.Names.{value_name}
use Rattle.text_line_reader.specs.Words.{is_number}
use Rattle.text_line_reader.proofs.Agains.{task_id_again, small, each_again, all_again, tests_again, text_again}
use Rattle.text_line_reader.specs.declared.schedule.raw.TaskVerb.{TaskVerb}
use Rattle.text_line_reader.specs.declared.schedule.raw.TaskVerb.TheVariants as of_task
use Rattle.text_line_reader.specs.declared.schedule.raw.VariableVerb.{VariableVerb}
use Rattle.text_line_reader.specs.declared.schedule.raw.VariableVerb.TheVariants as of_variable
use Rattle.text_line_reader.specs.ScheduleRaw.{Raw, OfTask, OfVariable, OfCell, Word, variable_word, raw_words, raw_text, IsRaw}
use Rattle.text_line_reader.specs.ScheduleResolving.{is_known, names_known, task_move, variable_move, move_told, moves_told, resolved}
use Rattle.text_line_reader.specs.Spelling.{move_words, schedule_text, TaskFits, VariableFits, MoveFits}
use Rattle.text_line_reader.proofs.SchedulePlaces.{variable_again, variable_is_known, variable_is_name, spot_of, cell_is_named, cell_again}
use Rattle.text_line_reader.specs.Reports.{knows_cells}
use Rattle.text_line_reader.proofs.ScheduleBacks.{task_words, variable_words}

-- what a catalogue keeps
record Keeps (l : Listing) : Type 0 where
  names : names_hold l ≡ true
  limits : limits_hold l ≡ true
  few : length (tasks l) ≤ MAX_TASKS

-- the line of a move that names a variable or a cell
abbrev written_by : Bool → Listing → VariableVerb → TaskId → VarId → Raw
written_by true l v task x = OfVariable v (decimal task.0) (value_name l x.0)
written_by false l v task x = OfCell v (decimal task.0) (spot_of l x).0 (decimal (spot_of l x).1)

abbrev written_name : Listing → VariableVerb → TaskId → VarId → Raw
written_name l v task x = written_by (nat_lt x.0 (length l.names)) l v task x

-- the line of a move
pub written_move : Listing → Move → Raw
written_move l (move.Begin task) = OfTask of_task.Begin (decimal task.0)
written_move l (move.Read task x) = written_name l of_variable.Read task x
written_move l (move.Commit task) = OfTask of_task.Commit (decimal task.0)
written_move l (move.Drop task) = OfTask of_task.Drop (decimal task.0)
written_move l (move.First task x) = written_name l of_variable.First task x
written_move l (move.Value task) = OfTask of_task.Value (decimal task.0)
written_move l (move.Second task) = OfTask of_task.Second (decimal task.0)
written_move l (move.Ask task) = OfTask of_task.Ask (decimal task.0)
written_move l move.Word = Word
written_move l (move.Again task) = OfTask of_task.Again (decimal task.0)
written_move l (move.Move task) = OfTask of_task.Move (decimal task.0)

-- the line is read as the move
record ReadAgain (l : Listing) (r : Raw) (m : Move) : Type 0 where
  words : IsRaw (knows_cells l) r
  known : is_known l r ≡ true
  told : move_told l r ≡ Ok m
  text : line (move_words l m) ≡ line (raw_words r)

of_task_again : (l : Listing) → Keeps l → (v : TaskVerb) (task : TaskId) → TaskFits l task → ReadAgain l (OfTask v (decimal task.0)) (task_move v task)
of_task_again l keeps v task h =
    let few = keeps.few in
    record {
      words = small task.0 (omega arith);
      known = refl;
      told = rw (task_id_again l task few h) refl;
      text = ap line (task_words l v task);
    }

-- where there is a cell, cells can be told
some_table : (ts : List (List ℕ × ℕ)) (b : Bool) (n : ℕ) → n < sum_by (λ t. t.1) ts → (nat_lt 0 (length ts) || b) ≡ true
some_table [] b n h = absurd (omega (arith, h))
some_table (t ∷ ts) b n h = rw (lt-ltb 0 (suc (length ts)) (omega arith)) refl

of_variable_again : (l : Listing) → Keeps l → (v : VariableVerb) (task : TaskId) (x : VarId) → TaskFits l task × VariableFits l x → ReadAgain l (written_name l v task x) (variable_move v task x)
of_variable_again l keeps v task x h = in_case (nat_lt x.0 (length l.names)) refl
  where
    few : length (tasks l) ≤ MAX_TASKS
    few = keeps.few

    number : is_number (decimal task.0) ≡ true
    number = let task_known = h.0 in small task.0 (omega (arith, few, task_known))

    in_case : (b : Bool) → nat_lt x.0 (length l.names) ≡ b → ReadAgain l (written_name l v task x) (variable_move v task x)
    in_case true e =
        let lt = ltb-true x.0 (length l.names) e in
        let r : ReadAgain l (written_by true l v task x) (variable_move v task x) = record {
          words = (number, variable_is_name l x keeps.names lt);
          known = variable_is_known l x keeps.names lt;
          told = rw (task_id_again l task few h.0, variable_again l x keeps.names lt) refl;
          text = ap line (variable_words l v task x);
        } in
        subst (λ (b : Bool). ReadAgain l (written_by b l v task x) (variable_move v task x)) (sym e) r
    in_case false e =
        let le = ltb-false x.0 (length l.names) e in
        let here = h.1 in
        let c = cell_is_named l x keeps.names keeps.limits le h.1 in
        let r : ReadAgain l (written_by false l v task x) (variable_move v task x) = record {
          words = (some_table l.tables (nat_lt 0 (most_arity l.transactions)) (x.0 - length l.names) (omega (arith, le, here)), number, c.name, c.index);
          known = ap is_some c.id;
          told = rw (task_id_again l task few h.0, cell_again l x keeps.names keeps.limits le h.1) refl;
          text = ap line (variable_words l v task x) ∙ ap (λ (n : List ℕ). line (variable_word v ∷ decimal task.0 ∷ n ∷ [])) c.text;
        } in
        subst (λ (b : Bool). ReadAgain l (written_by b l v task x) (variable_move v task x)) (sym e) r

move_again : (l : Listing) → Keeps l → (m : Move) → MoveFits l m → ReadAgain l (written_move l m) m
unfolding written_move
move_again l keeps (move.Begin task) h = of_task_again l keeps of_task.Begin task h
move_again l keeps (move.Read task x) h = of_variable_again l keeps of_variable.Read task x h
move_again l keeps (move.Commit task) h = of_task_again l keeps of_task.Commit task h
move_again l keeps (move.Drop task) h = of_task_again l keeps of_task.Drop task h
move_again l keeps (move.First task x) h = of_variable_again l keeps of_variable.First task x h
move_again l keeps (move.Value task) h = of_task_again l keeps of_task.Value task h
move_again l keeps (move.Second task) h = of_task_again l keeps of_task.Second task h
move_again l keeps (move.Ask task) h = of_task_again l keeps of_task.Ask task h
move_again l keeps move.Word h = record { words = tt; known = refl; told = refl; text = refl }
move_again l keeps (move.Again task) h = of_task_again l keeps of_task.Again task h
move_again l keeps (move.Move task) h = of_task_again l keeps of_task.Move task h

-- ---- all lines

abbrev pub written_moves : Listing → List Move → List Raw
written_moves l moves = map (written_move l) moves

pub record MovesAgain (l : Listing) (moves : List Move) : Type 0 where
  pub words : AllByRecursion (IsRaw (knows_cells l)) (written_moves l moves)
  pub told : resolved l (written_moves l moves) ≡ Ok moves
  pub text : schedule_text l moves ≡ raw_text (written_moves l moves)

resolved_by : (l : Listing) (raws : List Raw) (moves : List Move) → names_known l raws ≡ true → moves_told l raws ≡ Ok moves → resolved l raws ≡ Ok moves
unfolding resolved
resolved_by l raws moves a b = rw a b

pub moves_again : (l : Listing) (moves : List Move) → names_hold l ≡ true → limits_hold l ≡ true → length (tasks l) ≤ MAX_TASKS → All (MoveFits l) moves → MovesAgain l moves
moves_again l moves names limits few all =
    let keeps : Keeps l = record { names = names; limits = limits; few = few } in
    let fits = recursion_from_All (MoveFits l) moves all in
    let again = λ (m : Move) (h : MoveFits l m). move_again l keeps m h in
    record {
      words = all_again (MoveFits l) (IsRaw (knows_cells l)) (written_move l) (λ m h. (again m h).words) moves fits;
      told = resolved_by l (written_moves l moves) moves
          (tests_again (MoveFits l) (is_known l) (written_move l) (λ m h. (again m h).known) moves fits)
          (each_again (MoveFits l) (written_move l) (move_told l) (λ m h. (again m h).told) moves fits);
      text = text_again (MoveFits l) (written_move l) (λ m. line (move_words l m)) (λ r. line (raw_words r)) (λ m h. (again m h).text) moves fits;
    }

-- Which faults each step may have.
use Rattle.std.proofs.Common.{◌≡◌, ℕ, Bool, true, ◌&&◌, List, [], ◌∷◌, Option, Some, None, Result}
use Rattle.std.specs.Prelude.{codes, is_some}
use Rattle.std.specs.Str.{bytes_eq}
use Rattle.txn_programs.specs.declared.ast.VarId.{VarId}
use Rattle.txn_programs.specs.Listing.{Listing, variable_named}
use Rattle.text_words.specs.declared.fault.ReadFault.{ReadFault}
use Rattle.text_words.specs.declared.fault.ReadFault.TheVariants as faults
use Rattle.text_words.proofs.Steps.{done}
use Rattle.text_line_reader.specs.Lines.{Line, Whole, Cut, parted}
use Rattle.text_line_reader.specs.Words.{is_bracketed}
use Rattle.text_line_reader.specs.CellNames.{cell_named}
use Rattle.text_line_reader.specs.Rows.{each}
use Rattle.text_line_reader.proofs.Blame.{Only, bad, ok, err, then, either, number_shape, name_shape, cell_shape, word_shape, task_id_limit, each_limit}
use Rattle.text_line_reader.specs.declared.schedule.raw.TaskVerb.{TaskVerb}
use Rattle.text_line_reader.specs.declared.schedule.raw.VariableVerb.{VariableVerb}
use Rattle.text_line_reader.specs.ScheduleRaw.{Raw, OfTask, OfVariable, OfCell, Word}
use Rattle.text_line_reader.specs.ScheduleReading.{task_verb, variable_verb, alone, of_task, named_with, cell_with, of_variable, of_verb, of_parts, move_in, raw_in, raws_at}
use Rattle.text_line_reader.specs.ScheduleResolving.{is_known, names_known, found, cell_id, variable_id, move_told, moves_told}

-- ---- lines fail by their shape alone

alone_shape : (text : List ℕ) → Only faults.Shape (alone text)
unfolding alone
alone_shape text = either faults.Shape (bytes_eq text (codes "word")) (done Word) (bad faults.Shape) (ok faults.Shape Word) (err faults.Shape)

of_task_shape : (v : TaskVerb) (rest : List ℕ) → Only faults.Shape (of_task v rest)
unfolding of_task
of_task_shape v rest = then faults.Shape _ _ (number_shape rest) (λ number. ok faults.Shape _)

named_shape : (v : VariableVerb) (number text : List ℕ) → Only faults.Shape (named_with v number text)
unfolding named_with
named_shape v number text = then faults.Shape _ _ (name_shape text) (λ name. ok faults.Shape _)

celled_shape : (v : VariableVerb) (number text : List ℕ) → Only faults.Shape (cell_with v number text)
unfolding cell_with
celled_shape v number text = then faults.Shape _ _ (cell_shape text) (λ cell. ok faults.Shape _)

of_variable_shape : (cells : Bool) (v : VariableVerb) (rest : List ℕ) → Only faults.Shape (of_variable cells v rest)
unfolding of_variable
of_variable_shape cells v rest =
    then faults.Shape _ _ (word_shape rest) (λ first. then faults.Shape _ _ (number_shape first.0)
    (λ number. either faults.Shape (cells && is_bracketed first.1) _ _ (celled_shape v number first.1) (named_shape v number first.1)))

of_verb_shape : (cells : Bool) (o : Option TaskVerb) (p : Option VariableVerb) (rest : List ℕ) → Only faults.Shape (of_verb cells o p rest)
unfolding of_verb
of_verb_shape cells (Some v) p rest = of_task_shape v rest
of_verb_shape cells None (Some v) rest = of_variable_shape cells v rest
of_verb_shape cells None None rest = err faults.Shape

parts_shape : (cells : Bool) (text : List ℕ) (o : Option (List ℕ × List ℕ)) → Only faults.Shape (of_parts cells text o)
parts_shape cells text None = alone_shape text
parts_shape cells text (Some x) = of_verb_shape cells (task_verb x.0) (variable_verb x.0) x.1

move_shape : (cells : Bool) (text : List ℕ) → Only faults.Shape (move_in cells text)
unfolding move_in
move_shape cells text = parts_shape cells text (parted 32 text)

raw_shape : (cells : Bool) (l : Line) → Only faults.Shape (raw_in cells l)
raw_shape cells (Whole text) = move_shape cells text
raw_shape cells (Cut text) = err faults.Shape

each_only : {A B : Type 0} (kind : ReadFault) (one : A → Result B ReadFault) → ((x : A) → Only kind (one x)) → (xs : List A) → Only kind (each one xs)
each_only kind one h [] = ok kind _
each_only kind one h (x ∷ xs) = then kind _ _ (h x) (λ y. then kind _ _ (each_only kind one h xs) (λ ys. ok kind _))

pub raws_shape : (cells : Bool) (ls : List Line) → Only faults.Shape (raws_at cells ls)
raws_shape cells ls = each_only faults.Shape (raw_in cells) (raw_shape cells) ls

-- ---- lines whose variables are known fail by a limit alone

found_limit : (o : Option VarId) → is_some o ≡ true → Only faults.Limit (found o)
found_limit None h = absurd cc
found_limit (Some x) h = ok faults.Limit x

variable_limit : (l : Listing) (name : List ℕ) → is_some (variable_named l name) ≡ true → Only faults.Limit (variable_id l name)
unfolding variable_id
variable_limit l name h = found_limit (variable_named l name) h

cell_limit : (l : Listing) (table index : List ℕ) → is_some (cell_named l table index) ≡ true → Only faults.Limit (cell_id l table index)
unfolding cell_id
cell_limit l table index h = found_limit (cell_named l table index) h

move_limit : (l : Listing) (r : Raw) → is_known l r ≡ true → Only faults.Limit (move_told l r)
move_limit l (OfTask v number) h = then faults.Limit _ _ (task_id_limit l number) (λ task. ok faults.Limit _)
move_limit l (OfVariable v number name) h = then faults.Limit _ _ (task_id_limit l number) (λ task. then faults.Limit _ _ (variable_limit l name h) (λ x. ok faults.Limit _))
move_limit l (OfCell v number table index) h = then faults.Limit _ _ (task_id_limit l number) (λ task. then faults.Limit _ _ (cell_limit l table index h) (λ x. ok faults.Limit _))
move_limit l Word h = ok faults.Limit _

pub told_limit : (l : Listing) (raws : List Raw) → names_known l raws ≡ true → Only faults.Limit (moves_told l raws)
told_limit l raws h = each_limit (is_known l) (move_told l) (move_limit l) raws h

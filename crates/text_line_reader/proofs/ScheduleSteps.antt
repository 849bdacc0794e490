-- What a line takes, and what is read again.
use Rattle.std.proofs.Common.{◌≡◌, ◌∙◌, ℕ, Bool, true, false, ◌&&◌, cond, List, [], ◌∷◌, ◌++◌, Option, Some, None, Ok, Err, refl, sym, ap, subst, inl, inr}
use Rattle.std.specs.Prelude.{codes}
use Rattle.std.specs.Str.{bytes_eq}
use Rattle.std.proofs.lemmas.List.{append-nil}
use Rattle.std.proofs.lemmas.Option.{same_Some}
use Rattle.std.proofs.lemmas.Slice.Eq.{bytes_eq-Decides}
use Rattle.txn_programs.specs.Names.{is_name}
use Rattle.text_report_printer.specs.ReportText.{cell_text}
use Rattle.text_words.specs.declared.fault.ReadFault.TheVariants.{Shape}
use Rattle.text_words.proofs.Steps.{bind_ok, done, ok_is, chosen}
use Rattle.text_line_reader.specs.Lines.{parted}
use Rattle.text_line_reader.specs.Words.{is_number, first_word, number_in, name_in, cell_in, is_bracketed}
use Rattle.text_line_reader.proofs.Parting.{lacks, parted_takes, parted_again}
use Rattle.text_line_reader.proofs.Numbers.{name_lacks, number_lacks}
use Rattle.text_line_reader.proofs.CellSteps.{cell_takes, cell_again, bracketed, not_bracketed}
use Rattle.text_line_reader.proofs.Steps.{Takes, text_of, word_takes, word_again, number_takes, number_again, name_takes, name_again}
use Rattle.text_line_reader.specs.declared.schedule.raw.TaskVerb.{TaskVerb}
use Rattle.text_line_reader.specs.declared.schedule.raw.TaskVerb.TheVariants as task
use Rattle.text_line_reader.specs.declared.schedule.raw.VariableVerb.{VariableVerb}
use Rattle.text_line_reader.specs.declared.schedule.raw.VariableVerb.TheVariants as variable
use Rattle.text_line_reader.specs.ScheduleRaw.{Raw, OfTask, OfVariable, OfCell, Word, task_word, variable_word, raw_words, IsRaw}
use Rattle.text_line_reader.specs.ScheduleReading.{task_verb, variable_verb, alone, of_task, named_with, cell_with, of_variable, of_verb, of_parts, move_in}

-- ---- verbs

-- one of a row of tests of a word
chosen_word : {K : Type 0} (text : K → List ℕ) (word wanted : List ℕ) (k kind : K) (next : Option K) → wanted ≡ text k → (next ≡ Some kind → word ≡ text kind) → cond (bytes_eq word wanted) (Some k) next ≡ Some kind → word ≡ text kind
chosen_word text word wanted k kind next is others e =
    elim (chosen (bytes_eq word wanted) (Some k) next (Some kind) e) [
      | inl p ↦ (bytes_eq-Decides word wanted).0 p.0 ∙ is ∙ ap text (same_Some _ _ p.1)
      | inr p ↦ others p.1
    ]

no_word : {K : Type 0} (text : K → List ℕ) (word : List ℕ) (kind : K) → (let o : Option K = None in o) ≡ Some kind → word ≡ text kind
no_word text word kind e = absurd cc

task_verb_is : (word : List ℕ) (v : TaskVerb) → task_verb word ≡ Some v → word ≡ task_word v
unfolding task_verb
task_verb_is word v e =
    chosen_word task_word word (codes "begin") task.Begin v _ refl
    (chosen_word task_word word (codes "commit") task.Commit v _ refl
    (chosen_word task_word word (codes "drop") task.Drop v _ refl
    (chosen_word task_word word (codes "value") task.Value v _ refl
    (chosen_word task_word word (codes "second") task.Second v _ refl
    (chosen_word task_word word (codes "ask") task.Ask v _ refl
    (chosen_word task_word word (codes "again") task.Again v _ refl
    (chosen_word task_word word (codes "move") task.Move v _ refl (no_word task_word word v)))))))) e

task_verb_again : (v : TaskVerb) → task_verb (task_word v) ≡ Some v
unfolding task_verb
task_verb_again task.Begin = refl
task_verb_again task.Commit = refl
task_verb_again task.Drop = refl
task_verb_again task.Value = refl
task_verb_again task.Second = refl
task_verb_again task.Ask = refl
task_verb_again task.Again = refl
task_verb_again task.Move = refl

variable_verb_is : (word : List ℕ) (v : VariableVerb) → variable_verb word ≡ Some v → word ≡ variable_word v
unfolding variable_verb
variable_verb_is word v e =
    chosen_word variable_word word (codes "read") variable.Read v _ refl
    (chosen_word variable_word word (codes "first") variable.First v _ refl (no_word variable_word word v)) e

variable_verb_again : (v : VariableVerb) → variable_verb (variable_word v) ≡ Some v
unfolding variable_verb
variable_verb_again variable.Read = refl
variable_verb_again variable.First = refl

no_task_verb : (v : VariableVerb) → task_verb (variable_word v) ≡ None
unfolding task_verb
no_task_verb variable.Read = refl
no_task_verb variable.First = refl

-- no verb has a space or a newline
pub record IsVerb (word : List ℕ) : Type 0 where
  pub spaceless : lacks 32 word ≡ true
  pub in_line : lacks 10 word ≡ true

pub task_word_is : (v : TaskVerb) → IsVerb (task_word v)
task_word_is task.Begin = record { spaceless = refl; in_line = refl }
task_word_is task.Commit = record { spaceless = refl; in_line = refl }
task_word_is task.Drop = record { spaceless = refl; in_line = refl }
task_word_is task.Value = record { spaceless = refl; in_line = refl }
task_word_is task.Second = record { spaceless = refl; in_line = refl }
task_word_is task.Ask = record { spaceless = refl; in_line = refl }
task_word_is task.Again = record { spaceless = refl; in_line = refl }
task_word_is task.Move = record { spaceless = refl; in_line = refl }

pub variable_word_is : (v : VariableVerb) → IsVerb (variable_word v)
variable_word_is variable.Read = record { spaceless = refl; in_line = refl }
variable_word_is variable.First = record { spaceless = refl; in_line = refl }

-- ---- lines

of_task_takes : (cells : Bool) (v : TaskVerb) (word rest : List ℕ) (r : Raw) → word ≡ task_word v → of_task v rest ≡ Ok r → Takes raw_words (IsRaw cells) (word ++ 32 ∷ rest) r
unfolding of_task
of_task_takes cells v word rest r is e =
    let a = bind_ok (number_in rest) _ r e in
    let number = number_takes rest a.0 a.1 in
    subst (Takes raw_words (IsRaw cells) (word ++ 32 ∷ rest)) (ok_is (OfTask v a.0) r a.2) (record {
      same = ap (λ (w : List ℕ). w ++ 32 ∷ rest) is ∙ ap (λ (t : List ℕ). task_word v ++ 32 ∷ t) number.same;
      is = number.passes;
    })

-- a variable or a cell behind its verb and a task
named_takes : (cells : Bool) (v : VariableVerb) (number text : List ℕ) (r : Raw) → is_number number ≡ true → named_with v number text ≡ Ok r → Takes raw_words (IsRaw cells) (variable_word v ++ 32 ∷ (number ++ 32 ∷ text)) r
unfolding named_with
named_takes cells v number text r h e =
    let a = bind_ok (name_in text) _ r e in
    let name = name_takes text a.0 a.1 in
    subst (Takes raw_words (IsRaw cells) (variable_word v ++ 32 ∷ (number ++ 32 ∷ text))) (ok_is (OfVariable v number a.0) r a.2) (record {
      same = ap (λ (w : List ℕ). variable_word v ++ 32 ∷ (number ++ 32 ∷ w)) name.same;
      is = (h, name.passes);
    })

celled_takes : (v : VariableVerb) (number text : List ℕ) (r : Raw) → is_number number ≡ true → cell_with v number text ≡ Ok r → Takes raw_words (IsRaw true) (variable_word v ++ 32 ∷ (number ++ 32 ∷ text)) r
unfolding cell_with
celled_takes v number text r h e =
    let a = bind_ok (cell_in text) _ r e in
    let cell = cell_takes text a.0 a.1 in
    subst (Takes raw_words (IsRaw true) (variable_word v ++ 32 ∷ (number ++ 32 ∷ text))) (ok_is (OfCell v number a.0.0 a.0.1) r a.2) (record {
      same = ap (λ (w : List ℕ). variable_word v ++ 32 ∷ (number ++ 32 ∷ w)) cell.same;
      is = (refl, h, cell.name, cell.index);
    })

either_takes : (cells bracket : Bool) (v : VariableVerb) (number text : List ℕ) (r : Raw) → is_number number ≡ true
    → cond (cells && bracket) (cell_with v number text) (named_with v number text) ≡ Ok r → Takes raw_words (IsRaw cells) (variable_word v ++ 32 ∷ (number ++ 32 ∷ text)) r
either_takes true true v number text r h e = celled_takes v number text r h e
either_takes true false v number text r h e = named_takes true v number text r h e
either_takes false bracket v number text r h e = named_takes false v number text r h e

of_variable_takes : (cells : Bool) (v : VariableVerb) (word rest : List ℕ) (r : Raw) → word ≡ variable_word v → of_variable cells v rest ≡ Ok r → Takes raw_words (IsRaw cells) (word ++ 32 ∷ rest) r
unfolding of_variable
of_variable_takes cells v word rest r is e =
    let a = bind_ok (first_word rest) _ r e in
    let b = bind_ok (number_in a.0.0) _ r a.2 in
    let number = number_takes a.0.0 b.0 b.1 in
    let t = either_takes cells (is_bracketed a.0.1) v b.0 a.0.1 r number.passes b.2 in
    record {
      same = ap (λ (w : List ℕ). w ++ 32 ∷ rest) is
          ∙ ap (λ (u : List ℕ). variable_word v ++ 32 ∷ u) (word_takes rest a.0 a.1 ∙ ap (λ (w : List ℕ). w ++ 32 ∷ a.0.1) number.same)
          ∙ t.same;
      is = t.is;
    }

verb_takes : (cells : Bool) (word rest : List ℕ) (r : Raw) (o : Option TaskVerb) (p : Option VariableVerb) → ((v : TaskVerb) → o ≡ Some v → word ≡ task_word v) → ((v : VariableVerb) → p ≡ Some v → word ≡ variable_word v)
    → of_verb cells o p rest ≡ Ok r → Takes raw_words (IsRaw cells) (word ++ 32 ∷ rest) r
unfolding of_verb
verb_takes cells word rest r (Some v) p of_o of_p e = of_task_takes cells v word rest r (of_o v refl) e
verb_takes cells word rest r None (Some v) of_o of_p e = of_variable_takes cells v word rest r (of_p v refl) e
verb_takes cells word rest r None None of_o of_p e = absurd cc

alone_takes : (cells : Bool) (text : List ℕ) (r : Raw) → alone text ≡ Ok r → Takes raw_words (IsRaw cells) text r
unfolding alone
alone_takes cells text r e =
    elim (chosen (bytes_eq text (codes "word")) (done Word) (Err Shape) (Ok r) e) [
      | inl p ↦ subst (Takes raw_words (IsRaw cells) text) (ok_is Word r p.1) (record { same = (bytes_eq-Decides text (codes "word")).0 p.0; is = tt })
      | inr p ↦ absurd (let h = p.1 in cc)
    ]

parts_take : (cells : Bool) (text : List ℕ) (r : Raw) (o : Option (List ℕ × List ℕ)) → ((x : List ℕ × List ℕ) → o ≡ Some x → text ≡ x.0 ++ 32 ∷ x.1) → of_parts cells text o ≡ Ok r → Takes raw_words (IsRaw cells) text r
parts_take cells text r None h e = alone_takes cells text r e
parts_take cells text r (Some x) h e =
    subst (λ (t : List ℕ). Takes raw_words (IsRaw cells) t r) (sym (h x refl)) (verb_takes cells x.0 x.1 r (task_verb x.0) (variable_verb x.0) (task_verb_is x.0) (variable_verb_is x.0) e)

pub move_takes : (cells : Bool) (text : List ℕ) (r : Raw) → move_in cells text ≡ Ok r → Takes raw_words (IsRaw cells) text r
unfolding move_in
move_takes cells text r e = parts_take cells text r (parted 32 text) (parted_takes 32 text) e

-- ---- again

parts_word : parted 32 (codes "word") ≡ None
unfolding parted
parts_word = refl

alone_word : alone (codes "word") ≡ Ok Word
unfolding alone
alone_word = refl

of_task_again : (v : TaskVerb) (number : List ℕ) → is_number number ≡ true → of_task v number ≡ Ok (OfTask v number)
unfolding of_task
of_task_again v number h = rw (number_again number h) refl

either_plain : (cells : Bool) (v : VariableVerb) (number text : List ℕ) → is_bracketed text ≡ false → cond (cells && is_bracketed text) (cell_with v number text) (named_with v number text) ≡ named_with v number text
either_plain true v number text h = rw h refl
either_plain false v number text h = refl

of_variable_again : (cells : Bool) (v : VariableVerb) (number name : List ℕ) → is_number number ≡ true → is_name name ≡ true → of_variable cells v (number ++ 32 ∷ name) ≡ Ok (OfVariable v number name)
unfolding of_variable named_with
of_variable_again cells v number name h k =
    rw (word_again number name (number_lacks 32 refl number h), number_again number h)
    (either_plain cells v number name (not_bracketed name (name_lacks 91 refl name k)) ∙ rw (name_again name k) refl)

of_cell_again : (v : VariableVerb) (number table index : List ℕ) → is_number number ≡ true → is_name table ≡ true → is_number index ≡ true → of_variable true v (number ++ 32 ∷ cell_text table index) ≡ Ok (OfCell v number table index)
unfolding of_variable cell_with
of_cell_again v number table index h k m =
    let bracket : is_bracketed (cell_text table index) ≡ true = ap is_bracketed (sym (append-nil (cell_text table index))) ∙ bracketed table index [] k in
    rw (word_again number (cell_text table index) (number_lacks 32 refl number h), number_again number h, bracket, cell_again table index k m) refl

pub move_again : (cells : Bool) (r : Raw) → IsRaw cells r → move_in cells (text_of (raw_words r)) ≡ Ok r
unfolding move_in of_verb
move_again cells (OfTask v number) h =
    rw (parted_again 32 (task_word v) number (task_word_is v).spaceless, task_verb_again v) (of_task_again v number h)
move_again cells (OfVariable v number name) h =
    rw (parted_again 32 (variable_word v) (number ++ 32 ∷ name) (variable_word_is v).spaceless, no_task_verb v, variable_verb_again v) (of_variable_again cells v number name h.0 h.1)
move_again true (OfCell v number table index) h =
    rw (parted_again 32 (variable_word v) (number ++ 32 ∷ cell_text table index) (variable_word_is v).spaceless, no_task_verb v, variable_verb_again v) (of_cell_again v number table index h.1 h.2 h.3)
move_again false (OfCell v number table index) h = let no = h.0 in absurd cc
move_again cells Word h = rw parts_word alone_word

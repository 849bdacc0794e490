-- What a line says, and where it stops being one.
use Rattle.std.proofs.Common.{◌≡◌, ◌∙◌, ℕ, ◌+◌, ◌≤◌, Bool, true, false, ◌&&◌, cond, List, [], ◌∷◌, ◌++◌, length, Option, Some, None, Result, Ok, Err, refl, sym, ap, subst, length-append, arith}
use Rattle.std.specs.Prelude.{codes, is_some}
use Rattle.std.specs.Str.{bytes_eq}
use Rattle.std.proofs.lemmas.List.{append-nil}
use Rattle.txn_programs.specs.Names.{is_name}
use Rattle.text_words.specs.Bytes.{is_int}
use Rattle.text_words.specs.declared.fault.ReadFault.{ReadFault}
use Rattle.text_words.specs.declared.fault.ReadFault.TheVariants.{Shape}
use Rattle.text_words.specs.Answers.{Fails}
use Rattle.text_report_printer.specs.ReportText.{cell_text}
use Rattle.text_line_reader.specs.Lines.{parted}
use Rattle.text_line_reader.specs.Words.{is_number}
use Rattle.text_line_reader.specs.Words.{first_word, number_in, name_in, cell_in, is_bracketed}
use Rattle.text_line_reader.proofs.Parting.{parted_takes, parted_again}
use Rattle.text_line_reader.proofs.Numbers.{number_lacks, name_lacks}
use Rattle.text_line_reader.proofs.Steps.{text_of, number_takes}
use Rattle.text_line_reader.proofs.CellSteps.{cell_takes, cell_lacks}
use Rattle.text_line_reader.proofs.Blame.{cell_shape}
use Rattle.text_line_reader.specs.ScheduleRaw.{Raw, OfTask, OfVariable, OfCell, Word, task_word, variable_word, raw_words}
use Rattle.text_line_reader.specs.ScheduleReading.{task_verb, variable_verb, alone, of_task, named_with, cell_with, of_variable, of_verb, move_in}
use Rattle.text_line_reader.proofs.ScheduleSteps.{task_word_is, variable_word_is, move_takes}
use Rattle.explain_schedules.specs.Words.{behind, behind_len, lacks, task_place, name_place}
use Rattle.explain_schedules.specs.Lines.{Opens, Closes, StopsAt}
use Rattle.explain_schedules.specs.declared.line.Wanted.{Wanted}
use Rattle.explain_schedules.specs.declared.line.Wanted.TheVariants as want
use Rattle.explain_schedules.proofs.Parts.{SpaceFirst, split, has_it, same_front}

-- the kinds of verbs, which the reader keeps to itself
abbrev pub Domain : {A B : Type 0} → (A → B) → Type 0
Domain {A} {B} f = A

abbrev pub TaskVerb : Type 0
TaskVerb = Domain task_word

abbrev pub VariableVerb : Type 0
VariableVerb = Domain variable_word

-- ---- a line by its first word

by_verb : (cells : Bool) (verb rest : List ℕ) → lacks 32 verb ≡ true → move_in cells (verb ++ 32 ∷ rest) ≡ of_verb cells (task_verb verb) (variable_verb verb) rest
unfolding move_in
by_verb cells verb rest h = rw (parted_again 32 verb rest h) refl

by_task : (cells : Bool) (v : TaskVerb) (verb rest : List ℕ) → lacks 32 verb ≡ true → task_verb verb ≡ Some v → move_in cells (verb ++ 32 ∷ rest) ≡ of_task v rest
unfolding of_verb
by_task cells v verb rest h e = by_verb cells verb rest h ∙ rw e refl

by_variable : (cells : Bool) (v : VariableVerb) (verb rest : List ℕ) → lacks 32 verb ≡ true → task_verb verb ≡ None → variable_verb verb ≡ Some v → move_in cells (verb ++ 32 ∷ rest) ≡ of_variable cells v rest
unfolding of_verb
by_variable cells v verb rest h n e = by_verb cells verb rest h ∙ rw (n, e) refl

by_none : (cells : Bool) (verb rest : List ℕ) → lacks 32 verb ≡ true → task_verb verb ≡ None → variable_verb verb ≡ None → move_in cells (verb ++ 32 ∷ rest) ≡ Err Shape
unfolding of_verb
by_none cells verb rest h n m = by_verb cells verb rest h ∙ rw (n, m) refl

pub fails_shape : {Y : Type 0} (e : ReadFault) (r : Result Y ReadFault) → Fails e r → e ≡ Shape → r ≡ Err Shape
fails_shape e r f h = subst (λ (d : ReadFault). Fails d r) h f

given_some : {A : Type 0} (o : Option A) → is_some o ≡ true → (x : A) × (o ≡ Some x)
given_some None h = absurd cc
given_some (Some x) h = (x, refl)

given_none : {A : Type 0} (o : Option A) → is_some o ≡ false → o ≡ None
given_none None h = refl
given_none (Some x) h = absurd cc

-- ---- of a task

task_read : (v : TaskVerb) (rest task : List ℕ) → number_in rest ≡ Ok task → of_task v rest ≡ Ok (OfTask v task)
unfolding of_task
task_read v rest task e = rw e refl

task_fails : (v : TaskVerb) (rest : List ℕ) → number_in rest ≡ Err Shape → of_task v rest ≡ Err Shape
unfolding of_task
task_fails v rest e = rw e refl

zero_number : number_in (codes "0") ≡ Ok (codes "0")
unfolding number_in is_int
zero_number = refl

is_zero : is_number (codes "0") ≡ true
unfolding is_int
is_zero = refl

is_letter : is_name (codes "a") ≡ true
unfolding is_name
is_letter = refl

letter_name_in : name_in (codes "a") ≡ Ok (codes "a")
unfolding name_in is_name
letter_name_in = refl

-- the verb is the word of its kind
task_verb_is : (v : TaskVerb) (verb : List ℕ) → lacks 32 verb ≡ true → task_verb verb ≡ Some v → verb ≡ task_word v
task_verb_is v verb h e =
    let t = move_takes false (verb ++ 32 ∷ codes "0") (OfTask v (codes "0")) (by_task false v verb (codes "0") h e ∙ task_read v (codes "0") (codes "0") zero_number) in
    same_front 32 verb (task_word v) (codes "0") (codes "0") h (task_word_is v).spaceless t.same

pub record TaskLine (cells : Bool) (verb rest task : List ℕ) : Type 0 where
  pub kind : TaskVerb
  pub read : move_in cells (verb ++ 32 ∷ rest) ≡ Ok (OfTask kind task)
  pub at : length verb + 1 ≡ task_place (OfTask kind task)

one_behind : (verb word : List ℕ) → verb ≡ word → length verb + 1 ≡ behind_len (word ∷ [])
one_behind verb word e = ap (λ (w : List ℕ). length w + 1) e ∙ sym (length-append word (32 ∷ []))

pub task_line : (cells : Bool) (verb rest task : List ℕ) → lacks 32 verb ≡ true → is_some (task_verb verb) ≡ true → number_in rest ≡ Ok task → TaskLine cells verb rest task
task_line cells verb rest task h k e =
    let v = given_some (task_verb verb) k in
    record { kind = v.0; read = by_task cells v.0 verb rest h v.1 ∙ task_read v.0 rest task e; at = one_behind verb (task_word v.0) (task_verb_is v.0 verb h v.1) }

no_number : (b : Bool) (text : List ℕ) → is_number text ≡ b → lacks 32 text ≡ false → number_in text ≡ Err Shape
unfolding number_in
no_number true text e h = absurd (let k = number_lacks 32 refl text e in cc)
no_number false text e h = rw e refl

no_name : (b : Bool) (text : List ℕ) → is_name text ≡ b → lacks 32 text ≡ false → name_in text ≡ Err Shape
unfolding name_in
no_name true text e h = absurd (let k = name_lacks 32 refl text e in cc)
no_name false text e h = rw e refl

spaced_number : (word more : List ℕ) → number_in (word ++ 32 ∷ more) ≡ Err Shape
spaced_number word more = no_number (is_number (word ++ 32 ∷ more)) (word ++ 32 ∷ more) refl (has_it 32 word more)

spaced_name : (word more : List ℕ) → name_in (word ++ 32 ∷ more) ≡ Err Shape
spaced_name word more = no_name (is_name (word ++ 32 ∷ more)) (word ++ 32 ∷ more) refl (has_it 32 word more)

task_closes : (cells : Bool) (v : TaskVerb) (verb word rest : List ℕ) → lacks 32 verb ≡ true → task_verb verb ≡ Some v → SpaceFirst rest → number_in (word ++ rest) ≡ Err Shape → Closes cells (verb ∷ []) word rest
task_closes cells v verb word [] h e first fails = by_task cells v verb word h e ∙ task_fails v word (ap number_in (sym (append-nil word)) ∙ fails)
task_closes cells v verb word (b ∷ rest) h e first fails = (first, λ more. by_task cells v verb (word ++ 32 ∷ more) h e ∙ task_fails v (word ++ 32 ∷ more) (spaced_number word more))

task_opens : (cells : Bool) (v : TaskVerb) (verb : List ℕ) → verb ≡ task_word v → Opens cells (verb ∷ [])
task_opens cells v verb e = record { raw = OfTask v (codes "0"); is = is_zero; more = codes "0\n"; text = ap (λ (w : List ℕ). w ++ 32 ∷ codes "0\n") (sym e) }

pub task_stops : (cells : Bool) (verb rest : List ℕ) → lacks 32 verb ≡ true → is_some (task_verb verb) ≡ true → number_in rest ≡ Err Shape → StopsAt cells (verb ++ 32 ∷ rest) (length verb + 1) want.Task
task_stops cells verb rest h k e =
    let v = given_some (task_verb verb) k in
    let s = split rest in
    record {
      before = verb ∷ [];
      word = s.word;
      rest = s.rest;
      text_is = ap (λ (t : List ℕ). verb ++ 32 ∷ t) s.whole;
      at_is = one_behind verb verb refl;
      spaceless = s.spaceless;
      opens = task_opens cells v.0 verb (task_verb_is v.0 verb h v.1);
      closes = task_closes cells v.0 verb s.word s.rest h v.1 s.first (ap number_in (sym s.whole) ∙ e);
      wanted_is = rw k refl;
    }

-- ---- of a task and a variable

-- a variable or a cell behind its verb and a task
abbrev value_in : Bool → VariableVerb → List ℕ → List ℕ → Result Raw ReadFault
value_in cells v task text = cond (cells && is_bracketed text) (cell_with v task text) (named_with v task text)

value_read : (cells : Bool) (v : VariableVerb) (first second task : List ℕ) → lacks 32 first ≡ true → number_in first ≡ Ok task → of_variable cells v (first ++ 32 ∷ second) ≡ value_in cells v task second
unfolding of_variable first_word
value_read cells v first second task h n = rw (parted_again 32 first second h, n) refl

name_read : (v : VariableVerb) (task text name : List ℕ) → name_in text ≡ Ok name → named_with v task text ≡ Ok (OfVariable v task name)
unfolding named_with
name_read v task text name e = rw e refl

cell_read : (v : VariableVerb) (task text table index : List ℕ) → cell_in text ≡ Ok (table, index) → cell_with v task text ≡ Ok (OfCell v task table index)
unfolding cell_with
cell_read v task text table index e = rw e refl

name_fails : (v : VariableVerb) (task text : List ℕ) → name_in text ≡ Err Shape → named_with v task text ≡ Err Shape
unfolding named_with
name_fails v task text e = rw e refl

cell_fails : (v : VariableVerb) (task text : List ℕ) → cell_in text ≡ Err Shape → cell_with v task text ≡ Err Shape
unfolding cell_with
cell_fails v task text e = rw e refl

variable_in : (cells : Bool) (v : VariableVerb) (task text name : List ℕ) → (cells && is_bracketed text) ≡ false → name_in text ≡ Ok name → value_in cells v task text ≡ Ok (OfVariable v task name)
variable_in cells v task text name b e = rw b (name_read v task text name e)

celled_in : (cells : Bool) (v : VariableVerb) (task text table index : List ℕ) → (cells && is_bracketed text) ≡ true → cell_in text ≡ Ok (table, index) → value_in cells v task text ≡ Ok (OfCell v task table index)
celled_in cells v task text table index b e = rw b (cell_read v task text table index e)

-- it is neither
abbrev pub NoValue : Bool → List ℕ → Type 0
NoValue true text = cell_in text ≡ Err Shape
NoValue false text = name_in text ≡ Err Shape

value_fails_by : (b : Bool) (v : VariableVerb) (task text : List ℕ) → NoValue b text → cond b (cell_with v task text) (named_with v task text) ≡ Err Shape
value_fails_by true v task text e = cell_fails v task text e
value_fails_by false v task text e = name_fails v task text e

value_fails : (cells : Bool) (v : VariableVerb) (first second task : List ℕ) → lacks 32 first ≡ true → number_in first ≡ Ok task → NoValue (cells && is_bracketed second) second → of_variable cells v (first ++ 32 ∷ second) ≡ Err Shape
value_fails cells v first second task h n e = value_read cells v first second task h n ∙ value_fails_by (cells && is_bracketed second) v task second e

pub neither_cell : (b : Bool) (text : List ℕ) → b ≡ true → cell_in text ≡ Err Shape → NoValue b text
neither_cell b text is e = subst (λ (a : Bool). NoValue a text) (sym is) e

pub neither_name : (b : Bool) (text : List ℕ) → b ≡ false → name_in text ≡ Err Shape → NoValue b text
neither_name b text is e = subst (λ (a : Bool). NoValue a text) (sym is) e

no_cell : (text : List ℕ) (r : Result (List ℕ × List ℕ) ReadFault) → cell_in text ≡ r → lacks 32 text ≡ false → r ≡ Err Shape
no_cell text (Ok x) e h =
    let c = cell_takes text x e in
    absurd (let k = ap (lacks 32) c.same ∙ cell_lacks 32 refl refl refl refl x.0 x.1 c.name c.index in cc)
no_cell text (Err e) is h = ap (λ (d : ReadFault). Err d) ((cell_shape text).by e is)

spaced_value : (b : Bool) (word more : List ℕ) → NoValue b (word ++ 32 ∷ more)
spaced_value true word more = no_cell (word ++ 32 ∷ more) (cell_in (word ++ 32 ∷ more)) refl (has_it 32 word more)
spaced_value false word more = spaced_name word more

number_fails : (cells : Bool) (v : VariableVerb) (first second : List ℕ) → lacks 32 first ≡ true → number_in first ≡ Err Shape → of_variable cells v (first ++ 32 ∷ second) ≡ Err Shape
unfolding of_variable first_word
number_fails cells v first second h n = rw (parted_again 32 first second h, n) refl

unparted : (text : List ℕ) (o : Option (List ℕ × List ℕ)) → parted 32 text ≡ o → ((x : List ℕ × List ℕ) → o ≡ Some x → lacks 32 text ≡ false) → lacks 32 text ≡ true → parted 32 text ≡ None
unparted text None e h k = e
unparted text (Some x) e h k = absurd (let n = h x refl in cc)

pub none_parted : (text : List ℕ) → lacks 32 text ≡ true → parted 32 text ≡ None
none_parted text k = unparted text (parted 32 text) refl (λ x e. ap (lacks 32) (parted_takes 32 text x e) ∙ has_it 32 x.0 x.1) k

word_fails : (cells : Bool) (v : VariableVerb) (rest : List ℕ) → lacks 32 rest ≡ true → of_variable cells v rest ≡ Err Shape
unfolding of_variable first_word
word_fails cells v rest h = rw (none_parted rest h) refl

variable_verb_is : (v : VariableVerb) (verb : List ℕ) → lacks 32 verb ≡ true → task_verb verb ≡ None → variable_verb verb ≡ Some v → verb ≡ variable_word v
variable_verb_is v verb h n e =
    let t = move_takes false (verb ++ 32 ∷ codes "0 a") (OfVariable v (codes "0") (codes "a"))
    (by_variable false v verb (codes "0 a") h n e ∙ value_read false v (codes "0") (codes "a") (codes "0") refl zero_number ∙ variable_in false v (codes "0") (codes "a") (codes "a") refl letter_name_in) in
    same_front 32 verb (variable_word v) (codes "0 a") (codes "0 a") h (variable_word_is v).spaceless t.same

-- a line of a verb, a task and what is read as this, which stands behind both
pub record ValueLine (cells : Bool) (verb first second task : List ℕ) (made : VariableVerb → Raw) : Type 0 where
  pub kind : VariableVerb
  pub read : move_in cells (verb ++ 32 ∷ (first ++ 32 ∷ second)) ≡ Ok (made kind)
  pub at : length verb + 1 ≡ behind_len (variable_word kind ∷ [])
  pub name_at : (length verb + 1) + (length first + 1) ≡ behind_len (variable_word kind ∷ task ∷ [])

two_behind : (verb word first : List ℕ) → verb ≡ word → (length verb + 1) + (length first + 1) ≡ behind_len (word ∷ first ∷ [])
two_behind verb word first e =
    ap (λ (w : List ℕ). (length w + 1) + (length first + 1)) e
    ∙ (let a = length-append word (32 ∷ behind (first ∷ []) []) in let b = length-append first (32 ∷ []) in omega arith)

number_same : (text task : List ℕ) → number_in text ≡ Ok task → text ≡ task
number_same text task e = (number_takes text task e).same

value_line : (cells : Bool) (verb first second task : List ℕ) (made : VariableVerb → Raw) → lacks 32 verb ≡ true → is_some (variable_verb verb) ≡ true → is_some (task_verb verb) ≡ false → lacks 32 first ≡ true
    → number_in first ≡ Ok task → ((v : VariableVerb) → value_in cells v task second ≡ Ok (made v)) → ValueLine cells verb first second task made
value_line cells verb first second task made h k n l e f =
    let v = given_some (variable_verb verb) k in
    let none = given_none (task_verb verb) n in
    let is = variable_verb_is v.0 verb h none v.1 in
    record {
      kind = v.0;
      read = by_variable cells v.0 verb (first ++ 32 ∷ second) h none v.1 ∙ value_read cells v.0 first second task l e ∙ f v.0;
      at = one_behind verb (variable_word v.0) is;
      name_at = two_behind verb (variable_word v.0) first is ∙ ap (λ (t : List ℕ). behind_len (variable_word v.0 ∷ t ∷ [])) (number_same first task e);
    }

pub variable_line : (cells : Bool) (verb first second task name : List ℕ) → lacks 32 verb ≡ true → is_some (variable_verb verb) ≡ true → is_some (task_verb verb) ≡ false → lacks 32 first ≡ true
    → number_in first ≡ Ok task → (cells && is_bracketed second) ≡ false → name_in second ≡ Ok name → ValueLine cells verb first second task (λ v. OfVariable v task name)
variable_line cells verb first second task name h k n l e b f =
    value_line cells verb first second task (λ v. OfVariable v task name) h k n l e (λ v. variable_in cells v task second name b f)

pub cell_line : (cells : Bool) (verb first second task table index : List ℕ) → lacks 32 verb ≡ true → is_some (variable_verb verb) ≡ true → is_some (task_verb verb) ≡ false → lacks 32 first ≡ true
    → number_in first ≡ Ok task → (cells && is_bracketed second) ≡ true → cell_in second ≡ Ok (table, index) → ValueLine cells verb first second task (λ v. OfCell v task table index)
cell_line cells verb first second task table index h k n l e b f =
    value_line cells verb first second task (λ v. OfCell v task table index) h k n l e (λ v. celled_in cells v task second table index b f)

variable_opens : (cells : Bool) (v : VariableVerb) (verb : List ℕ) → verb ≡ variable_word v → Opens cells (verb ∷ [])
variable_opens cells v verb e = record { raw = OfVariable v (codes "0") (codes "a"); is = (is_zero, is_letter); more = codes "0 a\n"; text = ap (λ (w : List ℕ). w ++ 32 ∷ codes "0 a\n") (sym e) }

name_opens : (cells : Bool) (v : VariableVerb) (verb task : List ℕ) → verb ≡ variable_word v → is_number task ≡ true → Opens cells (verb ∷ task ∷ [])
name_opens cells v verb task e h = record { raw = OfVariable v task (codes "a"); is = (h, is_letter); more = codes "a\n"; text = ap (λ (w : List ℕ). w ++ 32 ∷ (task ++ 32 ∷ codes "a\n")) (sym e) }

-- no space stands behind the verb's own
pub word_stops : (cells : Bool) (verb rest : List ℕ) → lacks 32 verb ≡ true → is_some (variable_verb verb) ≡ true → is_some (task_verb verb) ≡ false → lacks 32 rest ≡ true → StopsAt cells (verb ++ 32 ∷ rest) (length verb + 1) want.TaskAndVariable
word_stops cells verb rest h k n l =
    let v = given_some (variable_verb verb) k in
    let none = given_none (task_verb verb) n in
    record {
      before = verb ∷ [];
      word = rest;
      rest = [];
      text_is = ap (λ (t : List ℕ). verb ++ 32 ∷ t) (sym (append-nil rest));
      at_is = one_behind verb verb refl;
      spaceless = l;
      opens = variable_opens cells v.0 verb (variable_verb_is v.0 verb h none v.1);
      closes = by_variable cells v.0 verb rest h none v.1 ∙ word_fails cells v.0 rest l;
      wanted_is = rw n refl;
    }

pub number_stops : (cells : Bool) (verb first second : List ℕ) → lacks 32 verb ≡ true → is_some (variable_verb verb) ≡ true → is_some (task_verb verb) ≡ false → lacks 32 first ≡ true → number_in first ≡ Err Shape
    → StopsAt cells (verb ++ 32 ∷ (first ++ 32 ∷ second)) (length verb + 1) want.TaskAndVariable
number_stops cells verb first second h k n l e =
    let v = given_some (variable_verb verb) k in
    let none = given_none (task_verb verb) n in
    record {
      before = verb ∷ [];
      word = first;
      rest = 32 ∷ second;
      text_is = refl;
      at_is = one_behind verb verb refl;
      spaceless = l;
      opens = variable_opens cells v.0 verb (variable_verb_is v.0 verb h none v.1);
      closes = (refl, λ more. by_variable cells v.0 verb (first ++ 32 ∷ more) h none v.1 ∙ number_fails cells v.0 first more l e);
      wanted_is = rw n refl;
    }

value_closes : (cells : Bool) (v : VariableVerb) (verb first task word rest : List ℕ) → lacks 32 verb ≡ true → task_verb verb ≡ None → variable_verb verb ≡ Some v → lacks 32 first ≡ true → number_in first ≡ Ok task
    → SpaceFirst rest → NoValue (cells && is_bracketed (word ++ rest)) (word ++ rest) → Closes cells (verb ∷ first ∷ []) word rest
value_closes cells v verb first task word [] h n e l m space fails =
    by_variable cells v verb (first ++ 32 ∷ word) h n e ∙ value_fails cells v first word task l m (subst (λ (t : List ℕ). NoValue (cells && is_bracketed t) t) (append-nil word) fails)
value_closes cells v verb first task word (b ∷ rest) h n e l m space fails =
    (space, λ more. by_variable cells v verb (first ++ 32 ∷ (word ++ 32 ∷ more)) h n e ∙ value_fails cells v first (word ++ 32 ∷ more) task l m (spaced_value (cells && is_bracketed (word ++ 32 ∷ more)) word more))

pub value_stops : (cells : Bool) (verb first second task : List ℕ) → lacks 32 verb ≡ true → is_some (variable_verb verb) ≡ true → is_some (task_verb verb) ≡ false → lacks 32 first ≡ true → number_in first ≡ Ok task
    → NoValue (cells && is_bracketed second) second → StopsAt cells (verb ++ 32 ∷ (first ++ 32 ∷ second)) ((length verb + 1) + (length first + 1)) want.Variable
value_stops cells verb first second task h k n l e f =
    let v = given_some (variable_verb verb) k in
    let none = given_none (task_verb verb) n in
    let s = split second in
    let number = number_takes first task e in
    record {
      before = verb ∷ first ∷ [];
      word = s.word;
      rest = s.rest;
      text_is = ap (λ (t : List ℕ). verb ++ 32 ∷ (first ++ 32 ∷ t)) s.whole;
      at_is = two_behind verb verb first refl;
      spaceless = s.spaceless;
      opens = name_opens cells v.0 verb first (variable_verb_is v.0 verb h none v.1) (subst (λ (t : List ℕ). is_number t ≡ true) (sym number.same) number.passes);
      closes = value_closes cells v.0 verb first task s.word s.rest h none v.1 l e s.first (subst (λ (t : List ℕ). NoValue (cells && is_bracketed t) t) s.whole f);
      wanted_is = refl;
    }

-- ---- of no verb

word_opens : (cells : Bool) → Opens cells []
word_opens cells = record { raw = Word; is = tt; more = codes "word\n"; text = refl }

pub verb_stops : (cells : Bool) (verb rest : List ℕ) → lacks 32 verb ≡ true → is_some (task_verb verb) ≡ false → is_some (variable_verb verb) ≡ false → StopsAt cells (verb ++ 32 ∷ rest) 0 want.Line
verb_stops cells verb rest h n m =
    record {
      before = [];
      word = verb;
      rest = 32 ∷ rest;
      text_is = refl;
      at_is = refl;
      spaceless = h;
      opens = word_opens cells;
      closes = (refl, λ more. by_none cells verb more h (given_none (task_verb verb) n) (given_none (variable_verb verb) m));
      wanted_is = refl;
    }

alone_in : (cells : Bool) (text : List ℕ) → lacks 32 text ≡ true → move_in cells text ≡ alone text
unfolding move_in
alone_in cells text h = rw (none_parted text h) refl

pub alone_line : (cells : Bool) (text : List ℕ) → lacks 32 text ≡ true → bytes_eq text (codes "word") ≡ true → move_in cells text ≡ Ok Word
unfolding alone
alone_line cells text h e = alone_in cells text h ∙ rw e refl

pub alone_stops : (cells : Bool) (text : List ℕ) → lacks 32 text ≡ true → bytes_eq text (codes "word") ≡ false → StopsAt cells text 0 want.Line
unfolding alone
alone_stops cells text h e =
    record {
      before = [];
      word = text;
      rest = [];
      text_is = sym (append-nil text);
      at_is = refl;
      spaceless = h;
      opens = word_opens cells;
      closes = alone_in cells text h ∙ rw e refl;
      wanted_is = refl;
    }

-- ---- where a line stops being one, it is none

closes_fails : (cells : Bool) (before : List (List ℕ)) (word rest : List ℕ) → Closes cells before word rest → move_in cells (behind before (word ++ rest)) ≡ Err Shape
closes_fails cells before word [] c = ap (λ (t : List ℕ). move_in cells (behind before t)) (append-nil word) ∙ c
closes_fails cells before word (b ∷ rest) c = ap (λ (d : ℕ). move_in cells (behind before (word ++ d ∷ rest))) c.0 ∙ c.1 rest

pub stops_fails : (cells : Bool) (text : List ℕ) (at : ℕ) (wanted : Wanted) → StopsAt cells text at wanted → move_in cells text ≡ Err Shape
stops_fails cells text at wanted s = ap (move_in cells) s.text_is ∙ closes_fails cells s.before s.word s.rest s.closes

-- ---- where the words of a line stand

one_in_line : (word rest : List ℕ) → behind_len (word ∷ []) ≤ length (word ++ 32 ∷ rest)
one_in_line word rest = let a = length-append word (32 ∷ rest) in let b = length-append word (32 ∷ []) in omega arith

two_in_line : (word task name : List ℕ) → behind_len (word ∷ task ∷ []) ≤ length (word ++ 32 ∷ (task ++ 32 ∷ name))
two_in_line word task name =
    let a = length-append word (32 ∷ (task ++ 32 ∷ name)) in
    let b = length-append word (32 ∷ (task ++ 32 ∷ [])) in
    let c = length-append task (32 ∷ name) in
    let d = length-append task (32 ∷ []) in
    omega arith

pub task_in_line : (r : Raw) → task_place r ≤ length (text_of (raw_words r))
task_in_line (OfTask v task) = one_in_line (task_word v) task
task_in_line (OfVariable v task name) = one_in_line (variable_word v) (task ++ 32 ∷ name)
task_in_line (OfCell v task table index) = one_in_line (variable_word v) (task ++ 32 ∷ cell_text table index)
task_in_line Word = omega arith

pub name_in_line : (r : Raw) → name_place r ≤ length (text_of (raw_words r))
name_in_line (OfTask v task) = omega arith
name_in_line (OfVariable v task name) = two_in_line (variable_word v) task name
name_in_line (OfCell v task table index) = two_in_line (variable_word v) task (cell_text table index)
name_in_line Word = omega arith

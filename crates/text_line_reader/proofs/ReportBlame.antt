-- Which faults each step may have.
use Rattle.std.proofs.Common.{◌≡◌, ℕ, ◌+◌, Bool, true, false, ◌&&◌, List, [], ◌∷◌, Option, Some, None, refl}
use Rattle.std.specs.Prelude.{codes, ℤ, is_some, ◌==◌}
use Rattle.std.specs.List.{list_all}
use Rattle.std.specs.Str.{bytes_eq}
use Rattle.std.specs.Str.Parse.{digits_value}
use Rattle.std.proofs.lemmas.Bool.{and_parts, and_from}
use Rattle.txn_programs.specs.Arithmetic.{fits}
use Rattle.txn_programs.specs.declared.ast.VarId.{VarId}
use Rattle.txn_programs.specs.declared.limits.TheConstants.{MAX_TASKS}
use Rattle.txn_programs.specs.Listing.{Listing, transaction_named, condition_named}
use Rattle.text_words.specs.Bytes.{int_value}
use Rattle.text_words.specs.Numbers.{number_of}
use Rattle.text_words.specs.declared.fault.ReadFault.TheVariants as faults
use Rattle.text_words.proofs.Steps.{done}
use Rattle.text_line_reader.specs.Lines.{Line}
use Rattle.text_line_reader.specs.ReportRaw.{Variable, Cell, Ending, Returned, Threw, Overflow, DivideByZero, Outside, Broke, Entry, Task, Raw}
use Rattle.text_line_reader.specs.Words.{expect, begins, is_bracketed}
use Rattle.text_line_reader.specs.ReportReading.{variable_in, cell_line_in, valued_in, broke_in, worded_in, ending_in, entry_in, task_in, numbered_in, cells_at, values_at, raw_at}
use Rattle.text_line_reader.specs.Rows.{each}
use Rattle.text_line_reader.specs.ReportResolving.{cell_id, is_from, next_id, in_order, cells_known, named_as, is_written, cell_told, is_known, condition_known, conditions_known, variables_known, transactions_known, names_known, count_in, found, tx_id, always_id, variable_told, outcome_told, entry_told, task_told, told_of}
use Rattle.text_line_reader.proofs.Blame.{bad, ok, err, then, either, IsShape, word_shape, name_shape, int_shape, number_shape, cell_shape, expect_shape, after_shape, line_shape, lines_shape, all_shape, end_shape, IsLimit, below_limit, task_id_limit, each_limit, any_limit}

-- ---- lines fail by their shape alone

variable_shape : (text : List ℕ) → IsShape (variable_in text)
unfolding variable_in
variable_shape text =
    then faults.Shape _ _ (word_shape text) (λ first. then faults.Shape _ _ (word_shape first.1) (λ second. then faults.Shape _ _ (name_shape first.0)
    (λ name. then faults.Shape _ _ (int_shape second.0) (λ value. then faults.Shape _ _ (number_shape second.1) (λ version. ok faults.Shape _)))))

cell_line_shape : (text : List ℕ) → IsShape (cell_line_in text)
unfolding cell_line_in
cell_line_shape text =
    then faults.Shape _ _ (word_shape text) (λ first. then faults.Shape _ _ (word_shape first.1) (λ second. then faults.Shape _ _ (cell_shape first.0)
    (λ cell. then faults.Shape _ _ (int_shape second.0) (λ value. then faults.Shape _ _ (number_shape second.1) (λ version. ok faults.Shape _)))))

cells_shape : (cells : Bool) (ls : List Line) → IsShape (cells_at cells ls)
unfolding cells_at
cells_shape false ls = ok faults.Shape _
cells_shape true ls = all_shape is_bracketed cell_line_in cell_line_shape ls

values_shape : (cells : Bool) (n : ℕ) (ls : List Line) → IsShape (values_at cells n ls)
unfolding values_at
values_shape cells n ls = then faults.Shape _ _ (lines_shape variable_in variable_shape n ls) (λ a. then faults.Shape _ _ (cells_shape cells a.1) (λ b. ok faults.Shape _))

valued_shape : (word text : List ℕ) → IsShape (valued_in word text)
unfolding valued_in
valued_shape word text =
    then faults.Shape _ _ (int_shape text) (λ value.
    either faults.Shape (bytes_eq word (codes "returned")) _ _ (ok faults.Shape (Returned value)) (either faults.Shape (bytes_eq word (codes "threw")) _ _ (ok faults.Shape (Threw value)) (err faults.Shape)))

broke_shape : (text : List ℕ) → IsShape (broke_in text)
unfolding broke_in
broke_shape text = then faults.Shape _ _ (name_shape text) (λ name. ok faults.Shape (Broke name))

worded_shape : (text : List ℕ) → IsShape (worded_in text)
unfolding worded_in
worded_shape text =
    then faults.Shape _ _ (word_shape text) (λ word. either faults.Shape (bytes_eq word.0 (codes "broke")) _ _ (broke_shape word.1) (valued_shape word.0 word.1))

ending_shape : (cells : Bool) (text : List ℕ) → IsShape (ending_in cells text)
unfolding ending_in
ending_shape cells text =
    either faults.Shape (bytes_eq text (codes "overflow")) _ _ (ok faults.Shape Overflow)
    (either faults.Shape (bytes_eq text (codes "zerodiv")) _ _ (ok faults.Shape DivideByZero)
    (either faults.Shape (bytes_eq text (codes "outside") && cells) _ _ (ok faults.Shape Outside) (worded_shape text)))

entry_shape : (cells : Bool) (text : List ℕ) → IsShape (entry_in cells text)
unfolding entry_in
entry_shape cells text =
    then faults.Shape _ _ (after_shape (codes "entry") text) (λ first. then faults.Shape _ _ (word_shape first) (λ second. then faults.Shape _ _ (word_shape second.1)
    (λ third. then faults.Shape _ _ (word_shape third.1) (λ fourth. then faults.Shape _ _ (number_shape second.0) (λ number. then faults.Shape _ _ (number_shape third.0)
    (λ task. then faults.Shape _ _ (name_shape fourth.0) (λ name. then faults.Shape _ _ (ending_shape cells fourth.1) (λ ending. ok faults.Shape _))))))))

task_shape : (wanted text : List ℕ) → IsShape (task_in wanted text)
unfolding task_in
task_shape wanted text =
    then faults.Shape _ _ (after_shape wanted text) (λ first. then faults.Shape _ _ (word_shape first) (λ second. then faults.Shape _ _ (number_shape second.0)
    (λ task. then faults.Shape _ _ (name_shape second.1) (λ name. ok faults.Shape _))))

numbered_shape : (wanted text : List ℕ) → IsShape (numbered_in wanted text)
unfolding numbered_in
numbered_shape wanted text = then faults.Shape _ _ (after_shape wanted text) (λ number. number_shape number)

pub raw_shape : (cells : Bool) (n : ℕ) (ls : List Line) → IsShape (raw_at cells n ls)
unfolding raw_at
raw_shape cells n ls =
    then faults.Shape _ _ (line_shape (numbered_in (codes "base")) (numbered_shape (codes "base")) ls) (λ a.
    then faults.Shape _ _ (values_shape cells n a.1) (λ b.
    then faults.Shape _ _ (all_shape (begins (codes "entry")) (entry_in cells) (entry_shape cells) b.1) (λ c.
    then faults.Shape _ _ (line_shape (numbered_in (codes "now")) (numbered_shape (codes "now")) c.1) (λ d.
    then faults.Shape _ _ (values_shape cells n d.1) (λ f.
    then faults.Shape _ _ (all_shape (begins (codes "parked")) (task_in (codes "parked")) (task_shape (codes "parked")) f.1) (λ g.
    then faults.Shape _ _ (all_shape (begins (codes "memory")) (task_in (codes "memory")) (task_shape (codes "memory")) g.1) (λ h.
    then faults.Shape _ _ (line_shape (expect (codes "end")) (expect_shape (codes "end")) h.1) (λ k.
    then faults.Shape _ _ (end_shape k.1) (λ m. ok faults.Shape _)))))))))

-- ---- words whose names are known fail by a limit alone

number_limit : (z : ℤ) → IsLimit (number_of z)
unfolding number_of
number_limit z = either faults.Limit (fits z) (done z) (bad faults.Limit) (ok faults.Limit z) (err faults.Limit)

count_limit : (text : List ℕ) → IsLimit (count_in text)
count_limit text = below_limit (MAX_TASKS + 1) (digits_value 10 text)

found_limit : {A : Type 0} (o : Option A) → is_some o ≡ true → IsLimit (found o)
found_limit None h = absurd cc
found_limit (Some x) h = ok faults.Limit x

tx_limit : (l : Listing) (name : List ℕ) → is_known l name ≡ true → IsLimit (tx_id l name)
unfolding tx_id
tx_limit l name h = found_limit (transaction_named l name) h

variable_limit : (v : Variable) → IsLimit (variable_told v)
unfolding variable_told
variable_limit v = then faults.Limit _ _ (number_limit (int_value v.value)) (λ value. then faults.Limit _ _ (count_limit v.version) (λ version. ok faults.Limit _))

from_known : (least : ℕ) (o : Option VarId) → is_from least o ≡ true → is_some o ≡ true
from_known least None h = absurd cc
from_known least (Some x) h = refl

written_limit : (version : ℕ) → IsLimit (is_written version)
written_limit version = either faults.Limit (version == 0) _ _ (err faults.Limit) (ok faults.Limit version)

cell_limit : (l : Listing) (c : Cell) → is_some (cell_id l c) ≡ true → IsLimit (cell_told l c)
unfolding cell_told
cell_limit l c h =
    then faults.Limit _ _ (found_limit (cell_id l c) h) (λ x. then faults.Limit _ _ (number_limit (int_value c.value))
    (λ value. then faults.Limit _ _ (count_limit c.version) (λ version. then faults.Limit _ _ (written_limit version) (λ written. ok faults.Limit _))))

in_order_known : (l : Listing) (least : ℕ) (cs : List Cell) → in_order l least cs ≡ true → list_all (λ c. is_some (cell_id l c)) cs ≡ true
in_order_known l least [] h = refl
in_order_known l least (c ∷ cs) h =
    let p = and_parts (is_from least (cell_id l c)) (in_order l (next_id (cell_id l c)) cs) h in
    and_from _ _ (from_known least (cell_id l c) p.0) (in_order_known l (next_id (cell_id l c)) cs p.1)

cells_limit : (l : Listing) (cs : List Cell) → cells_known l cs ≡ true → IsLimit (each (cell_told l) cs)
cells_limit l cs h = each_limit (λ (c : Cell). is_some (cell_id l c)) (cell_told l) (cell_limit l) cs (in_order_known l 0 cs h)

always_limit : (l : Listing) (name : List ℕ) → is_some (condition_named l name) ≡ true → IsLimit (always_id l name)
unfolding always_id
always_limit l name h = found_limit (condition_named l name) h

outcome_limit : (l : Listing) (x : Ending) → condition_known l x ≡ true → IsLimit (outcome_told l x)
outcome_limit l (Returned value) h = then faults.Limit _ _ (number_limit (int_value value)) (λ v. ok faults.Limit _)
outcome_limit l (Threw value) h = then faults.Limit _ _ (number_limit (int_value value)) (λ v. ok faults.Limit _)
outcome_limit l Overflow h = ok faults.Limit _
outcome_limit l DivideByZero h = ok faults.Limit _
outcome_limit l Outside h = ok faults.Limit _
outcome_limit l (Broke name) h = then faults.Limit _ _ (always_limit l name h) (λ id. ok faults.Limit _)

entry_limit : (l : Listing) (e : Entry) → (is_known l e.name && condition_known l e.ending) ≡ true → IsLimit (entry_told l e)
unfolding entry_told
entry_limit l e both =
    let p = and_parts (is_known l e.name) (condition_known l e.ending) both in
    let h = p.0 in
    then faults.Limit _ _ (count_limit e.number) (λ number. then faults.Limit _ _ (task_id_limit l e.task) (λ task. then faults.Limit _ _ (tx_limit l e.name h)
    (λ tx. then faults.Limit _ _ (outcome_limit l e.ending p.1) (λ outcome. ok faults.Limit _))))

task_limit : (l : Listing) (t : Task) → is_known l t.name ≡ true → IsLimit (task_told l t)
unfolding task_told
task_limit l t h = then faults.Limit _ _ (task_id_limit l t.task) (λ task. then faults.Limit _ _ (tx_limit l t.name h) (λ tx. ok faults.Limit _))

-- what passes two tests passes both at once
both_pass : {A : Type 0} (p q : A → Bool) (xs : List A) → list_all p xs ≡ true → list_all q xs ≡ true → list_all (λ x. p x && q x) xs ≡ true
both_pass p q [] a b = refl
both_pass p q (x ∷ xs) a b =
    let a' = and_parts (p x) (list_all p xs) a in
    let b' = and_parts (q x) (list_all q xs) b in
    and_from _ _ (and_from _ _ a'.0 b'.0) (both_pass p q xs a'.1 b'.1)

told_given : (l : Listing) (r : Raw) → cells_known l r.base_cells ≡ true → cells_known l r.current_cells ≡ true → transactions_known l r ≡ true → conditions_known l r.entries ≡ true → IsLimit (told_of l r)
unfolding told_of transactions_known
told_given l r bc cc' h k =
    let a = and_parts _ _ h in
    let entries = both_pass (λ (e : Entry). is_known l e.name) (λ (e : Entry). condition_known l e.ending) r.entries a.0 k in
    let b = and_parts _ _ a.1 in
    then faults.Limit _ _ (count_limit r.base) (λ base. then faults.Limit _ _ (any_limit variable_told variable_limit r.base_vars)
    (λ base_vars. then faults.Limit _ _ (cells_limit l r.base_cells bc) (λ base_cells. then faults.Limit _ _ (each_limit (λ (e : Entry). is_known l e.name && condition_known l e.ending) (entry_told l) (entry_limit l) r.entries entries)
    (λ entries. then faults.Limit _ _ (count_limit r.current) (λ current. then faults.Limit _ _ (any_limit variable_told variable_limit r.current_vars)
    (λ current_vars. then faults.Limit _ _ (cells_limit l r.current_cells cc') (λ current_cells. then faults.Limit _ _ (each_limit (λ (t : Task). is_known l t.name) (task_told l) (task_limit l) r.parked b.0)
    (λ parked. then faults.Limit _ _ (each_limit (λ (t : Task). is_known l t.name) (task_told l) (task_limit l) r.memory b.1) (λ memory. ok faults.Limit _)))))))))

pub told_limit : (l : Listing) (r : Raw) → names_known l r ≡ true → IsLimit (told_of l r)
unfolding names_known variables_known
told_limit l r h =
    let p = and_parts (variables_known l r) (transactions_known l r && conditions_known l r.entries) h in
    let k = and_parts (transactions_known l r) (conditions_known l r.entries) p.1 in
    let v = and_parts (named_as l.names r.base_vars) (named_as l.names r.current_vars && (cells_known l r.base_cells && cells_known l r.current_cells)) p.0 in
    let w = and_parts (named_as l.names r.current_vars) (cells_known l r.base_cells && cells_known l r.current_cells) v.1 in
    let x = and_parts (cells_known l r.base_cells) (cells_known l r.current_cells) w.1 in
    told_given l r x.0 x.1 k.0 k.1

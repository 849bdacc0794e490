-- The words of a report that fits the catalogue tell that report.
use Rattle.std.proofs.Common.{◌≡◌, ◌≢◌, ◌∙◌, ℕ, zero, suc, ◌<◌, ◌≤◌, ◌||◌, Bool, true, false, List, [], ◌∷◌, ◌++◌, length, map, take, drop, get_or, Ok, refl, sym, ap, append_assoc, length-drop, arith}
use Rattle.std.specs.Prelude.{ℤ, pos, FitsSigned, All, codes, is_some, nat_lt}
use Rattle.std.specs.Int.{w64}
use Rattle.std.specs.Fmt.{decimal, signed_decimal}
use Rattle.std.specs.List.{flat_map, list_all, AllByRecursion}
use Rattle.std.proofs.lemmas.Bool.{and_parts, and_from, lt-ltb}
use Rattle.std.proofs.lemmas.List.{length-map, take-append-drop}
use Rattle.std.proofs.lemmas.List.Elements.{recursion_from_All}
use Rattle.std.proofs.lemmas.Option.{slice_get-get_or}
use Rattle.std.proofs.lemmas.Slice.Eq.{bytes_eq-Decides}
use Rattle.txn.specs.Arities.{most_arity}
use Rattle.txn_programs.specs.declared.ast.AlwaysId.{AlwaysId}
use Rattle.txn_programs.specs.declared.ast.TaskId.{TaskId}
use Rattle.txn_programs.specs.declared.ast.TxId.{TxId}
use Rattle.txn_programs.specs.declared.ast.VarId.{VarId}
use Rattle.txn_programs.specs.declared.ast.Fault.TheVariants as fault
use Rattle.txn_programs.specs.declared.ast.Outcome.{Outcome}
use Rattle.txn_programs.specs.declared.ast.Outcome.TheVariants as outcome
use Rattle.txn_programs.specs.declared.limits.TheConstants.{MAX_TASKS}
use Rattle.txn_programs.specs.declared.report.Entry as told
use Rattle.txn_programs.specs.LawfulReport.{OutcomeKnown, CellsBegin, FitsCatalogue}
use Rattle.txn_programs.specs.Listing.{Listing, values, always_name, always_names, tasks, program_at}
use Rattle.txn_programs.specs.Limits.{limits_hold}
use Rattle.txn_programs.specs.Names.{is_name, are_formed, names_hold}
use Rattle.txn_programs.specs.Told.{Told}
use Rattle.txn_programs.specs.Tree.{Transaction, Skip, Int}
use Rattle.txn_programs.proofs.Lawful.{names_parts, passes_at}
use Rattle.text_report_printer.specs.ReportFits.{OutcomeFits, ReportFits}
use Rattle.text_report_printer.specs.ReportText.{variable_line, variable_lines, table_lines, value_lines, outcome_text, entry_line, task_line, report_text}
use Rattle.text_words.specs.Words.{line}
use Rattle.text_line_reader.specs.ReportRaw.{Variable, Cell, Ending, Returned, Threw, Overflow, DivideByZero, Outside, Broke, Entry, Task, Raw, variable_words, cell_words, ending_words, entry_words, task_words, raw_text, IsVariable, IsCell, HasCells, IsEnding, IsEntry, IsTask, IsRaw}
use Rattle.text_line_reader.specs.Reports.{knows_cells}
use Rattle.text_line_reader.specs.ReportResolving.{named_as, cells_known, cell_told, values_told, is_known, entries_known, tasks_known, variables_known, transactions_known, condition_known, conditions_known, names_known, count_in, variable_told, outcome_told, entry_told, task_told, told_of, resolved}
use Rattle.text_line_reader.specs.Rows.{each}
use Rattle.text_line_reader.proofs.Numbers.{int_printed}
use Rattle.text_line_reader.proofs.WordsTold.{value_again, count_again}
use Rattle.text_line_reader.proofs.Spots.{spots, spots_length, tables_lined}
use Rattle.text_line_reader.proofs.CellPlaces.{all_spelled}
use Rattle.text_line_reader.proofs.CellAgains.{written_cells, told_cells, cells_again}
use Rattle.text_line_reader.proofs.ReportPlaces.{tx_named, tx_again, condition_is, always_again}
use Rattle.text_line_reader.proofs.Agains.{task_id_again, small, each_again, all_again, tests_again, text_again}

-- ---- words

abbrev nothing : Transaction
nothing = record { name = []; parameters = []; body = Skip; result = Int (pos 0) }

tx_is_name : (l : Listing) (tx : TxId) → names_hold l ≡ true → tx.0 < length l.transactions → is_name (program_at l tx).name ≡ true
tx_is_name l tx h lt =
    let t = get_or l.transactions tx.0 nothing in
    (and_parts (is_name t.name) _ (passes_at are_formed l.transactions tx.0 t (names_parts l h).tx_forms (slice_get-get_or l.transactions tx.0 nothing lt))).0

condition_is_name : (l : Listing) (id : AlwaysId) → names_hold l ≡ true → id.0 < length l.always → is_name (always_name l id) ≡ true
condition_is_name l id h lt =
    let names = always_names l in
    let inside : id.0 < length names = rw length-map lt in
    passes_at is_name names id.0 (always_name l id) (names_parts l h).always_forms (slice_get-get_or names id.0 [] inside)

tx_is_known : (l : Listing) (tx : TxId) → names_hold l ≡ true → tx.0 < length l.transactions → is_known l (program_at l tx).name ≡ true
tx_is_known l tx h lt = ap is_some (tx_named l tx h lt)

-- ---- variables

pub written_variables : List (List ℕ) → List (ℤ × ℕ) → List Variable
written_variables (name ∷ names) (x ∷ xs) = record { name = name; value = signed_decimal x.0; version = decimal x.1 } ∷ written_variables names xs
written_variables names xs = []

record VariablesAgain (names : List (List ℕ)) (xs : List (ℤ × ℕ)) : Type 0 where
  count : length (written_variables names xs) ≡ length names
  words : AllByRecursion IsVariable (written_variables names xs)
  named : named_as names (written_variables names xs) ≡ true
  told : each variable_told (written_variables names xs) ≡ Ok (take (length names) xs)
  text : variable_lines names xs ≡ flat_map (λ v. line (variable_words v)) (written_variables names xs)

variable_again : (name : List ℕ) (x : ℤ × ℕ) → FitsSigned w64 x.0 → x.1 ≤ MAX_TASKS → variable_told (record { name = name; value = signed_decimal x.0; version = decimal x.1 }) ≡ Ok x
unfolding variable_told
variable_again name x f m = rw (value_again x.0 f, count_again x.1 m) refl

variables_again : (names : List (List ℕ)) (xs : List (ℤ × ℕ)) → length names ≤ length xs → list_all is_name names ≡ true → AllByRecursion (λ x. FitsSigned w64 x.0) xs → AllByRecursion (λ x. x.1 ≤ MAX_TASKS) xs → VariablesAgain names xs
unfolding written_variables
variables_again [] [] count forms values versions = record { count = refl; words = tt; named = refl; told = refl; text = refl }
variables_again [] (x ∷ xs) count forms values versions = record { count = refl; words = tt; named = refl; told = refl; text = refl }
variables_again (name ∷ names) [] count forms values versions = absurd (omega (arith, count))
variables_again (name ∷ names) (x ∷ xs) count forms values versions =
    let p = and_parts (is_name name) (list_all is_name names) forms in
    let rest = variables_again names xs (omega (arith, count)) p.1 values.1 versions.1 in
    record {
      count = ap suc rest.count;
      words = (record { name = p.0; value = int_printed x.0 values.0; version = small x.1 versions.0 }, rest.words);
      named = and_from _ _ ((bytes_eq-Decides name name).1 refl) rest.named;
      told = rw (variable_again name x values.0 versions.0, rest.told) refl;
      text = ap (λ (t : List ℕ). variable_line name x ++ t) rest.text;
    }

-- ---- entries

pub written_ending : Listing → Outcome → Ending
written_ending l (outcome.Returned v) = Returned (signed_decimal v)
written_ending l (outcome.Thrown (fault.User v)) = Threw (signed_decimal v)
written_ending l (outcome.Thrown fault.Overflow) = Overflow
written_ending l (outcome.Thrown fault.DivideByZero) = DivideByZero
written_ending l (outcome.Thrown fault.Outside) = Outside
written_ending l (outcome.Thrown (fault.Broken id)) = Broke (always_name l id)
written_ending l outcome.Retries = Overflow

-- it is outside only where the listing knows it
abbrev IsOutside : Listing → Outcome → Type 0
IsOutside l o = o ≡ outcome.Thrown fault.Outside → knows_cells l ≡ true

record OutcomeAgain (l : Listing) (o : Outcome) : Type 0 where
  words : IsEnding (knows_cells l) (written_ending l o)
  known : condition_known l (written_ending l o) ≡ true
  told : outcome_told l (written_ending l o) ≡ Ok o
  text : (word : List ℕ) → line (word ∷ outcome_text l o ∷ []) ≡ line (word ∷ ending_words (written_ending l o))

outcome_again : (l : Listing) → names_hold l ≡ true → (o : Outcome) → OutcomeFits o → OutcomeKnown (length l.always) o → o ≢ outcome.Retries → IsOutside l o → OutcomeAgain l o
unfolding written_ending
outcome_again l names (outcome.Returned v) f k ends out = record { words = int_printed v f; known = refl; told = rw (value_again v f) refl; text = λ word. refl }
outcome_again l names (outcome.Thrown (fault.User v)) f k ends out = record { words = int_printed v f; known = refl; told = rw (value_again v f) refl; text = λ word. refl }
outcome_again l names (outcome.Thrown fault.Overflow) f k ends out = record { words = tt; known = refl; told = refl; text = λ word. refl }
outcome_again l names (outcome.Thrown fault.DivideByZero) f k ends out = record { words = tt; known = refl; told = refl; text = λ word. refl }
outcome_again l names (outcome.Thrown fault.Outside) f k ends out = record { words = out refl; known = refl; told = refl; text = λ word. refl }
outcome_again l names (outcome.Thrown (fault.Broken id)) f k ends out =
    record { words = condition_is_name l id names k; known = ap is_some (condition_is l id names k); told = rw (always_again l id names k) refl; text = λ word. refl }
outcome_again l names outcome.Retries f k ends out = absurd (ends refl)

abbrev written_entry : Listing → told.Entry → Entry
written_entry l e = record { number = decimal e.number; task = decimal e.task.0; name = (program_at l e.tx).name; ending = written_ending l e.outcome }

-- an entry that fits the catalogue
record EntryFits (l : Listing) (e : told.Entry) : Type 0 where
  number : e.number ≤ MAX_TASKS
  ends : e.outcome ≢ outcome.Retries
  ids : (e.task.0 < length (tasks l)) × (e.tx.0 < length l.transactions)
  value : OutcomeFits e.outcome
  fault_known : OutcomeKnown (length l.always) e.outcome
  outside : IsOutside l e.outcome

record EntryAgain (l : Listing) (e : told.Entry) : Type 0 where
  words : IsEntry (knows_cells l) (written_entry l e)
  known : is_known l (written_entry l e).name ≡ true
  condition : condition_known l (written_entry l e).ending ≡ true
  told : entry_told l (written_entry l e) ≡ Ok e
  text : entry_line l e ≡ line (entry_words (written_entry l e))

entry_again : (l : Listing) (e : told.Entry) → names_hold l ≡ true → length (tasks l) ≤ MAX_TASKS → EntryFits l e → EntryAgain l e
unfolding entry_told
entry_again l e names few f =
    let task_known = f.ids.0 in
    let o = outcome_again l names e.outcome f.value f.fault_known f.ends f.outside in
    record {
      words = record { number = small e.number f.number; task = small e.task.0 (omega arith); name = tx_is_name l e.tx names f.ids.1; ending = o.words };
      known = tx_is_known l e.tx names f.ids.1;
      condition = o.known;
      told = rw (count_again e.number f.number, task_id_again l e.task few f.ids.0, tx_again l e.tx names f.ids.1, o.told) refl;
      text = ap (λ (t : List ℕ). codes "entry" ++ (codes " " ++ (decimal e.number ++ (codes " " ++ (decimal e.task.0 ++ (codes " " ++ t)))))) (o.text (program_at l e.tx).name);
    }

-- ---- tasks

abbrev written_task : Listing → TaskId × TxId → Task
written_task l t = record { task = decimal t.0.0; name = (program_at l t.1).name }

abbrev IdsFit : Listing → TaskId × TxId → Type 0
IdsFit l t = (t.0.0 < length (tasks l)) × (t.1.0 < length l.transactions)

record TaskAgain (l : Listing) (t : TaskId × TxId) : Type 0 where
  words : IsTask (written_task l t)
  known : is_known l (written_task l t).name ≡ true
  told : task_told l (written_task l t) ≡ Ok t

task_again : (l : Listing) (t : TaskId × TxId) → names_hold l ≡ true → length (tasks l) ≤ MAX_TASKS → IdsFit l t → TaskAgain l t
unfolding task_told
task_again l t names few f =
    let task_known = f.0 in
    record {
      words = record { task = small t.0.0 (omega arith); name = tx_is_name l t.1 names f.1 };
      known = tx_is_known l t.1 names f.1;
      told = rw (task_id_again l t.0 few f.0, tx_again l t.1 names f.1) refl;
    }

-- ---- all lines of a kind

entries_fit : (l : Listing) (es : List told.Entry) → AllByRecursion (λ (e : told.Entry). e.number ≤ MAX_TASKS) es → AllByRecursion (λ (e : told.Entry). e.outcome ≢ outcome.Retries) es
    → AllByRecursion (λ (e : told.Entry). (e.task.0 < length (tasks l)) × (e.tx.0 < length l.transactions)) es → AllByRecursion (λ (e : told.Entry). OutcomeFits e.outcome) es → AllByRecursion (λ (e : told.Entry). OutcomeKnown (length l.always) e.outcome) es
    → AllByRecursion (λ (e : told.Entry). IsOutside l e.outcome) es → AllByRecursion (EntryFits l) es
entries_fit l [] a b c d k o = tt
entries_fit l (e ∷ es) a b c d k o = (record { number = a.0; ends = b.0; ids = c.0; value = d.0; fault_known = k.0; outside = o.0 }, entries_fit l es a.1 b.1 c.1 d.1 k.1 o.1)

-- ---- the lines of variables, and those of cells behind them

abbrev pub cells_written : Listing → List (ℤ × ℕ) → List Cell
cells_written l xs = written_cells (spots l.tables) (drop (length l.names) xs)

-- there is no line of a cell where there are no tables
no_tables : (ts : List (List ℕ × ℕ)) (b : Bool) (vs : List (ℤ × ℕ)) → AllByRecursion IsCell (written_cells (spots ts) vs) → HasCells (nat_lt 0 (length ts) || b) (written_cells (spots ts) vs)
no_tables [] true vs h = tt
no_tables [] false vs h = refl
no_tables (t ∷ ts) b vs h = rw (lt-ltb 0 (suc (length ts)) (omega arith)) h

record ValuesAgain (l : Listing) (xs : List (ℤ × ℕ)) : Type 0 where
  count : length (written_variables l.names xs) ≡ length l.names
  words : AllByRecursion IsVariable (written_variables l.names xs)
  cells : HasCells (knows_cells l) (cells_written l xs)
  named : named_as l.names (written_variables l.names xs) ≡ true
  order : cells_known l (cells_written l xs) ≡ true
  variables_are : each variable_told (written_variables l.names xs) ≡ Ok (take (length l.names) xs)
  cells_are : each (cell_told l) (cells_written l xs) ≡ Ok (told_cells (length l.names) (drop (length l.names) xs))
  told : values_told l (take (length l.names) xs) (told_cells (length l.names) (drop (length l.names) xs)) ≡ xs
  text : (rest : List ℕ) → value_lines l xs ++ rest ≡ flat_map (λ v. line (variable_words v)) (written_variables l.names xs) ++ (flat_map (λ c. line (cell_words c)) (cells_written l xs) ++ rest)

behind_all : {X : Type 0} (P : X → Type 0) (n : ℕ) (xs : List X) → AllByRecursion P xs → AllByRecursion P (drop n xs)
behind_all P zero xs h = h
behind_all P (suc n) [] h = h
behind_all P (suc n) (x ∷ xs) h = behind_all P n xs h.1

values_again : (l : Listing) (xs : List (ℤ × ℕ)) → values l ≡ length l.initial → names_hold l ≡ true → limits_hold l ≡ true → length xs ≡ length l.initial → CellsBegin l xs
    → AllByRecursion (λ x. FitsSigned w64 x.0) xs → AllByRecursion (λ x. x.1 ≤ MAX_TASKS) xs → ValuesAgain l xs
values_again l xs valued names limits long begin values versions =
    let n = length l.names in
    let a = variables_again l.names xs (omega (arith, valued, long)) (names_parts l names).forms values versions in
    let s = spots_length l.tables in
    let d = length-drop n l.initial in
    let e = length-drop n xs in
    let b = cells_again l n (spots l.tables) (drop n l.initial) (drop n xs) (omega (arith, valued, s, d)) (omega (arith, valued, long, s, e)) (all_spelled l names limits) begin
    (behind_all (λ x. FitsSigned w64 x.0) n xs values) (behind_all (λ x. x.1 ≤ MAX_TASKS) n xs versions) in
    let v : List ℕ = flat_map (λ (x : Variable). line (variable_words x)) (written_variables l.names xs) in
    record {
      count = a.count;
      words = a.words;
      cells = no_tables l.tables (nat_lt 0 (most_arity l.transactions)) (drop n xs) b.words;
      named = a.named;
      order = b.order 0 (omega arith);
      variables_are = a.told;
      cells_are = b.told;
      told = ap (λ (us : List (ℤ × ℕ)). take n xs ++ us) b.filled_is ∙ take-append-drop n xs;
      text = λ rest. append_assoc (variable_lines l.names xs) (table_lines l.tables (drop n xs)) rest
          ∙ ap (λ (t : List ℕ). t ++ (table_lines l.tables (drop n xs) ++ rest)) a.text
          ∙ ap (λ (t : List ℕ). v ++ (t ++ rest)) (sym (tables_lined l.tables (drop n xs)) ∙ b.text);
    }

-- ---- all lines

abbrev pub written_report : Listing → Told → Raw
written_report l t =
    record {
      base = decimal t.base;
      base_vars = written_variables l.names t.base_vars;
      base_cells = cells_written l t.base_vars;
      entries = map (written_entry l) t.entries;
      current = decimal t.current;
      current_vars = written_variables l.names t.current_vars;
      current_cells = cells_written l t.current_vars;
      parked = map (written_task l) t.parked;
      memory = map (written_task l) t.memory;
    }

pub record ReportAgain (l : Listing) (t : Told) : Type 0 where
  pub words : IsRaw (knows_cells l) (length l.names) (written_report l t)
  pub told : resolved l (written_report l t) ≡ Ok t
  pub text : report_text l t ≡ raw_text (written_report l t)

-- what a report tells that is read so
module _ (l : Listing) (r : Raw) (t : Told) (bv cv : List (ℤ × ℕ)) (bc cc' : List (VarId × (ℤ × ℕ))) where
  made : List (ℤ × ℕ) → List (ℤ × ℕ) → Told
  made b c = record { base = t.base; base_vars = b; entries = t.entries; current = t.current; current_vars = c; parked = t.parked; memory = t.memory }

  given_told : count_in r.base ≡ Ok t.base → each variable_told r.base_vars ≡ Ok bv → each (cell_told l) r.base_cells ≡ Ok bc → each (entry_told l) r.entries ≡ Ok t.entries
      → count_in r.current ≡ Ok t.current → each variable_told r.current_vars ≡ Ok cv → each (cell_told l) r.current_cells ≡ Ok cc' → each (task_told l) r.parked ≡ Ok t.parked → each (task_told l) r.memory ≡ Ok t.memory
      → values_told l bv bc ≡ t.base_vars → values_told l cv cc' ≡ t.current_vars → told_of l r ≡ Ok t
  unfolding told_of made
  given_told a b b' c d e e' f g v w = rw (a, b, b', c, d, e, e', f, g) (ap (λ (x : List (ℤ × ℕ)). Ok (made x (values_told l cv cc'))) v ∙ ap (λ (x : List (ℤ × ℕ)). Ok (made t.base_vars x)) w)

all_known : (l : Listing) (r : Raw) → named_as l.names r.base_vars ≡ true → named_as l.names r.current_vars ≡ true → cells_known l r.base_cells ≡ true → cells_known l r.current_cells ≡ true
    → entries_known l r.entries ≡ true → tasks_known l r.parked ≡ true → tasks_known l r.memory ≡ true → conditions_known l r.entries ≡ true → names_known l r ≡ true
unfolding names_known variables_known transactions_known
all_known l r a b p q c d e f = and_from _ _ (and_from _ _ a (and_from _ _ b (and_from _ _ p q))) (and_from _ _ (and_from _ _ c (and_from _ _ d e)) f)

resolved_by : (l : Listing) (r : Raw) (t : Told) → names_known l r ≡ true → told_of l r ≡ Ok t → resolved l r ≡ Ok t
unfolding resolved
resolved_by l r t a b = rw a b

-- the text of values, whatever follows
abbrev SameText : Listing → List (ℤ × ℕ) → Type 0
SameText l xs = (rest : List ℕ) → value_lines l xs ++ rest ≡ flat_map (λ v. line (variable_words v)) (written_variables l.names xs) ++ (flat_map (λ c. line (cell_words c)) (cells_written l xs) ++ rest)

all_text : (l : Listing) (t : Told) → SameText l t.base_vars → SameText l t.current_vars
    → flat_map (entry_line l) t.entries ≡ flat_map (λ e. line (entry_words e)) (map (written_entry l) t.entries)
    → flat_map (task_line l (codes "parked")) t.parked ≡ flat_map (λ x. line (task_words (codes "parked") x)) (map (written_task l) t.parked)
    → flat_map (task_line l (codes "memory")) t.memory ≡ flat_map (λ x. line (task_words (codes "memory") x)) (map (written_task l) t.memory)
    → report_text l t ≡ raw_text (written_report l t)
all_text l t b e c f g =
    let last : List ℕ = line (codes "end" ∷ []) in
    let now : List ℕ = line (codes "now" ∷ decimal t.current ∷ []) in
    let old_parked : List ℕ = flat_map (task_line l (codes "parked")) t.parked in
    let old_memory : List ℕ = flat_map (task_line l (codes "memory")) t.memory in
    let parked : List ℕ = flat_map (λ (x : Task). line (task_words (codes "parked") x)) (map (written_task l) t.parked) in
    let entries : List ℕ = flat_map (λ (x : Entry). line (entry_words x)) (map (written_entry l) t.entries) in
    let v : List ℕ = flat_map (λ (x : Variable). line (variable_words x)) (written_variables l.names t.base_vars) in
    let v' : List ℕ = flat_map (λ (x : Cell). line (cell_words x)) (cells_written l t.base_vars) in
    let w : List ℕ = flat_map (λ (x : Variable). line (variable_words x)) (written_variables l.names t.current_vars) in
    let w' : List ℕ = flat_map (λ (x : Cell). line (cell_words x)) (cells_written l t.current_vars) in
    ap (λ (z : List ℕ). line (codes "base" ∷ decimal t.base ∷ []) ++ z)
    (b (flat_map (entry_line l) t.entries ++ (now ++ (value_lines l t.current_vars ++ (old_parked ++ (old_memory ++ last)))))
    ∙ ap (λ (z : List ℕ). v ++ (v' ++ z))
    (ap (λ (z : List ℕ). z ++ (now ++ (value_lines l t.current_vars ++ (old_parked ++ (old_memory ++ last))))) c
    ∙ ap (λ (z : List ℕ). entries ++ (now ++ z))
    (e (old_parked ++ (old_memory ++ last))
    ∙ ap (λ (z : List ℕ). w ++ (w' ++ z))
    (ap (λ (z : List ℕ). z ++ (old_memory ++ last)) f ∙ ap (λ (z : List ℕ). parked ++ (z ++ last)) g))))

pub report_again : (l : Listing) (t : Told) → values l ≡ length l.initial → names_hold l ≡ true → limits_hold l ≡ true → length (tasks l) ≤ MAX_TASKS → FitsCatalogue l t → ReportFits t
    → All (λ (e : told.Entry). e.outcome ≡ outcome.Thrown fault.Outside → knows_cells l ≡ true) t.entries → ReportAgain l t
report_again l t valued names limits few f v out =
    let base_vars = values_again l t.base_vars valued names limits f.base_vars f.base_cells (recursion_from_All (λ (x : ℤ × ℕ). FitsSigned w64 x.0) t.base_vars v.base) (recursion_from_All (λ (x : ℤ × ℕ). x.1 ≤ MAX_TASKS) t.base_vars f.base_versions) in
    let current_vars = values_again l t.current_vars valued names limits f.current_vars f.current_cells (recursion_from_All (λ (x : ℤ × ℕ). FitsSigned w64 x.0) t.current_vars v.current) (recursion_from_All (λ (x : ℤ × ℕ). x.1 ≤ MAX_TASKS) t.current_vars f.current_versions) in
    let entries = entries_fit l t.entries
    (recursion_from_All (λ (e : told.Entry). e.number ≤ MAX_TASKS) t.entries f.numbers)
    (recursion_from_All (λ (e : told.Entry). e.outcome ≢ outcome.Retries) t.entries f.ends)
    (recursion_from_All (λ (e : told.Entry). (e.task.0 < length (tasks l)) × (e.tx.0 < length l.transactions)) t.entries f.entries)
    (recursion_from_All (λ (e : told.Entry). OutcomeFits e.outcome) t.entries v.entries)
    (recursion_from_All (λ (e : told.Entry). OutcomeKnown (length l.always) e.outcome) t.entries f.faults)
    (recursion_from_All (λ (e : told.Entry). IsOutside l e.outcome) t.entries out) in
    let parked = recursion_from_All (IdsFit l) t.parked f.parked in
    let memory = recursion_from_All (IdsFit l) t.memory f.memory in
    let entry = λ (e : told.Entry) (h : EntryFits l e). entry_again l e names few h in
    let task = λ (x : TaskId × TxId) (h : IdsFit l x). task_again l x names few h in
    let r : Raw = written_report l t in
    let known = all_known l r base_vars.named current_vars.named base_vars.order current_vars.order
    (tests_again (EntryFits l) (λ (e : Entry). is_known l e.name) (written_entry l) (λ e h. (entry e h).known) t.entries entries)
    (tests_again (IdsFit l) (λ (x : Task). is_known l x.name) (written_task l) (λ x h. (task x h).known) t.parked parked)
    (tests_again (IdsFit l) (λ (x : Task). is_known l x.name) (written_task l) (λ x h. (task x h).known) t.memory memory)
    (tests_again (EntryFits l) (λ (e : Entry). condition_known l e.ending) (written_entry l) (λ e h. (entry e h).condition) t.entries entries) in
    record {
      words = record {
        base = small t.base f.base;
        base_count = base_vars.count;
        base_vars = base_vars.words;
        base_cells = base_vars.cells;
        entries = all_again (EntryFits l) (IsEntry (knows_cells l)) (written_entry l) (λ e h. (entry e h).words) t.entries entries;
        current = small t.current f.current;
        current_count = current_vars.count;
        current_vars = current_vars.words;
        current_cells = current_vars.cells;
        parked = all_again (IdsFit l) IsTask (written_task l) (λ x h. (task x h).words) t.parked parked;
        memory = all_again (IdsFit l) IsTask (written_task l) (λ x h. (task x h).words) t.memory memory;
      };
      told = resolved_by l r t known (given_told l r t (take (length l.names) t.base_vars) (take (length l.names) t.current_vars)
          (told_cells (length l.names) (drop (length l.names) t.base_vars)) (told_cells (length l.names) (drop (length l.names) t.current_vars))
          (count_again t.base f.base) base_vars.variables_are base_vars.cells_are
          (each_again (EntryFits l) (written_entry l) (entry_told l) (λ e h. (entry e h).told) t.entries entries)
          (count_again t.current f.current) current_vars.variables_are current_vars.cells_are
          (each_again (IdsFit l) (written_task l) (task_told l) (λ x h. (task x h).told) t.parked parked)
          (each_again (IdsFit l) (written_task l) (task_told l) (λ x h. (task x h).told) t.memory memory) base_vars.told current_vars.told);
      text = all_text l t base_vars.text current_vars.text
          (text_again (EntryFits l) (written_entry l) (entry_line l) (λ (e : Entry). line (entry_words e)) (λ e h. (entry e h).text) t.entries entries)
          (text_again (IdsFit l) (written_task l) (task_line l (codes "parked")) (λ (x : Task). line (task_words (codes "parked") x)) (λ x h. refl) t.parked parked)
          (text_again (IdsFit l) (written_task l) (task_line l (codes "memory")) (λ (x : Task). line (task_words (codes "memory") x)) (λ x h. refl) t.memory memory);
    }

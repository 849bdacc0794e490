-- The lines of a report's text, each at its place.
use Rattle.std.proofs.Common.{◌≡◌, ◌∙◌, ◌==◌, ℕ, ℤ, suc, ◌+◌, ◌<◌, ◌≤◌, true, false, not, eqb, if◌then◌else◌, List, [], ◌∷◌, ◌++◌, length, length-drop, map, take, drop, get_or, refl, sym, ap, arith, pos}
use Rattle.std.specs.Prelude.{All, FitsSigned, codes}
use Rattle.std.specs.Int.{w64}
use Rattle.std.specs.Fmt.{decimal, signed_decimal}
use Rattle.std.specs.List.{list_all, flat_map, AllByRecursion}
use Rattle.std.proofs.lemmas.Bool.{and_parts, and_from}
use Rattle.std.proofs.lemmas.List.{append-nil, length-map}
use Rattle.std.proofs.lemmas.List.Folds.{list_all-append}
use Rattle.std.proofs.lemmas.List.Elements.{recursion_from_All}
use Rattle.std.proofs.lemmas.Option.{slice_get-get_or}
use Rattle.txn_programs.specs.declared.ast.AlwaysId.{AlwaysId}
use Rattle.txn_programs.specs.declared.ast.TaskId.{TaskId}
use Rattle.txn_programs.specs.declared.ast.TxId.{TxId}
use Rattle.txn_programs.specs.declared.ast.Fault.TheVariants as fault
use Rattle.txn_programs.specs.declared.ast.Outcome.{Outcome}
use Rattle.txn_programs.specs.declared.ast.Outcome.TheVariants as outcome
use Rattle.txn_programs.specs.declared.report.Entry.{Entry}
use Rattle.txn_programs.specs.LawfulReport.{OutcomeKnown, FitsCatalogue}
use Rattle.txn_programs.specs.Listing.{Listing, always_name, always_names, tasks, program_at, values}
use Rattle.txn_programs.specs.Names.{is_name, are_formed, names_hold}
use Rattle.txn_programs.specs.Limits.{most_cells, most_tasks, limits_hold}
use Rattle.txn_programs.specs.Told.{Told}
use Rattle.txn_programs.specs.Tree.{Transaction, Skip, Int}
use Rattle.txn_programs.proofs.Lawful.{limits_parts, names_parts, passes_at}
use Rattle.text_words.specs.Words.{line}
use Rattle.text_report_printer.specs.ReportFits.{OutcomeFits, ReportFits}
use Rattle.text_report_printer.specs.ReportText.{variable_line, variable_lines, cell_name, cell_line, cell_lines, table_lines, value_lines, outcome_text, entry_line, task_line, report_text}
use Rattle.text_report_printer.proofs.Lengths.{each_take, each_drop, parted}
use Rattle.text_line_reader.specs.Lines.{Line, Whole, lines}
use Rattle.text_line_reader.proofs.Parting.{lacks, lines_nil}
use Rattle.text_line_reader.proofs.Numbers.{decimal_number, int_printed, name_lacks, int_lacks, number_lacks}
use Rattle.text_line_reader.proofs.ReportSteps.{text_of}
use Rattle.text_line_reader.proofs.ReportTexts.{Makes, one_line, two_parts, no_lines, three}

-- ---- words without a newline

decimal_lacks : (n : ℕ) → n ≤ most_tasks → lacks 10 (decimal n) ≡ true
decimal_lacks n h = number_lacks 10 refl (decimal n) (decimal_number n (omega arith))

value_lacks : (v : ℤ) → FitsSigned w64 v → lacks 10 (signed_decimal v) ≡ true
value_lacks v h = int_lacks 10 refl (signed_decimal v) (int_printed v h)

abbrev nothing : Transaction
nothing = record { name = []; parameters = []; body = Skip; result = Int (pos 0) }

tx_lacks : (l : Listing) (tx : TxId) → names_hold l ≡ true → tx.0 < length l.transactions → lacks 10 (program_at l tx).name ≡ true
tx_lacks l tx h lt =
    let t = get_or l.transactions tx.0 nothing in
    let formed = passes_at are_formed l.transactions tx.0 t (names_parts l h).tx_forms (slice_get-get_or l.transactions tx.0 nothing lt) in
    name_lacks 10 refl (program_at l tx).name (and_parts (is_name t.name) _ formed).0

condition_lacks : (l : Listing) (id : AlwaysId) → names_hold l ≡ true → id.0 < length l.always → lacks 10 (always_name l id) ≡ true
condition_lacks l id h lt =
    let names = always_names l in
    let inside : id.0 < length names = rw length-map lt in
    name_lacks 10 refl (always_name l id) (passes_at is_name names id.0 (always_name l id) (names_parts l h).always_forms (slice_get-get_or names id.0 [] inside))

both_lack : (a b : List ℕ) → lacks 10 a ≡ true → lacks 10 b ≡ true → lacks 10 (a ++ b) ≡ true
both_lack a b p q = list_all-append (λ c. not (eqb c 10)) a b ∙ and_from _ _ p q

outcome_lacks : (l : Listing) → names_hold l ≡ true → (o : Outcome) → OutcomeFits o → OutcomeKnown (length l.always) o → lacks 10 (outcome_text l o) ≡ true
outcome_lacks l names (outcome.Returned v) f k = both_lack (codes "returned ") (signed_decimal v) refl (value_lacks v f)
outcome_lacks l names (outcome.Thrown (fault.User v)) f k = both_lack (codes "threw ") (signed_decimal v) refl (value_lacks v f)
outcome_lacks l names (outcome.Thrown fault.Overflow) f k = refl
outcome_lacks l names (outcome.Thrown fault.DivideByZero) f k = refl
outcome_lacks l names (outcome.Thrown (fault.Broken id)) f k = both_lack (codes "broke ") (always_name l id) refl (condition_lacks l id names k)
outcome_lacks l names (outcome.Thrown fault.Outside) f k = refl
outcome_lacks l names outcome.Retries f k = refl

-- ---- rows

abbrev pub base_row : Told → List ℕ
base_row r = text_of (codes "base" ∷ decimal r.base ∷ [])

abbrev pub now_row : Told → List ℕ
now_row r = text_of (codes "now" ∷ decimal r.current ∷ [])

abbrev pub end_row : List ℕ
end_row = text_of (codes "end" ∷ [])

abbrev pub variable_row : List ℕ → ℤ × ℕ → List ℕ
variable_row name v = text_of (name ∷ signed_decimal v.0 ∷ decimal v.1 ∷ [])

abbrev pub entry_row : Listing → Entry → List ℕ
entry_row l e = text_of (codes "entry" ∷ decimal e.number ∷ decimal e.task.0 ∷ (program_at l e.tx).name ∷ outcome_text l e.outcome ∷ [])

abbrev pub task_row : Listing → List ℕ → TaskId × TxId → List ℕ
task_row l word t = text_of (word ∷ decimal t.0.0 ∷ (program_at l t.1).name ∷ [])

abbrev pub variable_rows : List (List ℕ) → List (ℤ × ℕ) → List Line
variable_rows names [] = []
variable_rows [] (v ∷ vs) = []
variable_rows (name ∷ names) (v ∷ vs) = Whole (variable_row name v) ∷ variable_rows names vs

-- a cell that no entry wrote has none
abbrev pub cell_row : List ℕ → ℕ → ℤ × ℕ → List Line
cell_row name index v = if v.1 == 0 then [] else Whole (variable_row (cell_name name index) v) ∷ []

abbrev pub cell_rows : List ℕ → ℕ → List (ℤ × ℕ) → List Line
cell_rows name index [] = []
cell_rows name index (v ∷ vs) = cell_row name index v ++ cell_rows name (suc index) vs

abbrev pub table_rows : List (List ℕ × ℕ) → List (ℤ × ℕ) → List Line
table_rows [] vs = []
table_rows (t ∷ ts) vs = cell_rows t.0 0 (take t.1 vs) ++ table_rows ts (drop t.1 vs)

abbrev pub value_rows : Listing → List (ℤ × ℕ) → List Line
value_rows l vs = variable_rows l.names vs ++ table_rows l.tables (drop (length l.names) vs)

abbrev pub entry_rows : Listing → List Entry → List Line
entry_rows l es = map (λ (e : Entry). Whole (entry_row l e)) es

abbrev pub task_rows : Listing → List ℕ → List (TaskId × TxId) → List Line
task_rows l word ts = map (λ (t : TaskId × TxId). Whole (task_row l word t)) ts

abbrev pub report_rows : Listing → Told → List Line
report_rows l r =
    Whole (base_row r)
    ∷ (value_rows l r.base_vars
    ++ (entry_rows l r.entries
    ++ (Whole (now_row r)
    ∷ (value_rows l r.current_vars
    ++ (task_rows l (codes "parked") r.parked
    ++ (task_rows l (codes "memory") r.memory
    ++ (Whole end_row ∷ [])))))))

-- ---- the text makes them

variable_makes : (name : List ℕ) (v : ℤ × ℕ) → is_name name ≡ true → FitsSigned w64 v.0 → v.1 ≤ most_tasks → Makes (variable_line name v) (Whole (variable_row name v) ∷ [])
variable_makes name v n f m = one_line name (signed_decimal v.0 ∷ decimal v.1 ∷ []) (three name (signed_decimal v.0) (decimal v.1) (name_lacks 10 refl name n) (value_lacks v.0 f) (decimal_lacks v.1 m))

variables_make : (names : List (List ℕ)) (vs : List (ℤ × ℕ)) → list_all is_name names ≡ true → AllByRecursion (λ v. FitsSigned w64 v.0) vs → AllByRecursion (λ v. v.1 ≤ most_tasks) vs → Makes (variable_lines names vs) (variable_rows names vs)
variables_make names [] forms f m = no_lines
variables_make [] (v ∷ vs) forms f m = no_lines
variables_make (name ∷ names) (v ∷ vs) forms f m =
    let p = and_parts (is_name name) (list_all is_name names) forms in
    two_parts (variable_line name v) (variable_lines names vs) (Whole (variable_row name v) ∷ []) (variable_rows names vs)
    (variable_makes name v p.0 f.0 m.0) (variables_make names vs p.1 f.1 m.1)

-- a bracket, the cell's number and a bracket
cell_lacks : (name : List ℕ) (index : ℕ) → is_name name ≡ true → index ≤ most_cells → lacks 10 (cell_name name index) ≡ true
cell_lacks name index n h =
    both_lack name (91 ∷ (decimal index ++ 93 ∷ [])) (name_lacks 10 refl name n)
    (both_lack (decimal index) (93 ∷ []) (number_lacks 10 refl (decimal index) (decimal_number index (omega arith))) refl)

cell_makes : (name : List ℕ) (index : ℕ) (v : ℤ × ℕ) → is_name name ≡ true → index ≤ most_cells → FitsSigned w64 v.0 → v.1 ≤ most_tasks → Makes (cell_line name index v) (cell_row name index v)
cell_makes name index v n h f m =
    elim (v.1 == 0) as (λ none. Makes (if none then [] else variable_line (cell_name name index) v) (if none then [] else Whole (variable_row (cell_name name index) v) ∷ [])) [
      | true ↦ no_lines
      | false ↦
          one_line (cell_name name index) (signed_decimal v.0 ∷ decimal v.1 ∷ [])
          (three (cell_name name index) (signed_decimal v.0) (decimal v.1) (cell_lacks name index n h) (value_lacks v.0 f) (decimal_lacks v.1 m))
    ]

cells_make : (name : List ℕ) (index : ℕ) (vs : List (ℤ × ℕ)) → is_name name ≡ true → index + length vs ≤ most_cells → AllByRecursion (λ v. FitsSigned w64 v.0) vs → AllByRecursion (λ v. v.1 ≤ most_tasks) vs → Makes (cell_lines name index vs) (cell_rows name index vs)
cells_make name index [] n h f m = no_lines
cells_make name index (v ∷ vs) n h f m =
    two_parts (cell_line name index v) (cell_lines name (suc index) vs) (cell_row name index v) (cell_rows name (suc index) vs)
    (cell_makes name index v n (omega arith) f.0 m.0) (cells_make name (suc index) vs n (omega arith) f.1 m.1)

tables_make : (ts : List (List ℕ × ℕ)) (vs : List (ℤ × ℕ)) → list_all is_name (map (λ t. t.0) ts) ≡ true → length vs ≤ most_cells → AllByRecursion (λ v. FitsSigned w64 v.0) vs → AllByRecursion (λ v. v.1 ≤ most_tasks) vs → Makes (table_lines ts vs) (table_rows ts vs)
tables_make [] vs n h f m = no_lines
tables_make (t ∷ ts) vs n h f m =
    let p = and_parts (is_name t.0) (list_all is_name (map (λ (u : List ℕ × ℕ). u.0) ts)) n in
    let sizes = parted t.1 vs in
    two_parts (cell_lines t.0 0 (take t.1 vs)) (table_lines ts (drop t.1 vs)) (cell_rows t.0 0 (take t.1 vs)) (table_rows ts (drop t.1 vs))
    (cells_make t.0 0 (take t.1 vs) p.0 (omega arith) (each_take (λ (v : ℤ × ℕ). FitsSigned w64 v.0) t.1 vs f) (each_take (λ (v : ℤ × ℕ). v.1 ≤ most_tasks) t.1 vs m))
    (tables_make ts (drop t.1 vs) p.1 (omega arith) (each_drop (λ (v : ℤ × ℕ). FitsSigned w64 v.0) t.1 vs f) (each_drop (λ (v : ℤ × ℕ). v.1 ≤ most_tasks) t.1 vs m))

values_make : (l : Listing) → names_hold l ≡ true → limits_hold l ≡ true → (vs : List (ℤ × ℕ)) → length vs ≡ values l → All (λ v. FitsSigned w64 v.0) vs → All (λ v. v.1 ≤ most_tasks) vs → Makes (value_lines l vs) (value_rows l vs)
values_make l names limits vs sized f m =
    let few = (limits_parts l limits).cells in
    let rest = drop (length l.names) vs in
    let behind = length-drop (length l.names) vs in
    let fit = recursion_from_All (λ (v : ℤ × ℕ). FitsSigned w64 v.0) vs f in
    let counted = recursion_from_All (λ (v : ℤ × ℕ). v.1 ≤ most_tasks) vs m in
    two_parts (variable_lines l.names vs) (table_lines l.tables rest) (variable_rows l.names vs) (table_rows l.tables rest)
    (variables_make l.names vs (names_parts l names).forms fit counted)
    (tables_make l.tables rest (names_parts l names).table_forms (omega arith) (each_drop (λ (v : ℤ × ℕ). FitsSigned w64 v.0) (length l.names) vs fit) (each_drop (λ (v : ℤ × ℕ). v.1 ≤ most_tasks) (length l.names) vs counted))

-- what an entry's line needs
record EntryIs (l : Listing) (e : Entry) : Type 0 where
  number : e.number ≤ most_tasks
  task : e.task.0 ≤ most_tasks
  tx : e.tx.0 < length l.transactions
  value : OutcomeFits e.outcome
  fault_known : OutcomeKnown (length l.always) e.outcome

entry_makes : (l : Listing) (e : Entry) → names_hold l ≡ true → EntryIs l e → Makes (entry_line l e) (Whole (entry_row l e) ∷ [])
entry_makes l e names h =
    one_line (codes "entry") (decimal e.number ∷ decimal e.task.0 ∷ (program_at l e.tx).name ∷ outcome_text l e.outcome ∷ [])
    (and_from _ _ refl (and_from _ _ (decimal_lacks e.number h.number) (and_from _ _ (decimal_lacks e.task.0 h.task) (and_from _ _ (tx_lacks l e.tx names h.tx) (and_from _ _ (outcome_lacks l names e.outcome h.value h.fault_known) refl)))))

entries_are : (l : Listing) (es : List Entry) → length (tasks l) ≤ most_tasks → AllByRecursion (λ (e : Entry). e.number ≤ most_tasks) es
    → AllByRecursion (λ (e : Entry). (e.task.0 < length (tasks l)) × (e.tx.0 < length l.transactions)) es → AllByRecursion (λ (e : Entry). OutcomeFits e.outcome) es → AllByRecursion (λ (e : Entry). OutcomeKnown (length l.always) e.outcome) es → AllByRecursion (EntryIs l) es
entries_are l [] few a b c d = tt
entries_are l (e ∷ es) few a b c d =
    let task_known = b.0.0 in (
      record { number = a.0; task = omega arith; tx = b.0.1; value = c.0; fault_known = d.0 },
      entries_are l es few a.1 b.1 c.1 d.1,
    )

entries_make : (l : Listing) (es : List Entry) → names_hold l ≡ true → AllByRecursion (EntryIs l) es → Makes (flat_map (entry_line l) es) (entry_rows l es)
entries_make l [] names h = no_lines
entries_make l (e ∷ es) names h = two_parts (entry_line l e) (flat_map (entry_line l) es) (Whole (entry_row l e) ∷ []) (entry_rows l es) (entry_makes l e names h.0) (entries_make l es names h.1)

abbrev TaskIs : Listing → TaskId × TxId → Type 0
TaskIs l t = (t.0.0 < length (tasks l)) × (t.1.0 < length l.transactions)

task_makes : (l : Listing) (word : List ℕ) (t : TaskId × TxId) → lacks 10 word ≡ true → names_hold l ≡ true → length (tasks l) ≤ most_tasks → TaskIs l t → Makes (task_line l word t) (Whole (task_row l word t) ∷ [])
task_makes l word t w names few h =
    let task_known = h.0 in
    one_line word (decimal t.0.0 ∷ (program_at l t.1).name ∷ []) (three word (decimal t.0.0) (program_at l t.1).name w (decimal_lacks t.0.0 (omega arith)) (tx_lacks l t.1 names h.1))

tasks_make : (l : Listing) (word : List ℕ) (ts : List (TaskId × TxId)) → lacks 10 word ≡ true → names_hold l ≡ true → length (tasks l) ≤ most_tasks → AllByRecursion (TaskIs l) ts → Makes (flat_map (task_line l word) ts) (task_rows l word ts)
tasks_make l word [] w names few h = no_lines
tasks_make l word (t ∷ ts) w names few h =
    two_parts (task_line l word t) (flat_map (task_line l word) ts) (Whole (task_row l word t) ∷ []) (task_rows l word ts) (task_makes l word t w names few h.0) (tasks_make l word ts w names few h.1)

number_makes : (word : List ℕ) (n : ℕ) → lacks 10 word ≡ true → n ≤ most_tasks → Makes (line (word ∷ decimal n ∷ [])) (Whole (text_of (word ∷ decimal n ∷ [])) ∷ [])
number_makes word n w h = one_line word (decimal n ∷ []) (and_from _ _ w (and_from _ _ (decimal_lacks n h) refl))

report_makes : (l : Listing) (r : Told) → values l ≡ length l.initial → names_hold l ≡ true → limits_hold l ≡ true → length (tasks l) ≤ most_tasks → FitsCatalogue l r → ReportFits r → Makes (report_text l r) (report_rows l r)
report_makes l r valued names limits few f v =
    two_parts _ _ _ _ (number_makes (codes "base") r.base refl f.base)
    (two_parts _ _ _ _ (values_make l names limits r.base_vars (f.base_vars ∙ sym valued) v.base f.base_versions)
    (two_parts _ _ _ _ (entries_make l r.entries names (entries_are l r.entries few
    (recursion_from_All (λ (e : Entry). e.number ≤ most_tasks) r.entries f.numbers)
    (recursion_from_All (λ (e : Entry). (e.task.0 < length (tasks l)) × (e.tx.0 < length l.transactions)) r.entries f.entries)
    (recursion_from_All (λ (e : Entry). OutcomeFits e.outcome) r.entries v.entries)
    (recursion_from_All (λ (e : Entry). OutcomeKnown (length l.always) e.outcome) r.entries f.faults)))
    (two_parts _ _ _ _ (number_makes (codes "now") r.current refl f.current)
    (two_parts _ _ _ _ (values_make l names limits r.current_vars (f.current_vars ∙ sym valued) v.current f.current_versions)
    (two_parts _ _ _ _ (tasks_make l (codes "parked") r.parked refl names few (recursion_from_All (TaskIs l) r.parked f.parked))
    (two_parts _ _ _ _ (tasks_make l (codes "memory") r.memory refl names few (recursion_from_All (TaskIs l) r.memory f.memory))
    (one_line (codes "end") [] refl)))))))

pub report_lined : (l : Listing) (r : Told) → values l ≡ length l.initial → names_hold l ≡ true → limits_hold l ≡ true → length (tasks l) ≤ most_tasks → FitsCatalogue l r → ReportFits r → lines (report_text l r) ≡ report_rows l r
report_lined l r valued names limits few f v =
    ap lines (sym (append-nil (report_text l r))) ∙ (report_makes l r valued names limits few f v).by [] ∙ ap (λ (z : List Line). report_rows l r ++ z) lines_nil ∙ append-nil (report_rows l r)

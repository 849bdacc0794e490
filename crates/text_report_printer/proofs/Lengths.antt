-- How long the text of a report is: each line has at most 100 bytes, and that of a cell at most 80.
use Rattle.std.proofs.Common.{◌≡◌, ◌==◌, ℕ, zero, suc, ◌+◌, ◌*◌, ◌<◌, ◌≤◌, ℤ, true, false, if◌then◌else◌, nat_le, List, [], ◌∷◌, ◌++◌, length, take, drop, get_or, arith, lit<, lit≤, length-append, length-drop, take-append-drop, ap, sym, ◌∙◌, pos, subst, map, string_bytes, option_map, Global, String}
use Rattle.std.specs.Prelude.{codes, All, FitsSigned, slice_get, Some}
use Rattle.std.specs.Int.{w64}
use Rattle.std.specs.Fmt.{decimal, signed_decimal}
use Rattle.std.specs.List.{list_all, flat_map, AllByRecursion}
use Rattle.std.proofs.lemmas.Bool.{and_parts, leb-true}
use Rattle.std.proofs.lemmas.Fmt.{length-decimal-le, length_signed_le}
use Rattle.std.proofs.lemmas.List.Elements.{recursion_from_All}
use Rattle.std.proofs.lemmas.Option.{slice_get-get_or, slice_get-map}
use Rattle.std.proofs.lemmas.List.{length-map}
use Rattle.txn_declarations.specs.Counted.{counted}
use Rattle.txn_programs.specs.declared.ast.AlwaysId.{AlwaysId}
use Rattle.txn_programs.specs.declared.ast.Fault.TheVariants.{User, Overflow, DivideByZero, Broken, Outside}
use Rattle.txn_programs.specs.declared.ast.Outcome.{Outcome}
use Rattle.txn_programs.specs.declared.ast.Outcome.TheVariants.{Returned, Thrown, Retries}
use Rattle.txn_programs.specs.declared.ast.TaskId.{TaskId}
use Rattle.txn_programs.specs.declared.ast.TxId.{TxId}
use Rattle.txn_programs.specs.declared.limits.TheConstants.{MAX_TASKS, MAX_NAME}
use Rattle.txn_programs.specs.declared.report.Entry.{Entry}
use Rattle.txn_programs.specs.LawfulReport.{OutcomeKnown, FitsCatalogue}
use Rattle.txn_programs.specs.Limits.{is_short, names_fit, table_fits, limits_hold}
use Rattle.txn_programs.specs.Listing.{Listing, always_name, always_names, cells, program_at, tasks, values}
use Rattle.txn_programs.specs.Told.{Told}
use Rattle.txn_programs.specs.Tree.{Transaction, Skip, Int}
use Rattle.txn_programs.proofs.Lawful.{limits_parts, few_tasks, passes_at}
use Rattle.text_report_printer.specs.ReportFits.{OutcomeFits, ReportFits}
use Rattle.text_report_printer.specs.ReportText.{variable_line, variable_lines, cell_name, cell_line, cell_lines, table_lines, value_lines, outcome_text, entry_line, task_line, report_text, CountsTasks}
use Rattle.text_words.specs.Words.{line}

number_short : (n : ℕ) → n ≤ 65536 → length (decimal n) ≤ 5
number_short n h = length-decimal-le 5 n (lit< tt) (omega arith) (omega arith)

value_short : (z : ℤ) → FitsSigned w64 z → length (signed_decimal z) ≤ 20
value_short z h = length_signed_le 19 z (omega arith) (omega arith)

variable_short : (name : List ℕ) (v : ℤ × ℕ) → length name ≤ 32 → FitsSigned w64 v.0 → v.1 ≤ 65536 → length (variable_line name v) ≤ 100
variable_short name v a b c =
    let p = value_short v.0 b in
    let q = number_short v.1 c in
    simp length-append (omega arith)

-- a condition's name, where there is such a condition
pub condition_short : (l : Listing) → limits_hold l ≡ true → (id : AlwaysId) → id.0 < length l.always → length (always_name l id) ≤ 32
condition_short l h id lt =
    let names = always_names l in
    let inside : id.0 < length names = rw length-map lt in
    leb-true _ _ (passes_at (λ (name : List ℕ). nat_le (length name) MAX_NAME) names id.0 (get_or names id.0 []) (limits_parts l h).always_names_fit (slice_get-get_or names id.0 [] inside))

outcome_short : (l : Listing) → limits_hold l ≡ true → (o : Outcome) → OutcomeFits o → OutcomeKnown (length l.always) o → length (outcome_text l o) ≤ 38
outcome_short l limits (Returned v) h k = let p = value_short v h in omega arith
outcome_short l limits (Thrown (User v)) h k = let p = value_short v h in omega arith
outcome_short l limits (Thrown Overflow) h k = lit≤ tt
outcome_short l limits (Thrown DivideByZero) h k = lit≤ tt
outcome_short l limits (Thrown (Broken id)) h k = let p = condition_short l limits id k in omega arith
outcome_short l limits (Thrown Outside) h k = lit≤ tt
outcome_short l limits Retries h k = lit≤ tt

entry_short : (l : Listing) → limits_hold l ≡ true → (e : Entry) → length (program_at l e.tx).name ≤ 32 → e.number ≤ 65536 → e.task.0 ≤ 65536 → OutcomeFits e.outcome → OutcomeKnown (length l.always) e.outcome → length (entry_line l e) ≤ 100
entry_short l h e a b c d k =
    let p = number_short e.number b in
    let q = number_short e.task.0 c in
    let r = outcome_short l h e.outcome d k in
    simp length-append (omega arith)

task_short : (l : Listing) (word : List ℕ) (t : TaskId × TxId) → length word ≤ 6 → length (program_at l t.1).name ≤ 32 → t.0.0 ≤ 65536 → length (task_line l word t) ≤ 100
task_short l word t a b c =
    let p = number_short t.0.0 c in
    simp length-append (omega arith)

number_line_short : (word : List ℕ) (n : ℕ) → length word ≤ 6 → n ≤ 65536 → length (line (word ∷ decimal n ∷ [])) ≤ 100
number_line_short word n a b =
    let p = number_short n b in
    simp length-append (omega arith)

lines_short : {X : Type 0} (f : X → List ℕ) (xs : List X) → AllByRecursion (λ x. length (f x) ≤ 100) xs → length (flat_map f xs) ≤ 100 * length xs
lines_short f [] h = lit≤ tt
lines_short f (x ∷ xs) h =
    let here = h.0 in
    let ih = lines_short f xs h.1 in
    omega (arith, length-append (f x) (flat_map f xs))

variables_short : (names : List (List ℕ)) (vs : List (ℤ × ℕ)) → list_all (λ name. nat_le (length name) MAX_NAME) names ≡ true → AllByRecursion (λ v. FitsSigned w64 v.0) vs → AllByRecursion (λ v. v.1 ≤ MAX_TASKS) vs → length (variable_lines names vs) ≤ 100 * length names
variables_short names [] a b c = omega arith
variables_short [] (v ∷ vs) a b c = lit≤ tt
variables_short (n ∷ names) (v ∷ vs) a b c =
    let parts = and_parts (nat_le (length n) MAX_NAME) (list_all (λ (name : List ℕ). nat_le (length name) MAX_NAME) names) a in
    let short = variable_short n v (leb-true _ _ parts.0) b.0 c.0 in
    let ih = variables_short names vs parts.1 b.1 c.1 in
    omega (arith, length-append (variable_line n v) (variable_lines names vs))

cell_short : (name : List ℕ) (index : ℕ) (v : ℤ × ℕ) → length name ≤ 32 → index < 1048576 → FitsSigned w64 v.0 → v.1 ≤ 65536 → length (cell_line name index v) ≤ 80
cell_short name index v a i b c =
    let k = length-decimal-le 7 index (lit< tt) (omega arith) (omega arith) in
    let p = value_short v.0 b in
    let q = number_short v.1 c in
    elim (v.1 == 0) as (λ t. length (if t then [] else variable_line (cell_name name index) v) ≤ 80) [
      | true ↦ lit≤ tt
      | false ↦ simp length-append (omega arith)
    ]

cells_short : (name : List ℕ) (index : ℕ) (vs : List (ℤ × ℕ)) → length name ≤ 32 → index + length vs ≤ 1048576 → AllByRecursion (λ v. FitsSigned w64 v.0) vs → AllByRecursion (λ v. v.1 ≤ MAX_TASKS) vs → length (cell_lines name index vs) ≤ 80 * length vs
cells_short name index [] a i b c = lit≤ tt
cells_short name index (v ∷ vs) a i b c =
    let short = cell_short name index v a (omega arith) b.0 c.0 in
    let ih = cells_short name (suc index) vs a (omega arith) b.1 c.1 in
    omega (arith, length-append (cell_line name index v) (cell_lines name (suc index) vs))

-- of a list of which this holds it holds in each part
pub each_take : (P : ℤ × ℕ → Type 0) (n : ℕ) (vs : List (ℤ × ℕ)) → AllByRecursion P vs → AllByRecursion P (take n vs)
each_take P zero vs h = tt
each_take P (suc n) [] h = tt
each_take P (suc n) (v ∷ vs) h = (h.0, each_take P n vs h.1)

pub each_drop : (P : ℤ × ℕ → Type 0) (n : ℕ) (vs : List (ℤ × ℕ)) → AllByRecursion P vs → AllByRecursion P (drop n vs)
each_drop P zero vs h = h
each_drop P (suc n) [] h = tt
each_drop P (suc n) (v ∷ vs) h = each_drop P n vs h.1

pub parted : (n : ℕ) (vs : List (ℤ × ℕ)) → length vs ≡ length (take n vs) + length (drop n vs)
parted n vs = ap length (sym (take-append-drop n vs)) ∙ length-append (take n vs) (drop n vs)

-- the name of a table that is kept with how many cells it has
pub table_name_short : (l : Listing) → limits_hold l ≡ true → (tables : List (String Global × ℕ)) (i : ℕ) (d : String Global × ℕ) → map counted tables ≡ l.tables → i < length tables → length (string_bytes (get_or tables i d).0) ≤ 32
table_name_short l h tables i d e lt =
    let t = get_or tables i d in
    let at : slice_get l.tables i ≡ Some (counted t) = subst (λ (ts : List (List ℕ × ℕ)). slice_get ts i ≡ Some (counted t)) e (slice_get-map counted tables i ∙ ap (option_map counted) (slice_get-get_or tables i d lt)) in
    leb-true _ _ (and_parts (is_short (string_bytes t.0)) _ (passes_at table_fits l.tables i (counted t) (limits_parts l h).each_table at)).0

tables_short : (ts : List (List ℕ × ℕ)) (vs : List (ℤ × ℕ)) → list_all table_fits ts ≡ true → length vs ≤ 1048576 → AllByRecursion (λ v. FitsSigned w64 v.0) vs → AllByRecursion (λ v. v.1 ≤ MAX_TASKS) vs → length (table_lines ts vs) ≤ 80 * length vs
tables_short [] vs a few b c = omega arith
tables_short (t ∷ ts) vs a few b c =
    let parts = and_parts (table_fits t) (list_all table_fits ts) a in
    let name : length t.0 ≤ 32 = leb-true _ _ (and_parts (is_short t.0) _ parts.0).0 in
    let whole = parted t.1 vs in
    let here = cells_short t.0 0 (take t.1 vs) name (omega arith) (each_take (λ (v : ℤ × ℕ). FitsSigned w64 v.0) t.1 vs b) (each_take (λ (v : ℤ × ℕ). v.1 ≤ MAX_TASKS) t.1 vs c) in
    let ih = tables_short ts (drop t.1 vs) parts.1 (omega arith) (each_drop (λ (v : ℤ × ℕ). FitsSigned w64 v.0) t.1 vs b) (each_drop (λ (v : ℤ × ℕ). v.1 ≤ MAX_TASKS) t.1 vs c) in
    omega (arith, length-append (cell_lines t.0 0 (take t.1 vs)) (table_lines ts (drop t.1 vs)))

values_short : (l : Listing) → limits_hold l ≡ true → values l ≡ length l.initial → (vs : List (ℤ × ℕ)) → length vs ≡ length l.initial → All (λ v. FitsSigned w64 v.0) vs → All (λ v. v.1 ≤ MAX_TASKS) vs → length (value_lines l vs) ≤ 25600 + 80 * cells l
values_short l h valued vs whole b c =
    let parts = limits_parts l h in
    let few = parts.variables in
    let few_cells = parts.cells in
    let rest = drop (length l.names) vs in
    let behind : length rest ≡ cells l = omega (arith, length-drop (length l.names) vs, valued, whole) in
    let fit = recursion_from_All (λ (v : ℤ × ℕ). FitsSigned w64 v.0) vs b in
    let counted = recursion_from_All (λ (v : ℤ × ℕ). v.1 ≤ MAX_TASKS) vs c in
    let front = variables_short l.names vs parts.names fit counted in
    let back = tables_short l.tables rest parts.each_table (omega arith) (each_drop (λ (v : ℤ × ℕ). FitsSigned w64 v.0) (length l.names) vs fit) (each_drop (λ (v : ℤ × ℕ). v.1 ≤ MAX_TASKS) (length l.names) vs counted) in
    omega (arith, length-append (variable_lines l.names vs) (table_lines l.tables rest))

pub name_short : (l : Listing) → limits_hold l ≡ true → (tx : TxId) → tx.0 < length l.transactions → length (program_at l tx).name ≤ 32
name_short l h tx lt =
    let none : Transaction = record { name = []; parameters = []; body = Skip; result = Int (pos 0) } in
    let t = get_or l.transactions tx.0 none in
    let fit = passes_at names_fit l.transactions tx.0 t (limits_parts l h).tx_names (slice_get-get_or l.transactions tx.0 none lt) in
    leb-true _ _ (and_parts (is_short t.name) _ fit).0

pub variable_name_short : (l : Listing) → limits_hold l ≡ true → (i : ℕ) (name : List ℕ) → slice_get l.names i ≡ Some name → length name ≤ 32
variable_name_short l h i name e = leb-true _ _ (passes_at (λ (name : List ℕ). nat_le (length name) MAX_NAME) l.names i name (limits_parts l h).names e)

tasks_short : (l : Listing) → limits_hold l ≡ true → (word : List ℕ) → length word ≤ 6 → (ts : List (TaskId × TxId)) → All (λ p. (p.0.0 < length (tasks l)) × (p.1.0 < length l.transactions)) ts → length (flat_map (task_line l word) ts) ≤ 100 * length ts
tasks_short l h word w ts fits =
    let few = few_tasks l h in
    lines_short (task_line l word) ts
    (recursion_from_All (λ (t : TaskId × TxId). length (task_line l word t) ≤ 100) ts
    (λ k d lt. let f = fits k d lt in let inside = f.0 in task_short l word (get_or ts k d) w (name_short l h (get_or ts k d).1 f.1) (omega arith)))

total_short : (a b c d e f g h : List ℕ) (k n p m : ℕ) → length a ≤ 100 → length b ≤ 25600 + 80 * k → length c ≤ 100 * n → length d ≤ 100 → length e ≤ 25600 + 80 * k → length f ≤ 100 * p → length g ≤ 100 * m → length h ≤ 100
    → n + (p + m) ≤ 65536 → length (a ++ (b ++ (c ++ (d ++ (e ++ (f ++ (g ++ h))))))) ≤ 8388608 + 160 * k
total_short a b c d e f g h k n p m la lb lc ld le lf lg lh counts = simp length-append (omega arith)

pub report_short : (l : Listing) (r : Told) → limits_hold l ≡ true → values l ≡ length l.initial → FitsCatalogue l r → ReportFits r → CountsTasks r → length (report_text l r) ≤ 8388608 + 160 * cells l
report_short l r h valued fits told counts =
    let few = few_tasks l h in
    total_short (line (codes "base" ∷ decimal r.base ∷ [])) (value_lines l r.base_vars) (flat_map (entry_line l) r.entries)
    (line (codes "now" ∷ decimal r.current ∷ [])) (value_lines l r.current_vars) (flat_map (task_line l (codes "parked")) r.parked)
    (flat_map (task_line l (codes "memory")) r.memory) (line (codes "end" ∷ [])) (cells l) (length r.entries) (length r.parked) (length r.memory)
    (number_line_short (codes "base") r.base (lit≤ tt) fits.base)
    (values_short l h valued r.base_vars fits.base_vars told.base fits.base_versions)
    (lines_short (entry_line l) r.entries (recursion_from_All (λ (e : Entry). length (entry_line l e) ≤ 100) r.entries
    (λ k d lt. let f = fits.entries k d lt in let inside = f.0 in entry_short l h (get_or r.entries k d) (name_short l h (get_or r.entries k d).tx f.1) (fits.numbers k d lt) (omega arith) (told.entries k d lt) (fits.faults k d lt))))
    (number_line_short (codes "now") r.current (lit≤ tt) fits.current)
    (values_short l h valued r.current_vars fits.current_vars told.current fits.current_versions)
    (tasks_short l h (codes "parked") (lit≤ tt) r.parked fits.parked)
    (tasks_short l h (codes "memory") (lit≤ tt) r.memory fits.memory)
    (lit≤ tt) counts

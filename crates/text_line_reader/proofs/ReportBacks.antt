-- What is told of words is written as these words.
use Rattle.std.proofs.Common.{◌≡◌, ◌≢◌, ◌∙◌, ℕ, suc, ◌<◌, ◌≤◌, ◌&&◌, true, List, [], ◌∷◌, ◌++◌, length, drop, Ok, refl, sym, ap, subst, append_assoc, length-drop, arith}
use Rattle.std.specs.Prelude.{ℤ, FitsSigned, All, codes}
use Rattle.std.specs.Int.{w64}
use Rattle.std.specs.Fmt.{decimal, signed_decimal}
use Rattle.std.specs.List.{flat_map, AllByRecursion}
use Rattle.std.specs.Str.{bytes_eq}
use Rattle.std.proofs.lemmas.Bool.{and_parts}
use Rattle.std.proofs.lemmas.List.{length-append, drop_at}
use Rattle.std.proofs.lemmas.List.Elements.{All-from_recursion}
use Rattle.std.proofs.lemmas.Slice.Eq.{bytes_eq-Decides}
use Rattle.txn_programs.specs.declared.ast.TaskId.{TaskId}
use Rattle.txn_programs.specs.declared.ast.TxId.{TxId}
use Rattle.txn_programs.specs.declared.ast.VarId.{VarId}
use Rattle.txn_programs.specs.declared.ast.Fault.TheVariants as fault
use Rattle.txn_programs.specs.declared.ast.Outcome.{Outcome}
use Rattle.txn_programs.specs.declared.ast.Outcome.TheVariants as outcome
use Rattle.txn_programs.specs.declared.limits.TheConstants.{MAX_TASKS}
use Rattle.txn_programs.specs.declared.report.Entry as told
use Rattle.txn_programs.specs.LawfulReport.{OutcomeKnown, UnwrittenBegin, CellsBegin, FitsCatalogue}
use Rattle.txn_programs.specs.Limits.{limits_hold}
use Rattle.txn_programs.specs.Listing.{Listing, values, cells, tasks}
use Rattle.txn_programs.specs.Told.{Told}
use Rattle.text_words.specs.Bytes.{int_value}
use Rattle.text_report_printer.specs.ReportFits.{OutcomeFits, ReportFits}
use Rattle.text_report_printer.specs.ReportText.{variable_line, variable_lines, table_lines, value_lines, outcome_text, entry_line, task_line, report_text}
use Rattle.text_words.specs.Numbers.{number_of}
use Rattle.text_words.specs.Words.{line}
use Rattle.text_words.proofs.Steps.{bind_ok, ok_is}
use Rattle.text_line_reader.specs.ReportRaw.{Variable, Cell, Ending, Returned, Threw, Overflow, DivideByZero, Outside, Broke, Entry, Task, Raw, variable_words, cell_words, ending_words, entry_words, task_words, number_words, raw_text, IsVariable, IsCell, IsEnding, IsEntry, IsTask, IsRaw}
use Rattle.text_line_reader.specs.ReportResolving.{named_as, cells_known, variables_known, transactions_known, conditions_known, names_known, count_in, tx_id, always_id, variable_told, cell_told, filled, values_told, outcome_told, entry_told, task_told, told_of}
use Rattle.text_line_reader.specs.Counts.{task_id}
use Rattle.text_line_reader.specs.Reports.{knows_cells}
use Rattle.text_line_reader.specs.Rows.{each}
use Rattle.text_line_reader.proofs.WordsTold.{value_back, count_back}
use Rattle.text_line_reader.proofs.CellSteps.{are_cells}
use Rattle.text_line_reader.proofs.CellBacks.{tables_back}
use Rattle.text_line_reader.proofs.Spots.{tables_lined}
use Rattle.text_line_reader.proofs.ReportPlaces.{tx_back, always_back}
use Rattle.text_line_reader.proofs.Backs.{task_id_back, each_back, pairs_text, pairs_all}

-- ---- lines

pub record VariableBack (name : List ℕ) (v : Variable) (x : ℤ × ℕ) : Type 0 where
  pub text : line (variable_words v) ≡ variable_line name x
  pub value : FitsSigned w64 x.0
  pub version : x.1 ≤ MAX_TASKS

variable_back : (name : List ℕ) (v : Variable) (x : ℤ × ℕ) → IsVariable v → v.name ≡ name → variable_told v ≡ Ok x → VariableBack name v x
unfolding variable_told
variable_back name v x is named e =
    let a = bind_ok (number_of (int_value v.value)) _ x e in
    let b = bind_ok (count_in v.version) _ x a.2 in
    let value = value_back v.value a.0 is.value a.1 in
    let version = count_back v.version b.0 is.version b.1 in
    subst (VariableBack name v) (ok_is (a.0, b.0) x b.2) (record {
      text = ap (λ (n : List ℕ). line (n ∷ v.value ∷ v.version ∷ [])) named
          ∙ ap (λ (n : List ℕ). line (name ∷ n ∷ v.version ∷ [])) (sym value.written)
          ∙ ap (λ (n : List ℕ). line (name ∷ signed_decimal a.0 ∷ n ∷ [])) (sym version.written);
      value = value.fits;
      version = version.most;
    })

pub record OutcomeBack (l : Listing) (e : Ending) (o : Outcome) : Type 0 where
  pub text : (word : List ℕ) → line (word ∷ ending_words e) ≡ line (word ∷ outcome_text l o ∷ [])
  pub fits : OutcomeFits o
  pub known : OutcomeKnown (length l.always) o
  pub ends : o ≢ outcome.Retries
  pub outside : o ≡ outcome.Thrown fault.Outside → knows_cells l ≡ true

outcome_back : (l : Listing) (e : Ending) (o : Outcome) → IsEnding (knows_cells l) e → outcome_told l e ≡ Ok o → OutcomeBack l e o
outcome_back l (Returned value) o is e =
    let a = bind_ok (number_of (int_value value)) _ o e in
    let v = value_back value a.0 is a.1 in
    let made : Outcome = outcome.Returned a.0 in
    subst (OutcomeBack l (Returned value)) (ok_is made o a.2) (record {
      text = λ word. ap (λ (n : List ℕ). line (word ∷ codes "returned" ∷ n ∷ [])) (sym v.written);
      fits = v.fits;
      known = tt;
      ends = λ h. cc;
      outside = λ h. absurd (cc);
    })
outcome_back l (Threw value) o is e =
    let a = bind_ok (number_of (int_value value)) _ o e in
    let v = value_back value a.0 is a.1 in
    let made : Outcome = outcome.Thrown (fault.User a.0) in
    subst (OutcomeBack l (Threw value)) (ok_is made o a.2) (record {
      text = λ word. ap (λ (n : List ℕ). line (word ∷ codes "threw" ∷ n ∷ [])) (sym v.written);
      fits = v.fits;
      known = tt;
      ends = λ h. cc;
      outside = λ h. absurd (cc);
    })
outcome_back l Overflow o is e = subst (OutcomeBack l Overflow) (ok_is (outcome.Thrown fault.Overflow) o e) (record { text = λ word. refl; fits = tt; known = tt; ends = λ h. cc; outside = λ h. absurd (cc) })
outcome_back l DivideByZero o is e = subst (OutcomeBack l DivideByZero) (ok_is (outcome.Thrown fault.DivideByZero) o e) (record { text = λ word. refl; fits = tt; known = tt; ends = λ h. cc; outside = λ h. absurd (cc) })
outcome_back l Outside o is e = subst (OutcomeBack l Outside) (ok_is (outcome.Thrown fault.Outside) o e) (record { text = λ word. refl; fits = tt; known = tt; ends = λ h. cc; outside = λ h. is })
outcome_back l (Broke name) o is e =
    let a = bind_ok (always_id l name) _ o e in
    let c = always_back l name a.0 a.1 in
    let made : Outcome = outcome.Thrown (fault.Broken a.0) in
    subst (OutcomeBack l (Broke name)) (ok_is made o a.2) (record {
      text = λ word. ap (λ (n : List ℕ). line (word ∷ codes "broke" ∷ n ∷ [])) (sym c.name_is);
      fits = tt;
      known = c.known;
      ends = λ h. cc;
      outside = λ h. absurd (cc);
    })

pub record EntryBack (l : Listing) (e : Entry) (x : told.Entry) : Type 0 where
  pub text : line (entry_words e) ≡ entry_line l x
  pub number : x.number ≤ MAX_TASKS
  pub fits : OutcomeFits x.outcome
  pub fault_known : OutcomeKnown (length l.always) x.outcome
  pub ends : x.outcome ≢ outcome.Retries
  pub outside : x.outcome ≡ outcome.Thrown fault.Outside → knows_cells l ≡ true
  pub ids : (x.task.0 < length (tasks l)) × (x.tx.0 < length l.transactions)

entry_back : (l : Listing) → length (tasks l) ≤ MAX_TASKS → (e : Entry) (x : told.Entry) → IsEntry (knows_cells l) e → entry_told l e ≡ Ok x → EntryBack l e x
unfolding entry_told
entry_back l few e x is h =
    let a = bind_ok (count_in e.number) _ x h in
    let b = bind_ok (task_id l e.task) _ x a.2 in
    let c = bind_ok (tx_id l e.name) _ x b.2 in
    let d = bind_ok (outcome_told l e.ending) _ x c.2 in
    let number = count_back e.number a.0 is.number a.1 in
    let task = task_id_back l e.task b.0 few is.task b.1 in
    let tx = tx_back l e.name c.0 c.1 in
    let ended = outcome_back l e.ending d.0 is.ending d.1 in
    let made : told.Entry = record { number = a.0; task = b.0; tx = c.0; outcome = d.0 } in
    subst (EntryBack l e) (ok_is made x d.2) (record {
      text = ap (λ (t : List ℕ). codes "entry" ++ (codes " " ++ (e.number ++ (codes " " ++ (e.task ++ (codes " " ++ t)))))) (ended.text e.name)
          ∙ ap (λ (n : List ℕ). line (codes "entry" ∷ n ∷ e.task ∷ e.name ∷ outcome_text l d.0 ∷ [])) (sym number.written)
          ∙ ap (λ (n : List ℕ). line (codes "entry" ∷ decimal a.0 ∷ n ∷ e.name ∷ outcome_text l d.0 ∷ [])) (sym task.written)
          ∙ ap (λ (n : List ℕ). line (codes "entry" ∷ decimal a.0 ∷ decimal b.0.0 ∷ n ∷ outcome_text l d.0 ∷ [])) (sym tx.name_is);
      number = number.most;
      fits = ended.fits;
      fault_known = ended.known;
      ends = ended.ends;
      outside = ended.outside;
      ids = (task.known, tx.known);
    })

pub record TaskLineBack (l : Listing) (word : List ℕ) (t : Task) (x : TaskId × TxId) : Type 0 where
  pub text : line (task_words word t) ≡ task_line l word x
  pub ids : (x.0.0 < length (tasks l)) × (x.1.0 < length l.transactions)

task_back : (l : Listing) → length (tasks l) ≤ MAX_TASKS → (word : List ℕ) (t : Task) (x : TaskId × TxId) → IsTask t → task_told l t ≡ Ok x → TaskLineBack l word t x
unfolding task_told
task_back l few word t x is h =
    let a = bind_ok (task_id l t.task) _ x h in
    let b = bind_ok (tx_id l t.name) _ x a.2 in
    let task = task_id_back l t.task a.0 few is.task a.1 in
    let tx = tx_back l t.name b.0 b.1 in
    subst (TaskLineBack l word t) (ok_is (a.0, b.0) x b.2) (record {
      text = ap (λ (n : List ℕ). line (word ∷ n ∷ t.name ∷ [])) (sym task.written) ∙ ap (λ (n : List ℕ). line (word ∷ decimal a.0.0 ∷ n ∷ [])) (sym tx.name_is);
      ids = (task.known, tx.known);
    })

-- ---- all lines of a kind

pub record VariablesBack (names : List (List ℕ)) (vs : List Variable) (xs : List (ℤ × ℕ)) : Type 0 where
  pub text : flat_map (λ v. line (variable_words v)) vs ≡ variable_lines names xs
  pub count : length xs ≡ length vs
  pub values : AllByRecursion (λ x. FitsSigned w64 x.0) xs
  pub versions : AllByRecursion (λ x. x.1 ≤ MAX_TASKS) xs

variables_back : (names : List (List ℕ)) (vs : List Variable) (xs : List (ℤ × ℕ)) → AllByRecursion IsVariable vs → named_as names vs ≡ true → each variable_told vs ≡ Ok xs → VariablesBack names vs xs
variables_back [] [] xs is named e = subst (VariablesBack [] []) (ok_is [] xs e) (record { text = refl; count = refl; values = tt; versions = tt })
variables_back [] (v ∷ vs) xs is named e = absurd cc
variables_back (name ∷ names) [] xs is named e = absurd cc
variables_back (name ∷ names) (v ∷ vs) xs is named e =
    let a = bind_ok (variable_told v) _ xs e in
    let b = bind_ok (each variable_told vs) _ xs a.2 in
    let n = and_parts (bytes_eq v.name name) (named_as names vs) named in
    let first = variable_back name v a.0 is.0 ((bytes_eq-Decides v.name name).0 n.0) a.1 in
    let others = variables_back names vs b.0 is.1 n.1 b.1 in
    subst (VariablesBack (name ∷ names) (v ∷ vs)) (ok_is (a.0 ∷ b.0) xs b.2) (record {
      text = ap (λ (t : List ℕ). t ++ flat_map (λ w. line (variable_words w)) vs) first.text ∙ ap (λ (t : List ℕ). variable_line name a.0 ++ t) others.text;
      count = ap suc others.count;
      values = (first.value, others.values);
      versions = (first.version, others.versions);
    })

-- ---- the lines of variables, and those of cells behind them

more_lines : (names : List (List ℕ)) (xs ys : List (ℤ × ℕ)) → length xs ≡ length names → variable_lines names (xs ++ ys) ≡ variable_lines names xs
more_lines [] [] [] e = refl
more_lines [] [] (y ∷ ys) e = refl
more_lines [] (x ∷ xs) ys e = absurd (omega (arith, e))
more_lines (name ∷ names) [] ys e = absurd (omega (arith, e))
more_lines (name ∷ names) (x ∷ xs) ys e = ap (λ (t : List ℕ). variable_line name x ++ t) (more_lines names xs ys (omega (arith, e)))

both_all : {X : Type 0} (P : X → Type 0) (xs ys : List X) → AllByRecursion P xs → AllByRecursion P ys → AllByRecursion P (xs ++ ys)
both_all P [] ys h k = k
both_all P (x ∷ xs) ys h k = (h.0, both_all P xs ys h.1 k)

record ValuesBack (l : Listing) (vs : List Variable) (cs : List Cell) (xs : List (ℤ × ℕ)) : Type 0 where
  text : (rest : List ℕ) → flat_map (λ v. line (variable_words v)) vs ++ (flat_map (λ c. line (cell_words c)) cs ++ rest) ≡ value_lines l xs ++ rest
  count : length xs ≡ length l.initial
  begin : CellsBegin l xs
  values : AllByRecursion (λ x. FitsSigned w64 x.0) xs
  versions : AllByRecursion (λ x. x.1 ≤ MAX_TASKS) xs

-- the initial values of cells
abbrev pub cells_initial : Listing → List ℤ
cells_initial l = drop (length l.names) l.initial

values_back : (l : Listing) (vs : List Variable) (cs : List Cell) (xs : List (ℤ × ℕ)) (bs : List (VarId × (ℤ × ℕ))) → values l ≡ length l.initial → limits_hold l ≡ true → AllByRecursion (FitsSigned w64) (cells_initial l)
    → length vs ≡ length l.names → AllByRecursion IsVariable vs → named_as l.names vs ≡ true → each variable_told vs ≡ Ok xs
    → AllByRecursion IsCell cs → cells_known l cs ≡ true → each (cell_told l) cs ≡ Ok bs → ValuesBack l vs cs (values_told l xs bs)
values_back l vs cs xs bs valued limits fit count are named told cs_are order cs_told =
    let a = variables_back l.names vs xs are named told in
    let long : length (cells_initial l) ≡ cells l = let n = length-drop (length l.names) l.initial in omega (arith, valued, n) in
    let b = tables_back l (cells_initial l) cs bs limits long fit cs_are order cs_told in
    let told : List (ℤ × ℕ) = filled (cells_initial l) (length l.names) bs in
    let as_many : length xs ≡ length l.names = a.count ∙ count in
    let rest_is : drop (length l.names) (xs ++ told) ≡ told = drop_at xs told (length l.names) as_many in
    let v : List ℕ = flat_map (λ (x : Variable). line (variable_words x)) vs in
    let c : List ℕ = flat_map (λ (x : Cell). line (cell_words x)) cs in
    let cells_text : c ≡ table_lines l.tables (drop (length l.names) (xs ++ told)) = b.text ∙ tables_lined l.tables told ∙ ap (table_lines l.tables) (sym rest_is) in
    record {
      text = λ rest. ap (λ (t : List ℕ). t ++ (c ++ rest)) (a.text ∙ sym (more_lines l.names xs told as_many))
          ∙ ap (λ (t : List ℕ). variable_lines l.names (xs ++ told) ++ (t ++ rest)) cells_text
          ∙ sym (append_assoc (variable_lines l.names (xs ++ told)) (table_lines l.tables (drop (length l.names) (xs ++ told))) rest);
      count = let n = length-append xs told in let m = b.count in omega (arith, n, m, as_many, long, valued);
      begin = subst (UnwrittenBegin (cells_initial l)) (sym rest_is) b.begin;
      values = both_all (λ x. FitsSigned w64 x.0) xs told a.values b.values;
      versions = both_all (λ x. x.1 ≤ MAX_TASKS) xs told a.versions b.versions;
    }

-- ---- all lines

-- the report has the text of these words, and fits the catalogue
pub record ReportBack (l : Listing) (r : Raw) (t : Told) : Type 0 where
  pub text : raw_text r ≡ report_text l t
  pub fits : FitsCatalogue l t
  pub values : ReportFits t
  pub outside : All (λ (x : told.Entry). x.outcome ≡ outcome.Thrown fault.Outside → knows_cells l ≡ true) t.entries

pub told_back : (l : Listing) (r : Raw) (t : Told) → values l ≡ length l.initial → limits_hold l ≡ true → AllByRecursion (FitsSigned w64) (cells_initial l) → length (tasks l) ≤ MAX_TASKS → IsRaw (knows_cells l) (length l.names) r → names_known l r ≡ true → told_of l r ≡ Ok t → ReportBack l r t
unfolding told_of names_known variables_known
told_back l r t valued limits fit few is known e =
    let all = and_parts (variables_known l r) (transactions_known l r && conditions_known l r.entries) known in
    let n = and_parts (named_as l.names r.base_vars) (named_as l.names r.current_vars && (cells_known l r.base_cells && cells_known l r.current_cells)) all.0 in
    let n2 = and_parts (named_as l.names r.current_vars) (cells_known l r.base_cells && cells_known l r.current_cells) n.1 in
    let n3 = and_parts (cells_known l r.base_cells) (cells_known l r.current_cells) n2.1 in
    let a = bind_ok (count_in r.base) _ t e in
    let b = bind_ok (each variable_told r.base_vars) _ t a.2 in
    let b' = bind_ok (each (cell_told l) r.base_cells) _ t b.2 in
    let c = bind_ok (each (entry_told l) r.entries) _ t b'.2 in
    let d = bind_ok (count_in r.current) _ t c.2 in
    let f = bind_ok (each variable_told r.current_vars) _ t d.2 in
    let f' = bind_ok (each (cell_told l) r.current_cells) _ t f.2 in
    let g = bind_ok (each (task_told l) r.parked) _ t f'.2 in
    let h = bind_ok (each (task_told l) r.memory) _ t g.2 in
    let base = count_back r.base a.0 is.base a.1 in
    let base_vars = values_back l r.base_vars r.base_cells b.0 b'.0 valued limits fit is.base_count is.base_vars n.0 b.1 (are_cells (knows_cells l) r.base_cells is.base_cells) n3.0 b'.1 in
    let entries = each_back (IsEntry (knows_cells l)) (EntryBack l) (entry_told l) (entry_back l few) r.entries c.0 is.entries c.1 in
    let current = count_back r.current d.0 is.current d.1 in
    let current_vars = values_back l r.current_vars r.current_cells f.0 f'.0 valued limits fit is.current_count is.current_vars n2.0 f.1 (are_cells (knows_cells l) r.current_cells is.current_cells) n3.1 f'.1 in
    let parked = each_back IsTask (TaskLineBack l (codes "parked")) (task_told l) (task_back l few (codes "parked")) r.parked g.0 is.parked g.1 in
    let memory = each_back IsTask (TaskLineBack l (codes "memory")) (task_told l) (task_back l few (codes "memory")) r.memory h.0 is.memory h.1 in
    let base_told : List (ℤ × ℕ) = values_told l b.0 b'.0 in
    let current_told : List (ℤ × ℕ) = values_told l f.0 f'.0 in
    let made : Told = record { base = a.0; base_vars = base_told; entries = c.0; current = d.0; current_vars = current_told; parked = g.0; memory = h.0 } in
    let t7 : List ℕ = line (codes "end" ∷ []) in
    let m : List ℕ = flat_map (λ (x : Task). line (task_words (codes "memory") x)) r.memory in
    let p : List ℕ = flat_map (λ (x : Task). line (task_words (codes "parked") x)) r.parked in
    let w : List ℕ = flat_map (λ (x : Variable). line (variable_words x)) r.current_vars in
    let w' : List ℕ = flat_map (λ (x : Cell). line (cell_words x)) r.current_cells in
    let k : List ℕ = line (number_words (codes "now") r.current) in
    let s : List ℕ = flat_map (λ (x : Entry). line (entry_words x)) r.entries in
    let v : List ℕ = flat_map (λ (x : Variable). line (variable_words x)) r.base_vars in
    let v' : List ℕ = flat_map (λ (x : Cell). line (cell_words x)) r.base_cells in
    subst (ReportBack l r) (ok_is made t h.2) (record {
      text = ap (λ (z : List ℕ). line (codes "base" ∷ z ∷ []) ++ (v ++ (v' ++ (s ++ (k ++ (w ++ (w' ++ (p ++ (m ++ t7))))))))) (sym base.written)
          ∙ ap (λ (z : List ℕ). line (codes "base" ∷ decimal a.0 ∷ []) ++ z)
          (base_vars.text (s ++ (k ++ (w ++ (w' ++ (p ++ (m ++ t7))))))
          ∙ ap (λ (z : List ℕ). value_lines l base_told ++ z)
          (ap (λ (z : List ℕ). z ++ (k ++ (w ++ (w' ++ (p ++ (m ++ t7)))))) (pairs_text (EntryBack l) (λ (x : Entry). line (entry_words x)) (entry_line l) (λ x y q. q.text) r.entries c.0 entries)
          ∙ ap (λ (z : List ℕ). flat_map (entry_line l) c.0 ++ z)
          (ap (λ (z : List ℕ). line (codes "now" ∷ z ∷ []) ++ (w ++ (w' ++ (p ++ (m ++ t7))))) (sym current.written)
          ∙ ap (λ (z : List ℕ). line (codes "now" ∷ decimal d.0 ∷ []) ++ z)
          (current_vars.text (p ++ (m ++ t7))
          ∙ ap (λ (z : List ℕ). value_lines l current_told ++ z)
          (ap (λ (z : List ℕ). z ++ (m ++ t7)) (pairs_text (TaskLineBack l (codes "parked")) (λ (x : Task). line (task_words (codes "parked") x)) (task_line l (codes "parked")) (λ x y q. q.text) r.parked g.0 parked)
          ∙ ap (λ (z : List ℕ). flat_map (task_line l (codes "parked")) g.0 ++ z)
          (ap (λ (z : List ℕ). z ++ t7) (pairs_text (TaskLineBack l (codes "memory")) (λ (x : Task). line (task_words (codes "memory") x)) (task_line l (codes "memory")) (λ x y q. q.text) r.memory h.0 memory)))))));
      fits = record {
        base_vars = base_vars.count;
        current_vars = current_vars.count;
        base_cells = base_vars.begin;
        current_cells = current_vars.begin;
        base = base.most;
        current = current.most;
        base_versions = All-from_recursion (λ (x : ℤ × ℕ). x.1 ≤ MAX_TASKS) base_told base_vars.versions;
        current_versions = All-from_recursion (λ (x : ℤ × ℕ). x.1 ≤ MAX_TASKS) current_told current_vars.versions;
        numbers = All-from_recursion (λ (x : told.Entry). x.number ≤ MAX_TASKS) c.0 (pairs_all (EntryBack l) (λ (x : told.Entry). x.number ≤ MAX_TASKS) (λ x y q. q.number) r.entries c.0 entries);
        ends = All-from_recursion (λ (x : told.Entry). x.outcome ≢ outcome.Retries) c.0 (pairs_all (EntryBack l) (λ (x : told.Entry). x.outcome ≢ outcome.Retries) (λ x y q. q.ends) r.entries c.0 entries);
        faults = All-from_recursion (λ (x : told.Entry). OutcomeKnown (length l.always) x.outcome) c.0 (pairs_all (EntryBack l) (λ (x : told.Entry). OutcomeKnown (length l.always) x.outcome) (λ x y q. q.fault_known) r.entries c.0 entries);
        entries = All-from_recursion (λ (x : told.Entry). (x.task.0 < length (tasks l)) × (x.tx.0 < length l.transactions)) c.0 (pairs_all (EntryBack l) (λ (x : told.Entry). (x.task.0 < length (tasks l)) × (x.tx.0 < length l.transactions)) (λ x y q. q.ids) r.entries c.0 entries);
        parked = All-from_recursion (λ (x : TaskId × TxId). (x.0.0 < length (tasks l)) × (x.1.0 < length l.transactions)) g.0 (pairs_all (TaskLineBack l (codes "parked")) (λ (x : TaskId × TxId). (x.0.0 < length (tasks l)) × (x.1.0 < length l.transactions)) (λ x y q. q.ids) r.parked g.0 parked);
        memory = All-from_recursion (λ (x : TaskId × TxId). (x.0.0 < length (tasks l)) × (x.1.0 < length l.transactions)) h.0 (pairs_all (TaskLineBack l (codes "memory")) (λ (x : TaskId × TxId). (x.0.0 < length (tasks l)) × (x.1.0 < length l.transactions)) (λ x y q. q.ids) r.memory h.0 memory);
      };
      values = record {
        base = All-from_recursion (λ (x : ℤ × ℕ). FitsSigned w64 x.0) base_told base_vars.values;
        entries = All-from_recursion (λ (x : told.Entry). OutcomeFits x.outcome) c.0 (pairs_all (EntryBack l) (λ (x : told.Entry). OutcomeFits x.outcome) (λ x y q. q.fits) r.entries c.0 entries);
        current = All-from_recursion (λ (x : ℤ × ℕ). FitsSigned w64 x.0) current_told current_vars.values;
      };
      outside = All-from_recursion (λ (x : told.Entry). x.outcome ≡ outcome.Thrown fault.Outside → knows_cells l ≡ true) c.0
          (pairs_all (EntryBack l) (λ (x : told.Entry). x.outcome ≡ outcome.Thrown fault.Outside → knows_cells l ≡ true) (λ x y q. q.outside) r.entries c.0 entries);
    })

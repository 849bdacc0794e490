-- The canonical text of a listing spells the file that declares it.
use Rattle.std.proofs.Common.{◌≡◌, ◌∙◌, ℕ, suc, ◌<◌, ◌≤◌, Bool, true, nat_le, false, cond, List, [], ◌∷◌, length, map, take, drop, Some, refl, sym, ap, arith}
use Rattle.std.specs.Prelude.{ℤ, codes}
use Rattle.std.specs.List.{slice_get, list_all, list_any, flat_map, AllByRecursion}
use Rattle.std.proofs.lemmas.Bool.{and_parts, and_from, leb-true}
use Rattle.std.proofs.lemmas.List.{length-map}
use Rattle.std.proofs.lemmas.List.Folds.{list_all-map}
use Rattle.txn_programs.specs.declared.arguments.Call.{Call}
use Rattle.txn_programs.specs.Tree.{Condition, Transaction, under}
use Rattle.txn_programs.specs.declared.ast.Span.{Span}
use Rattle.txn_programs.specs.Names.{is_name, are_formed, names_hold, knows_table}
use Rattle.txn_programs.specs.Limits.{limits_hold, deepest, program_fits}
use Rattle.txn_programs.specs.Depth.{statement_depth, expression_depth, condition_depth}
use Rattle.txn_programs.specs.Listing.{Listing, conditions, spans}
use Rattle.txn_programs.proofs.Lawful.{names_parts, limits_parts, passes_at}
use Rattle.text_words.specs.Tokens as token
use Rattle.text_grammar.specs.Scope.{inside}
use Rattle.text_grammar.specs.declared.file.FileForm.{FileForm}
use Rattle.text_grammar.specs.declared.file.FileForm.TheVariants.{One, Two, Three}
use Rattle.text_grammar.specs.Tree.{Pair, Table, Declaration, Run, HasNoLists, IsOfForm, IsAlways, IsTx, SpellsTree, longest, has_tables, heading_tokens, pair_tokens, table_tokens, always_tokens, tx_tokens, run_tokens, file_tokens}
use Rattle.text_grammar.specs.Written.{form_for_conditions, has_list, form_with, form_for, scope_of, written_vars, written_table, written_tables, written_always, written_transaction, written_run, written_in, written}
use Rattle.text_file_printer.specs.Canonical.{heading_text, pair_line, table_line, always_line, tx_line, run_line, text_in}
use Rattle.text_file_printer.specs.Fits.{PairFits, TableFits, AlwaysFits, DeclarationFits, RunFits, FileFits}
use Rattle.text_file_printer.proofs.Spelled.{IsWord, Lines, none_lines, both_lines, lines_of, spelled_by}
use Rattle.text_file_printer.proofs.Spellings.{AreNames, name_at_is, var_is_word, heading_lines, pair_lines, table_lines, always_lines, tx_lines, run_lines}
use Rattle.text_file_printer.proofs.Depths.{expr_deep, cond_deep, stmt_deep}
use Rattle.text_file_printer.proofs.Known.{condition_named_at, IsNamed, transaction_named_at, run_callable}
use Rattle.text_file_printer.proofs.Listed.{no_parameters, no_arguments, knows_form}
use Rattle.text_file_printer.proofs.Formed.{expr_formed_in, cond_formed_in, stmt_formed_in}
use Rattle.text_file_printer.proofs.Tables.{length-spans}
use Rattle.text_file_printer.specs.Named.{ConditionNamed}

all_at : {X : Type 0} (P : X → Type 0) (xs : List X) → ((i : ℕ) (x : X) → slice_get xs i ≡ Some x → P x) → AllByRecursion P xs
all_at P [] h = tt
all_at P (x ∷ xs) h = (h 0 x refl, all_at P xs (λ i y e. h (suc i) y e))

-- each in turn satisfies both
all_both : {X : Type 0} (P Q : X → Type 0) (xs : List X) → AllByRecursion P xs → AllByRecursion Q xs → AllByRecursion (λ x. P x × Q x) xs
all_both P Q [] p q = tt
all_both P Q (x ∷ xs) p q = ((p.0, q.0), all_both P Q xs p.1 q.1)

all_map : {X Y : Type 0} (P : Y → Type 0) (f : X → Y) (xs : List X) → AllByRecursion (λ x. P (f x)) xs → AllByRecursion P (map f xs)
all_map P f [] h = tt
all_map P f (x ∷ xs) h = (h.0, all_map P f xs h.1)

unmapped : {X Y : Type 0} (P : Y → Type 0) (f : X → Y) (xs : List X) → AllByRecursion P (map f xs) → AllByRecursion (λ x. P (f x)) xs
unmapped P f [] h = tt
unmapped P f (x ∷ xs) h = (h.0, unmapped P f xs h.1)

-- lines of a list made by a function
map_lines : {X Y : Type 0} (f : Y → List ℕ) (g : Y → List _) (m : X → Y) (P : X → Type 0) → ((x : X) → P x → Lines (f (m x)) (g (m x))) → (xs : List X) → AllByRecursion P xs → Lines (flat_map f (map m xs)) (flat_map g (map m xs))
map_lines f g m P one [] h = none_lines
map_lines f g m P one (x ∷ xs) h = both_lines (f (m x)) (flat_map f (map m xs)) (g (m x)) (flat_map g (map m xs)) (one x h.0) (map_lines f g m P one xs h.1)

abbrev HasName : Pair → Type 0
HasName p = is_name p.name ≡ true

vars_named : (ns : List (List ℕ)) (values : List ℤ) → list_all is_name ns ≡ true → AllByRecursion HasName (written_vars ns values)
vars_named [] [] h = tt
vars_named [] (v ∷ values) h = tt
vars_named (n ∷ ns) [] h = tt
vars_named (n ∷ ns) (v ∷ values) h =
    let parts = and_parts (is_name n) (list_all is_name ns) h in
    (parts.0, vars_named ns values parts.1)

named_all : (ts : List Transaction) → list_all are_formed ts ≡ true → list_all (λ (t : Transaction). is_name t.name) ts ≡ true
named_all [] h = refl
named_all (t ∷ ts) h =
    let a = and_parts (are_formed t) (list_all are_formed ts) h in
    and_from _ _ (and_parts (is_name t.name) (list_all is_name t.parameters) a.0).0 (named_all ts a.1)

run_named : (l : Listing) → names_hold l ≡ true → (i : ℕ) (run : Call × ℕ) → slice_get l.runs i ≡ Some run → is_name (written_run l.transactions run).name ≡ true
run_named l h i run e =
    let parts = names_parts l h in
    let known : run.0.tx.0 < length l.transactions = (run_callable l i run h e).declared in
    let ns = map (λ (t : Transaction). t.name) l.transactions in
    let forms : list_all is_name ns ≡ true = list_all-map is_name (λ (t : Transaction). t.name) l.transactions ∙ named_all l.transactions parts.tx_forms in
    let n = length-map l.transactions (λ (t : Transaction). t.name) in
    name_at_is ns run.0.tx.0 forms (omega (arith, n))

pair_list : (word : List ℕ) → IsWord word (token.Name word) → (ps : List Pair) → AllByRecursion HasName ps → AllByRecursion PairFits ps → Lines (flat_map (pair_line word) ps) (flat_map (pair_tokens word) ps)
pair_list word w ps named fits =
    lines_of (pair_line word) (pair_tokens word) (λ p. HasName p × PairFits p) (λ p h. pair_lines word p w h.0 h.1) ps (all_both HasName PairFits ps named fits)

-- the tables, each of which has a name
tables_named : (ts : List (List ℕ × ℕ)) (values : List ℤ) → list_all is_name (map (λ (t : List ℕ × ℕ). t.0) ts) ≡ true → AllByRecursion (λ (t : Table). is_name t.name ≡ true) (written_tables ts values)
tables_named [] values h = tt
tables_named (t ∷ ts) values h =
    let parts = and_parts (is_name t.0) (list_all is_name (map (λ (u : List ℕ × ℕ). u.0) ts)) h in
    (one (take t.1 values) parts.0, tables_named ts (drop t.1 values) parts.1)
  where
    one : (vs : List ℤ) → is_name t.0 ≡ true → is_name (written_table t vs).name ≡ true
    one [] k = k
    one (v ∷ vs) k = k

table_list : (l : Listing) → names_hold l ≡ true → (ts : List Table) → AllByRecursion (λ (t : Table). is_name t.name ≡ true) ts → AllByRecursion TableFits ts → Lines (flat_map table_line ts) (flat_map table_tokens ts)
table_list l h ts named fits =
    let HasName : Table → Type 0 = λ t. is_name t.name ≡ true in
    lines_of table_line table_tokens (λ t. HasName t × TableFits t) (λ t k. table_lines t k.0 k.1) ts (all_both HasName TableFits ts named fits)

-- each name that a condition knows has the form of one
all_names : (l : Listing) → names_hold l ≡ true → AreNames (scope_of l)
all_names l h =
    let parts = names_parts l h in
    record {
      variables = parts.forms;
      tables = parts.table_forms;
      spans = omega (arith, length-spans (length l.names) l.tables, length-map l.tables (λ (t : List ℕ × ℕ). t.0));
      parameters = refl;
    }

-- the conditions, each of which has a name, names only what it knows, and fits
always_list : (l : Listing) → names_hold l ≡ true → AllByRecursion AlwaysFits (map (written_always (scope_of l)) l.always)
    → Lines (flat_map always_line (map (written_always (scope_of l)) l.always)) (flat_map always_tokens (map (written_always (scope_of l)) l.always))
always_list l h fits =
    let s = scope_of l in
    let P : List ℕ × Condition → Type 0 = λ a. (is_name a.0 ≡ true) × ConditionNamed s a.1 in
    let Q : List ℕ × Condition → Type 0 = λ a. AlwaysFits (written_always s a) in
    let forms : list_all (λ (a : List ℕ × Condition). is_name a.0) l.always ≡ true = sym (list_all-map is_name (λ (a : List ℕ × Condition). a.0) l.always) ∙ (names_parts l h).always_forms in
    let here : (i : ℕ) (a : List ℕ × Condition) → slice_get l.always i ≡ Some a → P a =
    λ i a e. (passes_at (λ (a : List ℕ × Condition). is_name a.0) l.always i a forms e, condition_named_at l i a h e) in
    map_lines always_line always_tokens (written_always s) (λ a. P a × Q a)
    (λ a k. always_lines s (all_names l h) a k.0.0 k.0.1 k.1) l.always
    (all_both P Q l.always (all_at P l.always here) (unmapped AlwaysFits (written_always s) l.always fits))

tx_list : (l : Listing) (form : FileForm) → names_hold l ≡ true → AllByRecursion DeclarationFits (map (written_transaction (scope_of l)) l.transactions)
    → Lines (flat_map (tx_line form) (map (written_transaction (scope_of l)) l.transactions)) (flat_map (tx_tokens form) (map (written_transaction (scope_of l)) l.transactions))
tx_list l form h fits =
    let s = scope_of l in
    let P : Transaction → Type 0 = λ t. (are_formed t ≡ true) × IsNamed s t in
    let Q : Transaction → Type 0 = λ t. DeclarationFits (written_transaction s t) in
    let here : (i : ℕ) (t : Transaction) → slice_get l.transactions i ≡ Some t → P t = λ i t e. (passes_at are_formed l.transactions i t (names_parts l h).tx_forms e, transaction_named_at l i t h e) in
    map_lines (tx_line form) (tx_tokens form) (written_transaction s) (λ t. P t × Q t)
    (λ t k. let formed = and_parts (is_name t.name) (list_all is_name t.parameters) k.0.0 in tx_lines form s (all_names l h) t formed.0 formed.1 k.0.1.body k.0.1.value k.1) l.transactions
    (all_both P Q l.transactions (all_at P l.transactions here) (unmapped DeclarationFits (written_transaction s) l.transactions fits))

run_list : (l : Listing) → names_hold l ≡ true → AllByRecursion RunFits (map (written_run l.transactions) l.runs)
    → Lines (flat_map run_line (map (written_run l.transactions) l.runs)) (flat_map run_tokens (map (written_run l.transactions) l.runs))
run_list l h fits =
    let P : Call × ℕ → Type 0 = λ r. is_name (written_run l.transactions r).name ≡ true in
    let Q : Call × ℕ → Type 0 = λ r. RunFits (written_run l.transactions r) in
    map_lines run_line run_tokens (written_run l.transactions) (λ r. P r × Q r) (λ r k. run_lines (written_run l.transactions r) k.0 k.1) l.runs
    (all_both P Q l.runs (all_at P l.runs (run_named l h)) (unmapped RunFits (written_run l.transactions) l.runs fits))

file_lines : (form : FileForm) (l : Listing) → names_hold l ≡ true → FileFits (written form l) → Lines (text_in form l) (file_tokens (written form l))
unfolding written_in
file_lines form l h fits =
    let vars = written_vars l.names l.initial in
    let behind = drop (length l.names) l.initial in
    let tables = written_tables l.tables behind in
    let always = map (written_always (scope_of l)) l.always in
    let txs = map (written_transaction (scope_of l)) l.transactions in
    let runs = map (written_run l.transactions) l.runs in
    let heading = heading_lines form in
    let a = pair_list (codes "var") var_is_word vars (vars_named l.names l.initial (names_parts l h).forms) fits.vars in
    let b = table_list l h tables (tables_named l.tables behind (names_parts l h).table_forms) fits.tables in
    let c = always_list l h fits.always in
    let d = tx_list l form h fits.txs in
    let e = run_list l h fits.runs in
    both_lines (heading_text form) _ (heading_tokens form) _ heading
    (both_lines (flat_map (pair_line (codes "var")) vars) _ (flat_map (pair_tokens (codes "var")) vars) _ a
    (both_lines (flat_map table_line tables) _ (flat_map table_tokens tables) _ b
    (both_lines (flat_map always_line always) _ (flat_map always_tokens always) _ c
    (both_lines (flat_map (tx_line form) txs) (flat_map run_line runs) (flat_map (tx_tokens form) txs) (flat_map run_tokens runs) d e))))

-- the form has room for the tables, the conditions and the parameters
pub record HasRoom (form : FileForm) (l : Listing) : Type 0 where
  pub tabled : (u : Span) → knows_table (spans l) u ≡ true → has_tables form ≡ true
  pub formed : IsOfForm form (written form l)

-- a condition as it is written stands in this form, and is not too deep
always_formed : (form : FileForm) (l : Listing) → HasRoom form l → names_hold l ≡ true → limits_hold l ≡ true → (i : ℕ) (a : List ℕ × Condition) → slice_get l.always i ≡ Some a → IsAlways form (written_always (scope_of l) a)
always_formed form l room h k i a e =
    let shallow : Condition → Bool = λ c. nat_le (condition_depth c) deepest in
    let all = (and_parts (list_all shallow (conditions l)) _ (limits_parts l k).conditions_fitting).0 in
    let deep = leb-true _ _ (passes_at (λ (a : List ℕ × Condition). shallow a.1) l.always i a (sym (list_all-map shallow (λ (a : List ℕ × Condition). a.1) l.always) ∙ all) e) in
    (omega (arith, cond_deep (scope_of l) a.1, deep), cond_formed_in form (scope_of l) room.tabled a.1 (condition_named_at l i a h e))

transaction_formed : (form : FileForm) (l : Listing) → HasRoom form l → names_hold l ≡ true → limits_hold l ≡ true → (i : ℕ) (t : Transaction) → slice_get l.transactions i ≡ Some t → IsTx form (written_transaction (scope_of l) t)
transaction_formed form l room h k i t e =
    let fits = passes_at (λ (t : Transaction). program_fits (under (conditions l) t)) l.transactions i t (limits_parts l k).programs e in
    let body = and_parts (nat_le (statement_depth t.body) deepest) _ fits in
    let result = and_parts (nat_le (expression_depth t.result) deepest) _ body.1 in
    let deep = leb-true _ _ body.0 in
    let deep' = leb-true _ _ result.0 in
    let names = inside (scope_of l) t.parameters in
    let named = transaction_named_at l i t h e in (
      (omega (arith, stmt_deep names t.body, deep), stmt_formed_in form names room.tabled t.body named.body),
      (omega (arith, expr_deep names t.result, deep'), expr_formed_in form names room.tabled t.result named.value),
    )

-- without tables and parameters there are no lists
no_lists : (l : Listing) → names_hold l ≡ true → list_any has_list l.transactions ≡ false → (form : FileForm) → HasNoLists (written_in form [] l)
unfolding written_in
no_lists l h none form =
    let given : (i : ℕ) (r : Call × ℕ) → slice_get l.runs i ≡ Some r → r.0.arguments ≡ [] = λ i r e. no_arguments l r.0 none (run_callable l i r h e) in (
      refl,
      all_map (λ (d : Declaration). d.parameters ≡ []) (written_transaction (scope_of l)) l.transactions (no_parameters l.transactions none),
      all_map (λ (r : Run). r.arguments ≡ []) (written_run l.transactions) l.runs (all_at (λ (r : Call × ℕ). r.0.arguments ≡ []) l.runs given),
    )

without : (l : Listing) → names_hold l ≡ true → list_any has_list l.transactions ≡ false → (always : List (List ℕ × Condition)) → l.always ≡ always
    → IsOfForm (form_for_conditions always) (written_in (form_for_conditions always) [] l)
unfolding written_in
without l h none [] e = (ap (map (written_always (scope_of l))) e, no_lists l h none One)
without l h none (a ∷ always) e = no_lists l h none Two

without_tables : (l : Listing) → names_hold l ≡ true → (b : Bool) → list_any has_list l.transactions ≡ b → IsOfForm (cond b Three (form_for_conditions l.always)) (written_in (cond b Three (form_for_conditions l.always)) [] l)
without_tables l h true e = tt
without_tables l h false e = without l h e l.always refl

in_form : (l : Listing) → names_hold l ≡ true → (ts : List (List ℕ × ℕ)) (values : List ℤ) → IsOfForm (form_with ts l) (written_in (form_with ts l) (written_tables ts values) l)
in_form l h [] values = without_tables l h (list_any has_list l.transactions) refl
in_form l h (t ∷ ts) values = tt

-- the first form that has room, and form 3, which has room for all
pub first_has_room : (l : Listing) → names_hold l ≡ true → HasRoom (form_for l) l
first_has_room l named = record { tabled = knows_form l; formed = in_form l named l.tables (drop (length l.names) l.initial) }

pub three_has_room : (l : Listing) → HasRoom Three l
three_has_room l = record { tabled = λ u k. refl; formed = tt }

-- the text in a form that has room spells the file, where it is not too long
pub printed_spells : (form : FileForm) (l : Listing) → HasRoom form l → names_hold l ≡ true → limits_hold l ≡ true → FileFits (written form l) → length (text_in form l) ≤ longest (text_in form l) → SpellsTree (text_in form l) (written form l)
unfolding written_in
printed_spells form l room named limits fits short =
    let lines = file_lines form l named fits in
    let s = scope_of l in
    record {
      short = short;
      allowed = lines.allowed;
      spelled = spelled_by (text_in form l) (file_tokens (written form l)) lines;
      formed = room.formed;
      parts = (
        all_map (IsAlways form) (written_always s) l.always (all_at (λ a. IsAlways form (written_always s a)) l.always (always_formed form l room named limits)),
        all_map (IsTx form) (written_transaction s) l.transactions (all_at (λ t. IsTx form (written_transaction s t)) l.transactions (transaction_formed form l room named limits)),
      );
    }

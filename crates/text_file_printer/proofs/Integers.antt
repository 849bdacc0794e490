-- Where each integer of a written listing is one of 64 signed bits, so is each of the listing.
use Rattle.std.proofs.Common.{◌≡◌, ◌∙◌, ℕ, zero, suc, ◌<◌, ◌≤◌, ◌^◌, Bool, true, false, cond, eqb, leb, List, [], ◌∷◌, length, map, take, drop, replicate, refl, sym, ap, arith, inl, inr}
use Rattle.std.specs.Prelude.{ℤ, pos, negsuc, FitsSigned}
use Rattle.std.specs.Int.{w64}
use Rattle.std.specs.List.{flat_map, list_all, AllByRecursion}
use Rattle.std.proofs.lemmas.Bool.{and_from}
use Rattle.std.proofs.lemmas.Bool.Decides.{leb_tells}
use Rattle.std.proofs.lemmas.List.{take-append-drop}
use Rattle.std.proofs.lemmas.List.Folds.{list_all-append}
use Rattle.txn_programs.specs.Arithmetic.{fits}
use Rattle.txn_programs.specs.Listing.{Listing, values}
use Rattle.txn_programs.specs.Limits.{limits_hold}
use Rattle.txn_programs.specs.Tree.{Expression, Condition, Statement, Statements, Transaction}
use Rattle.txn_programs.specs.Tree as t
use Rattle.txn_programs.specs.declared.arguments.Call.{Call}
use Rattle.text_grammar.specs.declared.file.FileForm.{FileForm}
use Rattle.text_grammar.specs.Scope.{Scope, inside}
use Rattle.text_grammar.specs.Tree.{Table}
use Rattle.text_file_printer.specs.Fits.{ExprFits, CondFits, StmtFits, StmtsFit, PairFits, TableFits, AlwaysFits, DeclarationFits, RunFits, FileFits}
use Rattle.text_grammar.specs.Spelling.{expression_integers, condition_integers, statement_integers, statements_integers, transaction_integers, run_integers, integers_fit}
use Rattle.text_grammar.specs.Written.{written_expression, written_condition, written_statement, written_statements, written_vars, written_tables, written_always, written_transaction, written_run, written_in, written, scope_of, natural, numbers_of, DeclareTables}
use Rattle.text_file_printer.proofs.Tables.{tables_declared}

below : (n : ℕ) → n < 2 ^ 63 → leb (suc n) (2 ^ 63) ≡ true
below n h = elim (leb_tells (suc n) (2 ^ 63)) [ inl e ↦ e.0 | inr e ↦ absurd (let past = e.1 in omega arith) ]

integer : (z : ℤ) → FitsSigned w64 z → fits z ≡ true
integer (pos n) h = below n (omega arith)
integer (negsuc n) h = below n (omega arith)

expression : (names : Scope) (e : Expression) → ExprFits (written_expression names e) → expression_integers e ≡ true
expression names (t.Int n) h = integer n h
expression names (t.Var x) h = refl
expression names (t.Param p) h = refl
expression names (t.Cell tb a) h = expression names a h
expression names (t.OfAll f tb) h = refl
expression names (t.Add a b) h = and_from _ _ (expression names a h.0) (expression names b h.1)
expression names (t.Sub a b) h = and_from _ _ (expression names a h.0) (expression names b h.1)
expression names (t.Mul a b) h = and_from _ _ (expression names a h.0) (expression names b h.1)
expression names (t.Div a b) h = and_from _ _ (expression names a h.0) (expression names b h.1)
expression names (t.Rem a b) h = and_from _ _ (expression names a h.0) (expression names b h.1)

condition : (names : Scope) (c : Condition) → CondFits (written_condition names c) → condition_integers c ≡ true
condition names (t.Eq a b) h = and_from _ _ (expression names a h.0) (expression names b h.1)
condition names (t.Lt a b) h = and_from _ _ (expression names a h.0) (expression names b h.1)
condition names (t.Le a b) h = and_from _ _ (expression names a h.0) (expression names b h.1)
condition names (t.Not c) h = condition names c h
condition names (t.And c d) h = and_from _ _ (condition names c h.0) (condition names d h.1)
condition names (t.Or c d) h = and_from _ _ (condition names c h.0) (condition names d h.1)

mutual
  statement : (names : Scope) (s : Statement) → StmtFits (written_statement names s) → statement_integers s ≡ true
  statement names t.Skip h = refl
  statement names (t.Set x e) h = expression names e h
  statement names (t.Put tb a b) h = and_from _ _ (expression names a h.0) (expression names b h.1)
  statement names (t.Seq parts) h = statements names parts h
  statement names (t.If c a b) h = and_from _ _ (condition names c h.0) (and_from _ _ (statement names a h.1) (statement names b h.2))
  statement names (t.Repeat n s) h = statement names s h.1
  statement names t.Retry h = refl
  statement names (t.OrElse a b) h = and_from _ _ (statement names a h.0) (statement names b h.1)
  statement names (t.Throw e) h = expression names e h

  statements : (names : Scope) (s : Statements) → StmtsFit (written_statements names s) → statements_integers s ≡ true
  statements names t.End h = refl
  statements names (t.More s rest) h = and_from _ _ (statement names s h.0) (statements names rest h.1)

integers : (values : List ℤ) → AllByRecursion (FitsSigned w64) values → list_all fits values ≡ true
integers [] h = refl
integers (v ∷ values) h = and_from _ _ (integer v h.0) (integers values h.1)

-- those of the variables
variables : (ns : List (List ℕ)) (values : List ℤ) → length ns ≤ length values → AllByRecursion PairFits (written_vars ns values) → list_all fits (take (length ns) values) ≡ true
variables [] values n h = refl
variables (name ∷ ns) [] n h = absurd (omega arith)
variables (name ∷ ns) (v ∷ values) n h = and_from _ _ (integer v h.0) (variables ns values (omega arith) h.1)

same : (n : ℕ) (v : ℤ) → fits v ≡ true → list_all fits (replicate n v) ≡ true
same zero v h = refl
same (suc n) v h = and_from _ _ h (same n v h)

one_or_all : (b : Bool) (one all : List ℤ) → list_all fits one ≡ true → list_all fits all ≡ true → list_all fits (cond b one all) ≡ true
one_or_all true one all h k = h
one_or_all false one all h k = k

-- those of the cells
cells : (ts : List Table) → AllByRecursion TableFits ts → list_all fits (flat_map numbers_of ts) ≡ true
cells [] h = refl
cells (t ∷ ts) h =
    let first = integer t.first h.0.1.0 in
    let numbers = one_or_all (eqb (length t.others) 0) (replicate (natural t.count) t.first) (t.first ∷ t.others) (same (natural t.count) t.first first) (and_from _ _ first (integers t.others h.0.1.1)) in
    list_all-append fits (numbers_of t) (flat_map numbers_of ts) ∙ and_from _ _ numbers (cells ts h.1)

initial : (l : Listing) → length l.names ≤ length l.initial → DeclareTables (written_tables l.tables (drop (length l.names) l.initial)) l
    → AllByRecursion PairFits (written_vars l.names l.initial) → AllByRecursion TableFits (written_tables l.tables (drop (length l.names) l.initial)) → list_all fits l.initial ≡ true
initial l few declared h k =
    let n = length l.names in
    let behind = sym (ap (list_all fits) declared.begun) ∙ cells (written_tables l.tables (drop n l.initial)) k in
    ap (list_all fits) (sym (take-append-drop n l.initial)) ∙ list_all-append fits (take n l.initial) (drop n l.initial)
    ∙ and_from _ _ (variables l.names l.initial few h) behind

standing : (s : Scope) (always : List (List ℕ × Condition)) → AllByRecursion AlwaysFits (map (written_always s) always) → list_all condition_integers (map (λ (a : List ℕ × Condition). a.1) always) ≡ true
standing s [] h = refl
standing s (a ∷ always) h = and_from _ _ (condition s a.1 h.0) (standing s always h.1)

transactions : (s : Scope) (ts : List Transaction) → AllByRecursion DeclarationFits (map (written_transaction s) ts) → list_all transaction_integers ts ≡ true
transactions s [] h = refl
transactions s (t ∷ ts) h = and_from _ _ (and_from _ _ (statement (inside s t.parameters) t.body h.0.0) (expression (inside s t.parameters) t.result h.0.1)) (transactions s ts h.1)

runs : (ts : List Transaction) (rs : List (Call × ℕ)) → AllByRecursion RunFits (map (written_run ts) rs) → list_all run_integers rs ≡ true
runs ts [] h = refl
runs ts (r ∷ rs) h = and_from _ _ (integers r.0.arguments h.0.1) (runs ts rs h.1)

pub integers_of : (form : FileForm) (l : Listing) → limits_hold l ≡ true → values l ≡ length l.initial → FileFits (written form l) → integers_fit l ≡ true
unfolding integers_fit written_in
integers_of form l limits valued h =
    let few : length l.names ≤ length l.initial = omega (arith, valued) in
    and_from _ _ (initial l few (tables_declared l limits valued) h.vars h.tables) (and_from _ _ (standing (scope_of l) l.always h.always)
    (and_from _ _ (transactions (scope_of l) l.transactions h.txs) (runs l.transactions l.runs h.runs)))

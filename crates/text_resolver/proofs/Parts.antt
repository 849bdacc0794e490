-- What the parts of a file come to.
use Rattle.std.proofs.Common.{Bor, ◌≡◌, ℕ, ℤ, List, [], ◌∷◌, length, map, Result, Ok, Err, refl, ap, ◌∙◌, String, Global, string_bytes}
use Rattle.std.proofs.lemmas.List.{length-map}
use Rattle.std.proofs.lemmas.List.Folds.{flat_map-map}
use Rattle.txn_programs.specs.declared.ast.Cond.{Cond}
use Rattle.txn_programs.specs.declared.ast.Span.{Span}
use Rattle.txn_programs.specs.declared.ast.Table.{Table}
use Rattle.txn_programs.specs.declared.ast.Tx.{Tx}
use Rattle.txn_programs.specs.declared.arguments.Call.{Call}
use Rattle.txn_programs.specs.declared.ast.Stmt.{Stmt}
use Rattle.txn_programs.specs.Tree.{Condition, Statement, Statements, End, More, Transaction, transaction_of, statement_of, statements_of_list}
use Rattle.txn_programs.specs.Tree as t
use Rattle.txn_programs.specs.Listing.{listing_of, table_of}
use Rattle.text_words.specs.declared.fault.ReadFault.{ReadFault}
use Rattle.text_grammar.specs.Tree.{Stmt as Tree, Seq, File}
use Rattle.text_words.specs.Answers.{◌>>=◌, Fails}
use Rattle.text_words.proofs.Many.{failed}
use Rattle.text_resolver.specs.Texts.{texts}
use Rattle.text_grammar.specs.Scope.{Scope, standing}
use Rattle.text_grammar.specs.Reading.{row}
use Rattle.text_grammar.specs.Resolving.{each, statement_in, statements_in, listing, variable_of, table_of as table_in_file, spans_in, always_in, transaction_in, run_in, converted}
use Rattle.text_resolver.specs.Parts.{view_variable, view_table, view_condition}
use Rattle.text_words.proofs.Steps.{done}

names_are : (vars : List (String Global × ℤ)) → map (λ (v : List ℕ × ℤ). v.0) (map view_variable vars) ≡ map (λ (v : String Global × ℤ). string_bytes v.0) vars
names_are [] = refl
names_are (v ∷ vars) = ap (λ l. string_bytes v.0 ∷ l) (names_are vars)

values_are : (vars : List (String Global × ℤ)) → map (λ (v : List ℕ × ℤ). v.1) (map view_variable vars) ≡ map (λ (v : String Global × ℤ). v.1) vars
values_are [] = refl
values_are (v ∷ vars) = ap (λ l. v.1 ∷ l) (values_are vars)

-- the tables, without what their cells are at first
pub tables_are : (tables : List Table) → map (λ (t : (List ℕ × ℕ) × List ℤ). t.0) (map view_table tables) ≡ map table_of tables
tables_are [] = refl
tables_are (t ∷ tables) = ap (λ l. table_of t ∷ l) (tables_are tables)

pub parts_are : (vars : List (String Global × ℤ)) (tables : List Table) (always : List (String Global × Cond)) (txs : List Tx) (runs : List (Call × ℕ))
    → listing (map view_variable vars) (map view_table tables) (map view_condition always) (map transaction_of txs) runs ≡ listing_of vars tables always txs runs
parts_are vars tables always txs runs =
    rw (names_are vars, values_are vars, tables_are tables, flat_map-map (λ (t : (List ℕ × ℕ) × List ℤ). t.1) view_table tables) refl

-- ---- the parts of a sequence, as a list

abbrev pub chain : List Statement → Statements
chain [] = End
chain (p ∷ ps) = More p (chain ps)

pub chain_is : (ps : List Stmt) → statements_of_list ps ≡ chain (map statement_of ps)
chain_is [] = refl
chain_is (p ∷ ps) = ap (More (statement_of p)) (chain_is ps)

links : (first : Result Statement ReadFault) (others : Result (List Statement) ReadFault)
    → (first >>= λ p. (others >>= λ ps. done (chain ps)) >>= λ ps. done (More p ps)) ≡ ((first >>= λ p. others >>= λ ps. done (p ∷ ps)) >>= λ ps. done (chain ps))
links (Ok p) (Ok ps) = refl
links (Ok p) (Err e) = refl
links (Err e) others = refl

statements_are : (s : Scope) (ss : List Tree) → statements_in s (row ss) ≡ (each (statement_in s) ss >>= λ ps. done (chain ps))
statements_are s [] = refl
statements_are s (p ∷ ss) = rw (statements_are s ss) (links (statement_in s p) (each (statement_in s) ss))

ends : (r : Result (List Statement) ReadFault) → ((r >>= λ ps. done (chain ps)) >>= λ ps. done (t.Seq ps)) ≡ (r >>= λ ps. done (t.Seq (chain ps)))
ends (Ok ps) = refl
ends (Err e) = refl

pub seq_is : (s : Scope) (ss : List Tree) → statement_in s (Seq (row ss)) ≡ (each (statement_in s) ss >>= λ ps. done (t.Seq (chain ps)))
seq_is s ss = ap (λ r. r >>= λ ps. done (t.Seq ps)) (statements_are s ss) ∙ ends (each (statement_in s) ss)

-- ---- the whole file

-- the tables have their spans behind the variables
pub spans_are : (vars : List (Bor (List ℕ))) (n : ℕ) (tables listed : List Table) → n ≡ length vars → listed ≡ tables → spans_in (length (texts vars)) (map (λ (t : (List ℕ × ℕ) × List ℤ). t.0) (map view_table tables)) ≡ spans_in n (map table_of listed)
spans_are vars n tables listed counted same = rw (length-map vars (λ (v : Bor (List ℕ)). v.now), tables_are tables, counted, same) refl

-- with no parameters
pub outer_is : (vars tables : List (List ℕ)) (spans given : List Span) (params : List (List ℕ)) → given ≡ spans → params ≡ [] → standing vars tables spans ≡ record { variables = vars; tables = tables; spans = given; parameters = params }
outer_is vars tables spans given params same none = rw (same, none) refl

pub converted_is : (vars names txs : List (List ℕ)) (file : File) (values : List (List ℕ × ℤ)) (tables : List ((List ℕ × ℕ) × List ℤ)) (spans : List Span) (always : List (List ℕ × Condition))
    (transactions : List Transaction) (runs : List (Call × ℕ)) → each variable_of file.vars ≡ Ok values → each table_in_file file.tables ≡ Ok tables
    → spans_in (length vars) (map (λ (t : (List ℕ × ℕ) × List ℤ). t.0) tables) ≡ Ok spans → each (always_in (standing vars names spans)) file.always ≡ Ok always
    → each (transaction_in (standing vars names spans)) file.txs ≡ Ok transactions → each (run_in txs) file.runs ≡ Ok runs
    → converted vars names txs file ≡ Ok (listing values tables always transactions runs)
unfolding converted
converted_is vars names txs file values tables spans always transactions runs a t s b c d = rw (a, t, s, b, c, d) refl

-- ---- or the first step that fails

pub spans_fail : (e : ReadFault) (vars names txs : List (List ℕ)) (file : File) (values : List (List ℕ × ℤ)) (tables : List ((List ℕ × ℕ) × List ℤ))
    → each variable_of file.vars ≡ Ok values → each table_in_file file.tables ≡ Ok tables
    → Fails e (spans_in (length vars) (map (λ (t : (List ℕ × ℕ) × List ℤ). t.0) tables)) → Fails e (converted vars names txs file)
unfolding converted
spans_fail e vars names txs file values tables a t h = rw (a, t) (failed e (spans_in (length vars) (map (λ (t : (List ℕ × ℕ) × List ℤ). t.0) tables)) _ _ h refl)

pub conditions_fail : (e : ReadFault) (vars names txs : List (List ℕ)) (file : File) (values : List (List ℕ × ℤ)) (tables : List ((List ℕ × ℕ) × List ℤ)) (spans : List Span)
    → each variable_of file.vars ≡ Ok values → each table_in_file file.tables ≡ Ok tables → spans_in (length vars) (map (λ (t : (List ℕ × ℕ) × List ℤ). t.0) tables) ≡ Ok spans
    → Fails e (each (always_in (standing vars names spans)) file.always) → Fails e (converted vars names txs file)
unfolding converted
conditions_fail e vars names txs file values tables spans a t s h = rw (a, t, s) (failed e (each (always_in (standing vars names spans)) file.always) _ _ h refl)

pub transactions_fail : (e : ReadFault) (vars names txs : List (List ℕ)) (file : File) (values : List (List ℕ × ℤ)) (tables : List ((List ℕ × ℕ) × List ℤ)) (spans : List Span) (always : List (List ℕ × Condition))
    → each variable_of file.vars ≡ Ok values → each table_in_file file.tables ≡ Ok tables → spans_in (length vars) (map (λ (t : (List ℕ × ℕ) × List ℤ). t.0) tables) ≡ Ok spans
    → each (always_in (standing vars names spans)) file.always ≡ Ok always → Fails e (each (transaction_in (standing vars names spans)) file.txs) → Fails e (converted vars names txs file)
unfolding converted
transactions_fail e vars names txs file values tables spans always a t s b h = rw (a, t, s, b) (failed e (each (transaction_in (standing vars names spans)) file.txs) _ _ h refl)

pub runs_fail : (e : ReadFault) (vars names txs : List (List ℕ)) (file : File) (values : List (List ℕ × ℤ)) (tables : List ((List ℕ × ℕ) × List ℤ)) (spans : List Span) (always : List (List ℕ × Condition)) (transactions : List Transaction)
    → each variable_of file.vars ≡ Ok values → each table_in_file file.tables ≡ Ok tables → spans_in (length vars) (map (λ (t : (List ℕ × ℕ) × List ℤ). t.0) tables) ≡ Ok spans
    → each (always_in (standing vars names spans)) file.always ≡ Ok always → each (transaction_in (standing vars names spans)) file.txs ≡ Ok transactions → Fails e (each (run_in txs) file.runs)
    → Fails e (converted vars names txs file)
unfolding converted
runs_fail e vars names txs file values tables spans always transactions a t s b d h = rw (a, t, s, b, d) (failed e (each (run_in txs) file.runs) _ _ h refl)

-- What tables come to: their names, and how many values there are.
use Rattle.std.proofs.Common.{◌≡◌, ℕ, ◌+◌, ◌≤◌, Bool, List, [], ◌∷◌, ◌++◌, length, map, drop, sum_by, flat_map, length-append, String, Global, string_bytes, ℤ, arith, refl, sym, ◌∙◌, ap}
use Rattle.std.specs.List.{list_all}
use Rattle.std.proofs.lemmas.List.{length-map, length-drop, map-append}
use Rattle.std.proofs.lemmas.List.Folds.{list_all-map}
use Rattle.std.proofs.lemmas.List.Sums.{sum_by-cons, sum_by-append}
use Rattle.std.proofs.lemmas.Simd.{map-map}
use Rattle.txn_programs.specs.declared.ast.Table.{Table}
use Rattle.txn_programs.specs.declared.ast.Tx.{Tx}
use Rattle.txn_programs.specs.declared.ast.Cond.{Cond}
use Rattle.txn_programs.specs.declared.arguments.Call.{Call}
use Rattle.txn_programs.specs.Listing.{Listing, listing_of, table_of, values_of, values}
use Rattle.txn_declarations.specs.Counted.{counted}

abbrev Counted : Type 0
Counted = List ℕ × ℕ

pub table_names_are : (tables : List Table) → map (λ (t : Table). string_bytes t.name) tables ≡ map (λ (t : Counted). t.0) (map table_of tables)
table_names_are tables = sym (map-map (λ (t : Counted). t.0) table_of tables)

pub all_table_names : (p : List ℕ → Bool) (tables : List Table) → list_all p (map (λ (t : Counted). t.0) (map table_of tables)) ≡ list_all (λ (t : Table). p (string_bytes t.name)) tables
all_table_names p tables = ap (list_all p) (sym (table_names_are tables)) ∙ list_all-map p (λ (t : Table). string_bytes t.name) tables

-- there are as many cells as numbers for them
cells_are : (tables : List Table) → sum_by (λ (t : Counted). t.1) (map table_of tables) ≡ length (flat_map (λ (t : Table). values_of t.cells) tables)
cells_are [] = refl
cells_are (t ∷ ts) =
    sum_by-cons (λ (t : Counted). t.1) (table_of t) (map table_of ts)
    ∙ ap (λ (n : ℕ). length (values_of t.cells) + n) (cells_are ts)
    ∙ sym (length-append (values_of t.cells) (flat_map (λ (t : Table). values_of t.cells) ts))

-- and a variable or a cell for each initial value
pub values_are : (vars : List (String Global × ℤ)) (tables : List Table) (always : List (String Global × Cond)) (txs : List Tx) (runs : List (Call × ℕ))
    → values (listing_of vars tables always txs runs) ≡ length (listing_of vars tables always txs runs).initial
values_are vars tables always txs runs =
    let numbers = flat_map (λ (t : Table). values_of t.cells) tables in
    omega (arith, length-map vars (λ (v : String Global × ℤ). string_bytes v.0), length-map vars (λ (v : String Global × ℤ). v.1), cells_are tables, length-append (map (λ (v : String Global × ℤ). v.1) vars) numbers)

pub counted_cells : (tables : List (String Global × ℕ)) → sum_by (λ (t : Counted). t.1) (map counted tables) ≡ sum_by (λ (t : String Global × ℕ). t.1) tables
counted_cells [] = refl
counted_cells (t ∷ ts) =
    sum_by-cons (λ (t : Counted). t.1) (counted t) (map counted ts)
    ∙ ap (λ (n : ℕ). t.1 + n) (counted_cells ts)
    ∙ sym (sum_by-cons (λ (t : String Global × ℕ). t.1) t ts)

-- behind the values of the variables there is one for each cell
pub cells_behind : (l : Listing) (tables : List (String Global × ℕ)) (state : List ℤ) → map counted tables ≡ l.tables → length state ≡ values l
    → sum_by (λ (t : String Global × ℕ). t.1) tables ≡ length (drop (length l.names) state)
cells_behind l tables state e n =
    let here = sym (counted_cells tables) ∙ ap (sum_by (λ (t : Counted). t.1)) e in
    omega (arith, here, n, length-drop (length l.names) state)

-- one of the tables has no more cells than all of them
pub one_of_all : (front rest all : List Table) (t : Table) (most : ℕ) → front ++ t ∷ rest ≡ all → sum_by (λ (u : Counted). u.1) (map table_of all) ≤ most → length (values_of t.cells) ≤ most
one_of_all front rest all t most e few =
    let parts = ap (λ (ts : List Table). sum_by (λ (u : Counted). u.1) (map table_of ts)) (sym e) ∙ ap (sum_by (λ (u : Counted). u.1)) (map-append table_of front (t ∷ rest))
    ∙ sum_by-append (λ (u : Counted). u.1) (map table_of front) (map table_of (t ∷ rest)) in
    omega (arith, few, parts, sum_by-cons (λ (u : Counted). u.1) (table_of t) (map table_of rest))

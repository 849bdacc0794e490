use Rattle.std.proofs.Common.{◌≡◌, ◌∙◌, ◌+◌, ◌<◌, ◌≤◌, ℕ, List, get_or, length, drop, map, sum_by, ap, sym, String, Global, arith}
use Rattle.std.proofs.lemmas.List.Sums.{sum_by-drop_more}
use Rattle.txn_programs.specs.Limits.{most_variables, most_cells}
use Rattle.txn_programs.specs.Listing.{cells, values}
use Rattle.txn_programs.proofs.Lawful.{limits_parts}
use Rattle.txn_declarations.specs.Counted.{counted}
use Rattle.text_file_printer.proofs.Tables.{table_name, table_named, all_cells}
use Rattle.text_file_printer.proofs.forms.table_name.Goals as goal

abbrev Held : Type 0
Held = String Global × ℕ

pub tables-init : goal.tables-init
tables-init c =
    let l = c.args.catalogue.now in
    let tables = c.tables-name-items.result.now in
    let is = c.tables-name-items.ensures in
    let first = c.var_count-first.ensures.value in
    let same : table_name c.args.table c.var_count-first.result (map counted tables) ≡ table_name c.args.table (length l.names) l.tables = cc (is, first) in
    record {
      name = same ∙ sym (table_named c.args.table (length l.names) l.tables);
      left = omega (arith, all_cells tables l is, first);
    }

-- one of the tables has no more cells than there are
one_of_all : (ts : List Held) (i : ℕ) (t : Held) → i < length ts → t ≡ get_or ts i t → t.1 ≤ sum_by (λ (u : Held). u.1) (drop i ts)
one_of_all ts i t lt is = omega (arith, sum_by-drop_more (λ (u : Held). u.1) ts i t lt, ap (λ (u : Held). u.1) is)

pub overflow_add-first : goal.overflow_add-first
overflow_add-first c =
    let l = c.args.catalogue.now in
    let limits = limits_parts l c.rules.ensures.limits in
    let names : length l.names ≤ most_variables = limits.variables in
    let few : cells l ≤ most_cells = limits.cells in
    let one = one_of_all c.tables-name-items.result.now c.tables.name-index c.tables-item.result c.tables-test.true c.tables-item.is in
    let left = c.tables.invariant.left in
    let all : c.tables.first + c.tables-item.result.1 ≤ values l = omega (arith, one, left) in
    omega (arith, all, names, few)

use Rattle.std.proofs.Common.{◌≤◌, ◌∙◌, ℕ, List, Global, String, ap, arith, length, refl, string_bytes, subst, sum_by, sym}
use Rattle.txn.proofs.Tabled.{counted_cells}
use Rattle.txn_programs.proofs.Lawful.{limits_parts}
use Rattle.text_report_printer.proofs.Lengths.{table_name_short}
use Rattle.text_report_printer.proofs.cells.put_tables.Goals as goal

pub loop-name-init : goal.loop-name-init
loop-name-init c =
    let l = c.args.catalogue.now in
    record {
      text = refl;
      left = sym (counted_cells c.tables-tables.result.now) ∙ ap (λ ts. sum_by (λ (t : List ℕ × ℕ). t.1) ts) c.tables-tables.ensures ∙ sym c.requires;
      few = omega (arith, (limits_parts l c.rules.ensures.limits).cells, c.requires);
    }

pub put_cells-requires-clause-short : goal.put_cells-requires-clause-short
put_cells-requires-clause-short c =
    let tables = c.tables-tables.result.now in
    subst (λ (name : List ℕ). length name ≤ 32) (sym (c.as_str.ensures.value ∙ ap (λ (t : String Global × ℕ). string_bytes t.0) c.loop-name-item.is))
    (table_name_short c.args.catalogue.now c.rules.ensures.limits tables c.loop-name.name-index c.loop-name-item.result c.tables-tables.ensures c.loop-name-test.true)

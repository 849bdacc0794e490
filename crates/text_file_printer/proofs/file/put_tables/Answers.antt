use Rattle.std.proofs.Common.{◌≡◌, ◌∙◌, List, length, drop, map, ap, subst, arith, string_bytes, ◌++◌}
use Rattle.std.specs.List.{flat_map, list_all, AllByRecursion}
use Rattle.std.proofs.lemmas.List.{length-drop}
use Rattle.txn_programs.specs.Limits.{table_fits}
use Rattle.txn_programs.proofs.Lawful.{limits_parts}
use Rattle.txn_declarations.specs.Counted.{counted}
use Rattle.text_file_printer.specs.Canonical.{table_line}
use Rattle.text_file_printer.specs.Fits.{TableFits}
use Rattle.text_grammar.specs.Written.{written_tables}
use Rattle.text_grammar.specs.Tree.{Table}
use Rattle.text_file_printer.proofs.Tables.{all_cells}
use Rattle.text_file_printer.proofs.file.put_tables.Goals as goal

pub tables-init : goal.tables-init
tables-init c =
    let l = c.args.catalogue.now in
    let tables = c.tables-name-items.result.now in
    let is = c.tables-name-items.ensures in
    let values = c.split_at.result.1.now in
    let behind : values ≡ drop (length l.names) l.initial = cc (c.split_at.ensures.back, c.var_count.ensures.value, c.initial.ensures.value) in
    let same : written_tables (map counted tables) values ≡ written_tables l.tables (drop (length l.names) l.initial) = cc (is, behind) in
    record {
      text = ap (λ (ts : List Table). string_bytes c.args.out.now ++ flat_map table_line ts) same;
      fits = subst (AllByRecursion TableFits) same;
      left = omega (arith, all_cells tables l is, c.rules.ensures.valued, ap length behind, length-drop (length l.names) l.initial);
      each = ap (list_all table_fits) is ∙ (limits_parts l c.rules.ensures.limits).each_table;
    }

use Rattle.std.proofs.Common.{◌≡◌, ℕ, List, OnOk, string_bytes, subst}
use Rattle.text_report_printer.proofs.Lines.{values_put}
use Rattle.text_report_printer.proofs.cells.put_values.Goals as goal

pub returns : goal.returns
returns c =
    let out = c.args.out.now in
    let after = string_bytes c.put_tables.new.out in
    subst (λ (z : List ℕ). OnOk c.put_tables.result (after ≡ z))
    (values_put c.args.catalogue.now c.args.vars.now _ _ (string_bytes out) (string_bytes c.put_variables.new.out) c.var_count.result c.var_count.ensures.value c.split_at.ensures.front c.split_at.ensures.back c.in_ok-put_variables.ensures.text)
    c.put_tables.ensures

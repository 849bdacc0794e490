use Rattle.text_report_printer.proofs.Lengths.{variable_name_short}
use Rattle.text_report_printer.proofs.names.variable_name.Goals as goal

pub returns-then-number-var_count-clause-at_most : goal.returns-then-number-var_count-clause-at_most
returns-then-number-var_count-clause-at_most c = variable_name_short c.args.catalogue.now c.rules.ensures.limits c.args.number _ c.var_name.ensures

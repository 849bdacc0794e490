use Rattle.std.proofs.Common.{◌≤◌, ◌<◌, ◌∙◌, true, false, sym, arith, inl, inr}
use Rattle.txn.specs.Arities.{most_arity}
use Rattle.txn_declarations.specs.Conditions.{standing_of}
use Rattle.txn_declarations.specs.Counted.{counted}
use Rattle.text_file_printer.proofs.Listed.{with_tables, with_lists, by_conditions}
use Rattle.text_file_printer.proofs.file.form_of.Goals as goal

pub returns-then-parameters-gt0 : goal.returns-then-parameters-gt0
returns-then-parameters-gt0 c =
    let l = c.args.catalogue.now in
    elim c.if-parameters-gt0.either [
      | inl some ↦ sym (with_tables l counted c.tables.result.now c.tables.ensures some)
      | inr both ↦ let some : 0 < most_arity l.transactions = omega (arith, c.most_parameters-parameters.ensures.value, both.1) in sym (with_lists l some)
    ]

pub returns-then-is_empty : goal.returns-then-is_empty
returns-then-is_empty c =
    let l = c.args.catalogue.now in
    let few : most_arity l.transactions ≤ 0 = omega (arith, c.most_parameters-parameters.ensures.value, c.if-parameters-gt0.false) in
    sym (by_conditions l counted c.tables.result.now standing_of c.always.result.now true c.tables.ensures (omega (arith, c.if-parameters-gt0.false)) few c.always.ensures.value (sym c.is_empty.ensures ∙ c.if-is_empty.true))

pub returns-else-is_empty : goal.returns-else-is_empty
returns-else-is_empty c =
    let l = c.args.catalogue.now in
    let few : most_arity l.transactions ≤ 0 = omega (arith, c.most_parameters-parameters.ensures.value, c.if-parameters-gt0.false) in
    sym (by_conditions l counted c.tables.result.now standing_of c.always.result.now false c.tables.ensures (omega (arith, c.if-parameters-gt0.false)) few c.always.ensures.value (sym c.is_empty.ensures ∙ c.if-is_empty.false))

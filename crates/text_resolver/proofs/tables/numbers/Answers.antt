use Rattle.std.proofs.Common.{◌≡◌, ◌∷◌, w64, arith}
use mir.Val.{to_z, of_z}
use Rattle.std.proofs.lemmas.Int.{to_z-of_z}
use Rattle.text_words.specs.declared.numeral.Numeral.{Numeral}
use Rattle.text_words.specs.Bytes.{int_value}
use Rattle.text_words.specs.Numbers.{number_of}
use Rattle.text_grammar.specs.Resolving.{each}
use Rattle.text_grammar.specs.View.{view_numbers}
use Rattle.text_resolver.proofs.Each.{loop_more, loop_fails}
use Rattle.std.proofs.lemmas.Result.{err_from_is_err_and}
use Rattle.text_resolver.proofs.tables.numbers.Goals as goal

pub others-preserved : goal.others-preserved
others-preserved c =
    let xs = c.args.others.now in
    let v = c.in_ok-number-2.number in
    let same : to_z w64 (of_z w64 v) ≡ v = grind (arith, to_z-of_z) in
    rw (c.in_ok-push-2.ensures.items, same) (loop_more number_of (λ (n : Numeral). int_value n.text.now) c.others.made.items xs c.others.other-index c.other-item.result v
    (each number_of (int_value c.args.first.text.now ∷ view_numbers xs)) c.others-test.true c.other-item.is c.in_ok-number-2.ensures.value c.others.invariant)

pub returns-in_err-number-2 : goal.returns-in_err-number-2
returns-in_err-number-2 c =
    let p = err_from_is_err_and c.from_residual-in_err-number-2.result c.from_residual-in_err-number-2.ensures.1 in
    let xs = c.args.others.now in
    rw (p.1, p.2) (loop_fails _ number_of (λ (n : Numeral). int_value n.text.now) c.others.made.items xs c.others.other-index c.other-item.result
    (each number_of (int_value c.args.first.text.now ∷ view_numbers xs)) c.others-test.true c.other-item.is c.in_err-number-2.ensures.value c.others.invariant)

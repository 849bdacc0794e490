use Rattle.std.proofs.Common.{◌≡◌, ◌<◌, length, take, w64, arith}
use mir.Val.{to_z, of_z}
use Rattle.std.proofs.lemmas.Int.{to_z-of_z}
use Rattle.std.proofs.lemmas.List.{take_more_set, length-set}
use Rattle.text_words.specs.declared.numeral.Numeral.{Numeral}
use Rattle.text_words.specs.Bytes.{int_value}
use Rattle.text_words.specs.Numbers.{number_of}
use Rattle.text_grammar.specs.Resolving.{each}
use Rattle.text_grammar.specs.View.{view_numbers}
use Rattle.text_resolver.proofs.Each.{loop_more}
use Rattle.text_resolver.proofs.resolve.arguments.Goals as goal

pub numerals-preserved : goal.numerals-preserved
numerals-preserved c =
    let v = c.in_ok-values.field-0 in
    let i = c.numerals.i in
    let xs = c.args.numerals.now in
    let values = c.numerals.values in
    let same : to_z w64 (of_z w64 v) ≡ v = grind (arith, to_z-of_z) in
    let room : i < length values = omega arith in
    (rw (same, take_more_set values i v room) (loop_more number_of (λ (n : Numeral). int_value n.text.now) (take i values) xs i c.index-numerals-i.result v (each number_of (view_numbers xs)) c.numerals-test.true c.index-numerals-i.is c.in_ok-values.ensures.value c.numerals.invariant.0), rw (length-set values i _) c.numerals.invariant.1)

use Rattle.std.proofs.Common.{ap, ◌∙◌, ◌+◌, ◌*◌, arith}
use Rattle.text_words.proofs.Shorts.{one_more}
use Rattle.text_words.proofs.numeral.short_value.Goals as goal

pub overflow_mul-value : goal.overflow_mul-value
overflow_mul-value c = omega (arith, (one_more c.args.digits.now c.digits.digit-index c.digits.value c.requires.digits c.requires.few c.digits-test.true c.digits.invariant).few)

pub overflow_sub-digit : goal.overflow_sub-digit
overflow_sub-digit c = (one_more c.args.digits.now c.digits.digit-index c.digits.value c.requires.digits c.requires.few c.digits-test.true c.digits.invariant).digit

pub overflow_add-value : goal.overflow_add-value
overflow_add-value c = omega (arith, c.from.ensures, (one_more c.args.digits.now c.digits.digit-index c.digits.value c.requires.digits c.requires.few c.digits-test.true c.digits.invariant).few)

pub digits-preserved : goal.digits-preserved
digits-preserved c = ap (λ m. c.digits.value * 10 + m) c.from.ensures ∙ (one_more c.args.digits.now c.digits.digit-index c.digits.value c.requires.digits c.requires.few c.digits-test.true c.digits.invariant).next

use Rattle.text_words.proofs.Numerals.{some_byte, minus_shape, plain_shape, few_fits}
use Rattle.text_words.proofs.numeral.short_int.Goals as goal

pub bounds-text-0 : goal.bounds-text-0
bounds-text-0 c = some_byte c.args.text.now c.requires.written

pub short_value-requires-clause-digits : goal.short_value-requires-clause-digits
short_value-requires-clause-digits c = (minus_shape c.args.text.now c.requires.written c.requires.few c.if-text-eq45.true).digits

pub overflow_cast-result : goal.overflow_cast-result
overflow_cast-result c = few_fits c.short_value.result ((minus_shape c.args.text.now c.requires.written c.requires.few c.if-text-eq45.true).few c.short_value.result c.short_value.ensures)

pub overflow_sub-result : goal.overflow_sub-result
overflow_sub-result c = (minus_shape c.args.text.now c.requires.written c.requires.few c.if-text-eq45.true).fits c.short_value.result c.short_value.ensures

pub returns-then-text-eq45 : goal.returns-then-text-eq45
returns-then-text-eq45 c = (minus_shape c.args.text.now c.requires.written c.requires.few c.if-text-eq45.true).value c.short_value.result c.short_value.ensures

pub short_value-requires-else-text-eq45-clause-digits : goal.short_value-requires-else-text-eq45-clause-digits
short_value-requires-else-text-eq45-clause-digits c = (plain_shape c.args.text.now c.requires.written c.requires.few c.if-text-eq45.false).digits

pub overflow_cast-result-else-text-eq45 : goal.overflow_cast-result-else-text-eq45
overflow_cast-result-else-text-eq45 c = few_fits c.short_value-else-text-eq45.result ((plain_shape c.args.text.now c.requires.written c.requires.few c.if-text-eq45.false).few c.short_value-else-text-eq45.result c.short_value-else-text-eq45.ensures)

pub returns-else-text-eq45 : goal.returns-else-text-eq45
returns-else-text-eq45 c = (plain_shape c.args.text.now c.requires.written c.requires.few c.if-text-eq45.false).value c.short_value-else-text-eq45.result c.short_value-else-text-eq45.ensures

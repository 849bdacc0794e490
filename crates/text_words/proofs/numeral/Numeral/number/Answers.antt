use Rattle.std.proofs.Common.{sym, ap, ◌∙◌}
use Rattle.text_words.specs.Bytes.{int_value}
use Rattle.text_words.proofs.Numerals.{number_given, number_self}
use Rattle.text_words.proofs.numeral.Numeral.number.Goals as goal

pub returns-then-self-gt-SHORT_INT-clause-value : goal.returns-then-self-gt-SHORT_INT-clause-value
returns-then-self-gt-SHORT_INT-clause-value c = number_given c.args.self.text.now c.parse.result c.ok.result c.ok_or.result c.args.self.written c.parse.ensures.value.0 c.ok.ensures.value c.ok_or.ensures.value

pub returns-clause-value : goal.returns-clause-value
returns-clause-value c = number_self (int_value c.args.self.text.now) c.short_int.result (sym (c.short_int.ensures ∙ ap int_value c.as_bytes.ensures.value)) (record { sfits = c.short_int.type_inv })

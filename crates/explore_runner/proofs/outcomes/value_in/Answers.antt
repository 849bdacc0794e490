use Rattle.std.proofs.Common.{subst}
use Rattle.text_words.specs.Answers.{Fails}
use Rattle.text_words.specs.declared.fault.ReadFault.{ReadFault}
use Rattle.text_line_reader.specs.Words.{int_in}
use Rattle.explore_runner.proofs.Worded.{value_known, value_unknown, no_value}
use Rattle.explore_runner.proofs.outcomes.value_in.Goals as goal

pub returns-in-Ok-clause-known : goal.returns-in-Ok-clause-known
returns-in-Ok-clause-known c = value_known c.args.text.now c.in-Ok.numeral.text.now c.value_of.result c.in-Ok.ensures.value c.value_of.ensures.known

pub returns-in-Ok-clause-unknown : goal.returns-in-Ok-clause-unknown
returns-in-Ok-clause-unknown c = value_unknown c.args.text.now c.in-Ok.numeral.text.now c.value_of.result c.in-Ok.ensures.value c.value_of.ensures.unknown

pub returns-in-Err-clause-unknown : goal.returns-in-Err-clause-unknown
returns-in-Err-clause-unknown c = no_value c.args.text.now (subst (λ (e : ReadFault). Fails e (int_in c.args.text.now)) c.in-Err.ensures.kind c.in-Err.ensures.value)

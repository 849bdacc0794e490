use Rattle.std.proofs.Common.{arith}
use Rattle.std.proofs.lemmas.Grind.{common_steps}
use Rattle.text_words.proofs.Fronting.{positive_scanned, no_positive, nothing_positive}
use Rattle.text_words.proofs.lexer.positive_len.Goals as goal

pub returns-in_err-first-clause-none : goal.returns-in_err-first-clause-none
returns-in_err-first-clause-none c = nothing_positive c.from_residual.result c.args.bytes.now (grind (arith, common_steps))

pub returns-in-49-to-57-clause-some : goal.returns-in-49-to-57-clause-some
returns-in-49-to-57-clause-some c = positive_scanned c.in_ok-first.first.now c.digits_len.result c.args.bytes.now c.in_ok-first.rest.now (grind (arith, common_steps)) (grind (arith, common_steps)) c.digits_len.ensures.value

pub returns-in_default-clause-none : goal.returns-in_default-clause-none
returns-in_default-clause-none c = let d = c.in_default in no_positive c.in_ok-first.first.now c.args.bytes.now c.in_ok-first.rest.now (grind (arith, common_steps)) (grind (arith, common_steps))

pub returns-in_default-2-clause-none : goal.returns-in_default-2-clause-none
returns-in_default-2-clause-none c = let d = c.in_default in no_positive c.in_ok-first.first.now c.args.bytes.now c.in_ok-first.rest.now (grind (arith, common_steps)) (grind (arith, common_steps))

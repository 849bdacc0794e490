use Rattle.std.proofs.Common.{sym, ap, ◌∙◌, arith}
use Rattle.text_words.specs.Tokens.{tokens}
use Rattle.text_words.specs.TokenReading.{int_at}
use Rattle.text_words.proofs.Nexts.{int_stands, int_given, int_fails}
use Rattle.text_words.proofs.tokens.int_of.Goals as goal

pub returns-in-Some-clause-value : goal.returns-in-Some-clause-value
returns-in-Some-clause-value c =
    let found = c.in-Some in
    let here = int_stands c.token_start.result.now found.numeral.text.now found.rest.now found.numeral.written found.ensures.atom found.ensures.rest in
    ap int_at (sym c.token_start.ensures.same ∙ here.tokens) ∙ int_given found.numeral.text.now (tokens found.rest.now) found.numeral.written

pub returns-in-Some-clause-shorter : goal.returns-in-Some-clause-shorter
returns-in-Some-clause-shorter c =
    let found = c.in-Some in
    let fewer = (int_stands c.token_start.result.now found.numeral.text.now found.rest.now found.numeral.written found.ensures.atom found.ensures.rest).shorter in
    let within = c.token_start.ensures.within in
    omega arith

pub returns-in-None-clause-value : goal.returns-in-None-clause-value
returns-in-None-clause-value c = ap int_at (sym c.token_start.ensures.same) ∙ int_fails c.token_start.result.now c.token_start.ensures.front c.in-None.ensures.none

use Rattle.std.proofs.Common.{sym, ap, ◌∙◌, arith}
use Rattle.text_words.specs.Tokens.{tokens}
use Rattle.text_words.specs.TokenReading.{name_at}
use Rattle.text_words.proofs.Nexts.{name_stands, name_given, name_fails}
use Rattle.text_words.proofs.tokens.name_of.Goals as goal

pub returns-in-Some-clause-value : goal.returns-in-Some-clause-value
returns-in-Some-clause-value c =
    let found = c.in-Some in
    let here = name_stands c.token_start.result.now found.name.now found.rest.now found.ensures.name found.ensures.atom found.ensures.rest in
    ap name_at (sym c.token_start.ensures.same ∙ here.tokens) ∙ name_given found.name.now (tokens found.rest.now) found.ensures.name

pub returns-in-Some-clause-shorter : goal.returns-in-Some-clause-shorter
returns-in-Some-clause-shorter c =
    let found = c.in-Some in
    let fewer = (name_stands c.token_start.result.now found.name.now found.rest.now found.ensures.name found.ensures.atom found.ensures.rest).shorter in
    let within = c.token_start.ensures.within in
    omega arith

pub returns-in-None-clause-value : goal.returns-in-None-clause-value
returns-in-None-clause-value c = ap name_at (sym c.token_start.ensures.same) ∙ name_fails c.token_start.result.now c.token_start.ensures.front c.in-None.ensures.none

use Rattle.std.proofs.Common.{◌≡◌, ◌∷◌, false, eqb, get_or, sym, ap, ◌∙◌, arith}
use Rattle.std.proofs.lemmas.Grind.{common_steps}
use Rattle.text_words.specs.Tokens.{tokens}
use Rattle.text_words.specs.TokenReading.{open_at}
use Rattle.text_words.proofs.Lexing.{tokens-open}
use Rattle.text_words.proofs.Nexts.{open_fails}
use Rattle.text_words.proofs.Steps.{open_again}
use Rattle.text_words.proofs.tokens.open.Goals.{in_default-via-in-Some+in_default, in_default-via-in_default}
use Rattle.text_words.proofs.tokens.open.Goals as goal

pub returns-in-Some-eq40-default-clause-value : goal.returns-in-Some-eq40-default-clause-value
returns-in-Some-eq40-default-clause-value c =
    let rest = c.in-Some-eq40-default.rest.now in
    let e : c.token_start.result.now ≡ 40 ∷ rest = grind (arith, common_steps) in
    ap open_at (sym c.token_start.ensures.same ∙ ap tokens e ∙ tokens-open rest) ∙ open_again (tokens rest)

pub returns-in_default-clause-value : goal.returns-in_default-clause-value
returns-in_default-clause-value c =
    let start = c.token_start.result.now in
    let other : eqb (get_or start 0 0) 40 ≡ false = elim c.in_default.branch [ in_default-via-in-Some+in_default w ↦ grind (arith, common_steps) | in_default-via-in_default w ↦ grind (arith, common_steps) ] in
    ap open_at (sym c.token_start.ensures.same) ∙ open_fails start c.token_start.ensures.front other

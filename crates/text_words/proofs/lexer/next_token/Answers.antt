use Rattle.std.proofs.Common.{◌≡◌, ◌∷◌, refl, sym, ap, ◌∙◌, arith}
use Rattle.std.proofs.lemmas.Bool.{ne_eqb}
use Rattle.std.proofs.lemmas.Grind.{common_steps}
use Rattle.text_words.specs.Tokens.{tokens}
use Rattle.text_words.proofs.Lexing.{tokens-open, tokens-close}
use Rattle.text_words.proofs.Nexts.{no_token, atom_next}
use Rattle.text_words.proofs.lexer.next_token.Goals as goal

pub returns-in_err-first-clause-none : goal.returns-in_err-first-clause-none
returns-in_err-first-clause-none c = no_token c.from_residual.result c.args.bytes.now c.token_start-start.result.now c.token_start-start.ensures.same (grind (arith, common_steps))

pub returns-in-40-clause-some : goal.returns-in-40-clause-some
returns-in-40-clause-some c =
    let rest = c.in_ok-first.after.now in
    let e : c.token_start-start.result.now ≡ 40 ∷ rest = grind (arith, common_steps) in
    sym c.token_start-start.ensures.same ∙ ap tokens e ∙ tokens-open rest

pub returns-in-41-clause-some : goal.returns-in-41-clause-some
returns-in-41-clause-some c =
    let rest = c.in_ok-first.after.now in
    let e : c.token_start-start.result.now ≡ 41 ∷ rest = grind (arith, common_steps) in
    sym c.token_start-start.ensures.same ∙ ap tokens e ∙ tokens-close rest

pub returns-in_default-clause-some : goal.returns-in_default-clause-some
returns-in_default-clause-some c =
    let d = c.in_default in
    let b = c.in_ok-first.first.now in
    let start = c.token_start-start.result.now in
    let e : start ≡ b ∷ c.in_ok-first.after.now = grind (arith, common_steps) in
    sym c.token_start-start.ensures.same ∙ atom_next b start c.in_ok-first.after.now e c.token_start-start.ensures.front (ne_eqb b 40 (omega arith)) (ne_eqb b 41 (omega arith)) ∙ rw (c.atom_at.ensures.token, c.atom_at.ensures.rest) refl

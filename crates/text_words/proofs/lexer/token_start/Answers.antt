use Rattle.std.proofs.Common.{◌≡◌, true, ◌∷◌, sym, ap, ◌∙◌, arith}
use Rattle.std.proofs.lemmas.Grind.{common_steps}
use Rattle.text_words.specs.Bytes.{is_blank}
use Rattle.text_words.specs.Tokens.{tokens}
use Rattle.text_words.proofs.Lexing.{tokens-comment, tokens-gap}
use Rattle.text_words.proofs.lexer.token_start.Goals as goal

pub gaps-preserved-in-32 : goal.gaps-preserved-in-32
gaps-preserved-in-32 c =
    let b = c.in-Some.first.now in
    let e : c.gaps.rest.now ≡ b ∷ c.in-Some.after.now = grind (arith, common_steps) in
    let h : is_blank b ≡ true = grind (arith, common_steps) in
    record { same = sym (ap tokens e ∙ tokens-gap b c.in-Some.after.now h) ∙ c.gaps.invariant.same; within = grind (arith, common_steps) }

pub gaps-preserved : goal.gaps-preserved
gaps-preserved c =
    let e : c.gaps.rest.now ≡ 59 ∷ c.in-Some.after.now = grind (arith, common_steps) in
    record { same = sym (ap tokens e ∙ tokens-comment c.in-Some.after.now ∙ ap tokens (cc)) ∙ c.gaps.invariant.same; within = grind (arith, common_steps) }

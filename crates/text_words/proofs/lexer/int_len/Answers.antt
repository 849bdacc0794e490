use Rattle.std.proofs.Common.{◌≡◌, ◌∷◌, arith}
use Rattle.std.proofs.lemmas.Bool.{ne_eqb}
use Rattle.std.proofs.lemmas.Grind.{common_steps}
use Rattle.text_words.proofs.Fronting.{minus_front, no_minus, zero_front, nothing_int, as_positive, no_int, int_front}
use Rattle.text_words.proofs.lexer.int_len.Goals as goal

pub returns-in_err-first-clause-none : goal.returns-in_err-first-clause-none
returns-in_err-first-clause-none c = nothing_int c.from_residual.result c.args.bytes.now (grind (arith, common_steps))

pub returns-in_err-positive_len-in-45-clause-none : goal.returns-in_err-positive_len-in-45-clause-none
returns-in_err-positive_len-in-45-clause-none c = no_minus c.from_residual-in_err-positive_len-in-45.result c.args.bytes.now c.in_ok-first.rest.now (grind (arith, common_steps)) c.in_err-positive_len-in-45.ensures.none

pub returns-in-48-clause-some : goal.returns-in-48-clause-some
returns-in-48-clause-some c =
    let e : c.args.bytes.now ≡ 48 ∷ c.in_ok-first.rest.now = grind (arith, common_steps) in
    rw e (zero_front c.in_ok-first.rest.now)

pub returns-in_ok-positive_len-in-45-clause-some : goal.returns-in_ok-positive_len-in-45-clause-some
returns-in_ok-positive_len-in-45-clause-some c =
    let e : c.args.bytes.now ≡ 45 ∷ c.in_ok-first.rest.now = grind (arith, common_steps) in
    rw e (minus_front c.in_ok-positive_len-in-45.field-0 c.in_ok-first.rest.now c.in_ok-positive_len-in-45.ensures.some)

pub returns-in_default-clause-none : goal.returns-in_default-clause-none
returns-in_default-clause-none c =
    let d = c.in_default in
    let b = c.in_ok-first.first.now in
    let same = as_positive b c.args.bytes.now c.in_ok-first.rest.now (grind (arith, common_steps)) (ne_eqb b 48 (omega arith)) (ne_eqb b 45 (omega arith)) in
    no_int c.positive_len-in_default.result c.args.bytes.now same c.positive_len-in_default.ensures.none

pub returns-in_default-clause-some : goal.returns-in_default-clause-some
returns-in_default-clause-some c =
    let d = c.in_default in
    let b = c.in_ok-first.first.now in
    let same = as_positive b c.args.bytes.now c.in_ok-first.rest.now (grind (arith, common_steps)) (ne_eqb b 48 (omega arith)) (ne_eqb b 45 (omega arith)) in
    int_front c.positive_len-in_default.result c.args.bytes.now same c.positive_len-in_default.ensures.some

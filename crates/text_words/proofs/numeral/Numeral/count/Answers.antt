use Rattle.std.proofs.Common.{subst}
use Rattle.std.specs.Prelude.{ℤ, unsigned_abs}
use Rattle.std.specs.Int.{FitsUnsignedBits}
use Rattle.std.specs.Result.{OkIff}
use Rattle.std.proofs.lemmas.Result.{err_from_is_err_and}
use Rattle.text_words.specs.Bytes.{int_value}
use Rattle.text_words.proofs.Numerals.{count_given, count_fails, number_back}
use Rattle.text_words.proofs.numeral.Numeral.count.Goals as goal

pub returns-in_err-number-clause-value : goal.returns-in_err-number-clause-value
returns-in_err-number-clause-value c =
    let p = err_from_is_err_and c.from_residual.result c.from_residual.ensures.1 in
    rw (p.1, p.2) (count_fails c.in_err-number.field-0.0 (int_value c.args.self.text.now) c.in_err-number.ensures.value)

pub returns-clause-value : goal.returns-clause-value
returns-clause-value c =
    let z = int_value c.args.self.text.now in
    let number = c.in_ok-number.number in
    let cut = subst (λ (m : ℤ). OkIff c.try_from.result (FitsUnsignedBits 32 m) (unsigned_abs m)) (number_back z number c.in_ok-number.ensures.value) c.try_from.ensures in
    count_given z number c.try_from.result c.ok.result c.ok_or.result c.in_ok-number.ensures.value cut c.ok.ensures.value c.ok_or.ensures.value

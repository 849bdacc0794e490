-- What few digits are worth.
use Rattle.std.proofs.Common.{◌≡◌, ℕ, ◌+◌, ◌-◌, ◌*◌, ◌<◌, ◌≤◌, List, length, get_or, take, arith}
use Rattle.std.specs.Str.Parse.{AllDigits, digits_value}
use Rattle.std.proofs.lemmas.Str.{digit_value_digit}
use Rattle.std.proofs.lemmas.Str.Parse.{IsNumeralModel, numerals_by_value, tells_digits, digit_at, digits_value_short, digits_value-take-le}
use Rattle.std.proofs.lemmas.Int.Digits.{digits_value_more}

own : IsNumeralModel (AllDigits 10) (digits_value 10)
own = numerals_by_value (AllDigits 10) tells_digits

pub few_digits : (ds : List ℕ) → AllDigits 10 ds → length ds ≤ 18 → digits_value 10 ds < 1000000000000000000
few_digits ds all few = digits_value_short own ds 18 all few

-- one digit more
pub record More (ds : List ℕ) (i value : ℕ) : Type 0 where
  pub digit : 48 ≤ get_or ds i 0
  pub next : value * 10 + (get_or ds i 0 - 48) ≡ digits_value 10 (take (i + 1) ds)
  pub few : value * 10 + (get_or ds i 0 - 48) < 1000000000000000000

pub one_more : (ds : List ℕ) (i value : ℕ) → AllDigits 10 ds → length ds ≤ 18 → i < length ds → value ≡ digits_value 10 (take i ds) → More ds i value
one_more ds i value all few here is =
    let d = digit_at ds i all here in
    let same = digit_value_digit (get_or ds i 0) d in
    let next : value * 10 + (get_or ds i 0 - 48) ≡ digits_value 10 (take (i + 1) ds) = omega (arith, same, is, digits_value_more 10 ds i here) in
    record {
      digit = d.0;
      next = next;
      few = omega (arith, next, digits_value-take-le 10 ds (i + 1) (omega arith), few_digits ds all few);
    }

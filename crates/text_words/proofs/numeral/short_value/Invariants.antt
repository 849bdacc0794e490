use Rattle.std.proofs.Common.{◌≡◌, take}
use Rattle.std.specs.Str.Parse.{digits_value}
use Rattle.text_words.proofs.numeral.short_value.Given as goal

abbrev pub invariant-digits : goal.invariant-digits
invariant-digits l = l.value ≡ digits_value 10 (take l.digit-index l.digits)

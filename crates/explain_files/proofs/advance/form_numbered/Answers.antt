use Rattle.std.proofs.Common.{◌≡◌, ℕ, List, true, false, cond, Err, None, refl, sym, subst, inl, inr}
use Rattle.std.specs.Prelude.{ℤ, pos}
use Rattle.std.specs.Int.{w64}
use Rattle.std.specs.Ordering.{int_eq}
use Rattle.std.specs.Result.{result_ok}
use Rattle.std.specs.Str.Parse.{ParsesSigned}
use Rattle.std.proofs.lemmas.Bool.Decides.{Decides-int_eq}
use Rattle.text_words.specs.Bytes.{is_int, int_value}
use Rattle.text_words.specs.Numbers.{number_of}
use Rattle.text_words.specs.declared.fault.ReadFault.TheVariants.{Limit}
use Rattle.text_words.proofs.Numerals.{number_given}
use Rattle.text_words.proofs.Steps.{chosen}
use Rattle.text_grammar.specs.Reading.{form_numbered}
use Rattle.explain_files.proofs.advance.form_numbered.Goals as goal

two_fits : number_of (pos 2) ≡ Err Limit → ⊥
unfolding number_of
two_fits h = absurd cc

three_fits : number_of (pos 3) ≡ Err Limit → ⊥
unfolding number_of
three_fits h = absurd cc

-- an integer that 64 signed bits have no room for is not this one
is_other : (z n : ℤ) → number_of z ≡ Err Limit → (number_of n ≡ Err Limit → ⊥) → int_eq z n ≡ false
is_other z n none fits =
    elim (chosen (int_eq z n) true false (cond (int_eq z n) true false) refl) [
      | inl p ↦ absurd (fits (subst (λ (y : ℤ). number_of y ≡ Err Limit) ((Decides-int_eq z n).0 p.0) none))
      | inr p ↦ p.0
    ]

too_large : {E : Type 0} (text : List ℕ) (e : E) → is_int text ≡ true → ParsesSigned w64 10 text (Err e) → result_ok (form_numbered (int_value text)) ≡ None
too_large text e h parsed =
    let z = int_value text in
    let none : number_of z ≡ Err Limit = number_given text (Err e) None (Err Limit) h parsed refl refl in
    rw (is_other z (pos 2) none two_fits, is_other z (pos 3) none three_fits) refl

pub returns-in_default-2 : goal.returns-in_default-2
returns-in_default-2 c = sym (too_large c.args.number.text.now c.in_default.field-0 c.args.number.written (rw c.in_default.is at c.parse.ensures.value.0))

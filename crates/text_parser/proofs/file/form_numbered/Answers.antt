use Rattle.std.proofs.Common.{◌≡◌, ℕ, List, true, cond, Err, None, refl, sym, subst, inl, inr}
use Rattle.std.specs.Prelude.{ℤ, pos}
use Rattle.std.specs.Int.{w64}
use Rattle.std.specs.Ordering.{int_eq}
use Rattle.std.specs.Str.Parse.{ParsesSigned}
use Rattle.std.proofs.lemmas.Bool.Decides.{Decides-int_eq}
use Rattle.text_words.specs.Bytes.{is_int, int_value}
use Rattle.text_words.specs.Numbers.{number_of}
use Rattle.text_words.specs.declared.fault.ReadFault.TheVariants.{Shape, Limit}
use Rattle.text_words.proofs.Numerals.{number_given}
use Rattle.text_words.proofs.Steps.{done, chosen}
use Rattle.text_grammar.specs.Reading.{form_numbered}
use Rattle.text_grammar.specs.declared.file.FileForm.TheVariants.{Two, Three}
use Rattle.text_parser.proofs.file.form_numbered.Goals as goal

two_fits : number_of (pos 2) ≡ Err Limit → ⊥
unfolding number_of
two_fits h = absurd cc

three_fits : number_of (pos 3) ≡ Err Limit → ⊥
unfolding number_of
three_fits h = absurd cc

-- an integer that 64 signed bits have no room for is neither 2 nor 3
too_large : {E : Type 0} (text : List ℕ) (e : E) → is_int text ≡ true → ParsesSigned w64 10 text (Err e) → form_numbered (int_value text) ≡ Err Shape
too_large text e h parsed =
    let z = int_value text in
    let none : number_of z ≡ Err Limit = number_given text (Err e) None (Err Limit) h parsed refl refl in
    elim (chosen (int_eq z (pos 2)) (done Two) (cond (int_eq z (pos 3)) (done Three) (Err Shape)) (form_numbered z) refl) [
      | inl p ↦ absurd (two_fits (subst (λ (y : ℤ). number_of y ≡ Err Limit) ((Decides-int_eq z (pos 2)).0 p.0) none))
      | inr p ↦ elim (chosen (int_eq z (pos 3)) (done Three) (Err Shape) (form_numbered z) p.1) [
        | inl q ↦ absurd (three_fits (subst (λ (y : ℤ). number_of y ≡ Err Limit) ((Decides-int_eq z (pos 3)).0 q.0) none))
        | inr q ↦ sym q.1
      ]
    ]

pub returns-in_default-2-clause-value : goal.returns-in_default-2-clause-value
returns-in_default-2-clause-value c = too_large c.args.number.text.now c.in_default.field-0 c.args.number.written (rw c.in_default.is at c.parse.ensures.value.0)

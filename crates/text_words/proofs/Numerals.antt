-- What names and integers of the tokens are as texts.
use Rattle.std.proofs.Common.{◌≡◌, ℕ, zero, suc, ◌-ℤ◌, ◌<◌, ◌≤◌, Bool, true, false, cond, eqb, leb, ◌&&◌, List, [], ◌∷◌, length, get_or, take, drop, ◌∙◌, ◌-◌, Option, Result, Ok, Err, refl, sym, ap, subst, arith, lit<, inl, inr, Bor}
use Rattle.std.specs.Prelude.{IsOk, MatchResult, FitsSigned}
use Rattle.std.specs.Int.{w64}
use Rattle.std.specs.Result.{result_ok}
use Rattle.std.specs.Str.{IsAscii, IsUtf8}
use Rattle.std.specs.Str.Parse.{ParsesSigned, IsNumeral, AllDigits, digits_value, without_leading_sign}
use Rattle.std.specs.Char.{is_ascii_digit, digit_value}
use Rattle.std.specs.List.{list_all}
use Rattle.std.proofs.lemmas.Str.{IsUtf8-from_ascii}
use Rattle.std.proofs.lemmas.Bool.{eqb-true, leb-true, ne_eqb}
use Rattle.std.proofs.lemmas.Bool.Decides.{eqb_tells}
use Rattle.std.proofs.lemmas.Grind.{common_steps}
use Rattle.text_words.specs.Bytes.{is_int, is_positive}
use Rattle.std.specs.Prelude.{ℤ, pos, negsuc, neg_ℤ, ◌^◌, unsigned_abs, nat_lt}
use Rattle.std.specs.Int.{FitsUnsignedBits}
use Rattle.std.specs.Result.{OkIff}
use mir.Val.{to_z, of_z}
use mir.ValLaws.{to_z-of_z, to_z_pos}
use Rattle.std.specs.Option.{ok_or}
use Rattle.std.proofs.lemmas.Bool.{lt-ltb, ltb-true}
use Rattle.std.proofs.lemmas.Int.{ints}
use Rattle.std.proofs.lemmas.List.{take_all, length-drop}
use Rattle.txn_programs.specs.Arithmetic.{fits}
use Rattle.text_words.specs.Bytes.{int_value}
use Rattle.text_words.proofs.Shorts.{few_digits}
use Rattle.text_words.specs.Answers.{Gives, Fails}
use Rattle.text_words.specs.Numbers.{number_of, count_of}
use Rattle.text_words.specs.declared.fault.ReadFault.{ReadFault}
use Rattle.text_words.specs.declared.fault.ReadFault.TheVariants as faults

pub utf8_ok : {E : Type 0} (bytes : List ℕ) (r : Result (Bor (List ℕ)) E) (X : E → Type 0) → IsAscii bytes → MatchResult r (λ s. (s.now ≡ bytes) × IsUtf8 bytes) (λ e. (IsUtf8 bytes → ⊥) × X e) → IsOk r
utf8_ok bytes (Ok s) X ascii h = refl
utf8_ok bytes (Err e) X ascii h = absurd (h.0 (IsUtf8-from_ascii bytes ascii))

both : (a b : Bool) → (a && b) ≡ true → (a ≡ true) × (b ≡ true)
both true b h = (refl, h)
both false b h = absurd cc

digit : (c : ℕ) → is_ascii_digit c ≡ true → digit_value c < 10
digit c h = grind (arith, common_steps)

digits : (cs : List ℕ) → list_all is_ascii_digit cs ≡ true → AllDigits 10 cs
digits [] h = tt
digits (c ∷ cs) h = let p = both (is_ascii_digit c) (list_all is_ascii_digit cs) h in (digit c p.0, digits cs p.1)

digit_from : (c : ℕ) → (leb 49 c && leb c 57) ≡ true → (digit_value c < 10) × (48 < c) × (c < 58)
digit_from c h = let p = both (leb 49 c) (leb c 57) h in let low = leb-true 49 c p.0 in let high = leb-true c 57 p.1 in (grind (arith, common_steps), omega arith, omega arith)

pub positive : (cs : List ℕ) → is_positive cs ≡ true → IsNumeral 10 cs × (48 < get_or cs 0 0) × (get_or cs 0 0 < 58)
unfolding is_positive
positive [] h = absurd cc
positive (c ∷ cs) h =
    let p = both (leb 49 c && leb c 57) (list_all is_ascii_digit cs) h in
    let d = digit_from c p.0 in
    ((omega arith, (d.0, digits cs p.1)), d.1, d.2)

-- a text with no sign in front
plain : (text : List ℕ) → eqb (get_or text 0 0) 45 ≡ false → eqb (get_or text 0 0) 43 ≡ false → without_leading_sign text ≡ text
plain text a b = rw (a, b) refl

zero_numeral : (cs : List ℕ) → eqb (length cs) 0 ≡ true → IsNumeral 10 (without_leading_sign (48 ∷ cs))
zero_numeral [] h = (lit< tt, (lit< tt, tt))
zero_numeral (c ∷ cs) h = absurd (omega (arith, eqb-true (suc (length cs)) 0 h))

pub numeral : (text : List ℕ) → is_int text ≡ true → IsNumeral 10 (without_leading_sign text)
unfolding is_int
numeral [] h = absurd cc
numeral (c ∷ cs) h =
    elim (eqb_tells c 48) [
      | inl p ↦ let g : eqb (length cs) 0 ≡ true = rw p.0 at h in rw p.1 (zero_numeral cs g)
      | inr p ↦ elim (eqb_tells c 45) [
        | inl q ↦ let g : is_positive cs ≡ true = rw (p.0, q.0) at h in rw q.0 (positive cs g).0
        | inr q ↦
            let g : is_positive (c ∷ cs) ≡ true = rw (p.0, q.0) at h in
            let d = positive (c ∷ cs) g in
            let not_plus : eqb c 43 ≡ false = let low = d.1 in ne_eqb c 43 (λ e. absurd (omega arith)) in
            rw (q.0, not_plus) d.0
      ]
    ]

-- an integer has a byte, and begins with no plus
pub some_byte : (text : List ℕ) → is_int text ≡ true → 0 < length text
unfolding is_int
some_byte [] h = absurd cc
some_byte (c ∷ cs) h = omega arith

no_plus : (text : List ℕ) → is_int text ≡ true → eqb (get_or text 0 0) 43 ≡ false
unfolding is_int
no_plus [] h = absurd cc
no_plus (c ∷ cs) h =
    elim (eqb_tells c 48) [
      | inl p ↦ rw p.1 refl
      | inr p ↦ elim (eqb_tells c 45) [
        | inl q ↦ rw q.1 refl
        | inr q ↦
            let g : is_positive (c ∷ cs) ≡ true = rw (p.0, q.0) at h in
            let low = (positive (c ∷ cs) g).1 in
            ne_eqb c 43 (λ e. absurd (omega arith))
      ]
    ]

-- the digits of an integer, with a minus in front and without
pub minus_digits : (text : List ℕ) → is_int text ≡ true → eqb (get_or text 0 0) 45 ≡ true → AllDigits 10 (drop 1 text)
minus_digits text h minus = let g : AllDigits 10 (without_leading_sign text) = (numeral text h).1 in let same : without_leading_sign text ≡ drop 1 text = rw minus refl in subst (AllDigits 10) same g

pub plain_digits : (text : List ℕ) → is_int text ≡ true → eqb (get_or text 0 0) 45 ≡ false → AllDigits 10 text
plain_digits text h none = subst (AllDigits 10) (plain text none (no_plus text h)) (numeral text h).1

pub minus_value : (text : List ℕ) → eqb (get_or text 0 0) 45 ≡ true → int_value text ≡ neg_ℤ (pos (digits_value 10 (drop 1 text)))
minus_value text minus = rw minus refl

pub plain_value : (text : List ℕ) → is_int text ≡ true → eqb (get_or text 0 0) 45 ≡ false → int_value text ≡ pos (digits_value 10 text)
plain_value text h none = rw (none, no_plus text h) refl

-- few digits, with a minus or without, as 64 signed bits
pub few_fits : (v : ℕ) → v < 1000000000000000000 → FitsSigned w64 (pos v)
few_fits v few = record { sfits = omega arith }

zero_less : (v : ℕ) → (pos 0 -ℤ pos v) ≡ neg_ℤ (pos v)
zero_less v = omega (arith, ints)

neg_fits : (v : ℕ) → v < 1000000000000000000 → FitsSigned w64 (neg_ℤ (pos v))
neg_fits zero few = record { sfits = omega arith }
neg_fits (suc k) few = record { sfits = omega arith }

pub minus_fits : (v : ℕ) → v < 1000000000000000000 → FitsSigned w64 (pos 0 -ℤ pos v)
minus_fits v few = subst (FitsSigned w64) (sym (zero_less v)) (neg_fits v few)

pub few_back : (v : ℕ) → v < 1000000000000000000 → to_z w64 v ≡ pos v
few_back v few = to_z_pos w64 v (omega arith)

pub minus_back : (v : ℕ) → v < 1000000000000000000 → to_z w64 (of_z w64 (pos 0 -ℤ pos v)) ≡ neg_ℤ (pos v)
minus_back v few = to_z-of_z w64 (pos 0 -ℤ pos v) (minus_fits v few) ∙ zero_less v

-- the digits behind a minus: few of them, and what they are worth
pub record MinusShape (text : List ℕ) : Type 0 where
  pub digits : AllDigits 10 (take (length text - 1) (drop 1 text))
  pub few : (v : ℕ) → v ≡ digits_value 10 (take (length text - 1) (drop 1 text)) → v < 1000000000000000000
  pub fits : (v : ℕ) → v ≡ digits_value 10 (take (length text - 1) (drop 1 text)) → FitsSigned w64 (pos 0 -ℤ to_z w64 v)
  pub value : (v : ℕ) → v ≡ digits_value 10 (take (length text - 1) (drop 1 text)) → to_z w64 (of_z w64 (pos 0 -ℤ to_z w64 v)) ≡ int_value text

whole_rest : (text : List ℕ) → take (length text - 1) (drop 1 text) ≡ drop 1 text
whole_rest text = take_all (length text - 1) (drop 1 text) (omega (arith, length-drop 1 text))

pub minus_shape : (text : List ℕ) → is_int text ≡ true → length text ≤ 18 → get_or text 0 0 ≡ 45 → MinusShape text
minus_shape text h short e =
    let minus : eqb (get_or text 0 0) 45 ≡ true = rw e refl in
    let whole = whole_rest text in
    let are = minus_digits text h minus in
    let under : digits_value 10 (drop 1 text) < 1000000000000000000 = few_digits (drop 1 text) are (omega (arith, length-drop 1 text)) in
    let below : (v : ℕ) → v ≡ digits_value 10 (take (length text - 1) (drop 1 text)) → v < 1000000000000000000 = λ v is. subst (λ (n : ℕ). n < 1000000000000000000) (sym (is ∙ ap (digits_value 10) whole)) under in
    record {
      digits = subst (AllDigits 10) (sym whole) are;
      few = below;
      fits = λ v is. rw (few_back v (below v is)) (minus_fits v (below v is));
      value = λ v is. rw (few_back v (below v is)) (minus_back v (below v is) ∙ ap (λ (n : ℕ). neg_ℤ (pos n)) (is ∙ ap (digits_value 10) whole) ∙ sym (minus_value text minus));
    }

-- the digits with none
pub record PlainShape (text : List ℕ) : Type 0 where
  pub digits : AllDigits 10 text
  pub few : (v : ℕ) → v ≡ digits_value 10 text → v < 1000000000000000000
  pub value : (v : ℕ) → v ≡ digits_value 10 text → to_z w64 v ≡ int_value text

pub plain_shape : (text : List ℕ) → is_int text ≡ true → length text ≤ 18 → (get_or text 0 0 ≡ 45 → ⊥) → PlainShape text
plain_shape text h short other =
    let none = ne_eqb (get_or text 0 0) 45 other in
    let are = plain_digits text h none in
    let below : (v : ℕ) → v ≡ digits_value 10 text → v < 1000000000000000000 = λ v is. subst (λ (n : ℕ). n < 1000000000000000000) (sym is) (few_digits text are short) in
    record {
      digits = are;
      few = below;
      value = λ v is. few_back v (below v is) ∙ ap (λ (n : ℕ). let z : ℤ = pos n in z) is ∙ sym (plain_value text h none);
    }

same_bool : (b : Bool) → (b ≡ true → ⊥) → b ≡ false
same_bool true h = absurd (h refl)
same_bool false h = refl

fits_is : (z : ℤ) → FitsSigned w64 z → fits z ≡ true
fits_is (pos n) h = lt-ltb n (2 ^ 63) h.sfits
fits_is (negsuc n) h = lt-ltb n (2 ^ 63) (let g = h.sfits in omega arith)

is_fits : (z : ℤ) → fits z ≡ true → FitsSigned w64 z
is_fits (pos n) h = record { sfits = ltb-true n (2 ^ 63) h }
is_fits (negsuc n) h = record { sfits = ltb-true n (2 ^ 63) h }

-- a text's number, as it is parsed
pub number_given : {E : Type 0} (text : List ℕ) (r : Result ℤ E) (o : Option ℤ) (given : Result ℤ ReadFault) → is_int text ≡ true → ParsesSigned w64 10 text r → o ≡ result_ok r → given ≡ ok_or o faults.Limit
    → Gives (λ x. x) given (number_of (int_value text))
unfolding number_of
number_given text (Ok x) o given h p e g = let is_value : x ≡ int_value text = p.1 in rw (g, e, fits_is (int_value text) p.0.1) (ap (λ (y : ℤ). let made : Result ℤ ReadFault = Ok y in made) (sym is_value))
number_given text (Err x) o given h p e g = rw (g, e, same_bool (fits (int_value text)) (λ f. p (numeral text h, is_fits (int_value text) f))) refl

-- a number that 64 signed bits have room for
pub number_self : (z r : ℤ) → z ≡ r → FitsSigned w64 r → number_of z ≡ Ok (to_z w64 (of_z w64 r))
unfolding number_of
number_self z r e f = rw (e, fits_is r f, to_z-of_z w64 r f) refl

chosen_number : (b : Bool) (z x : ℤ) → (let r : Result ℤ ReadFault = cond b (Ok z) (Err faults.Limit) in r) ≡ Ok x → (b ≡ true) × (z ≡ x)
chosen_number true z x e = (refl, cc)
chosen_number false z x e = absurd cc

pub number_is : (z x : ℤ) → number_of z ≡ Ok x → (fits z ≡ true) × (z ≡ x)
unfolding number_of
number_is z x e = chosen_number (fits z) z x e

not_small : (n : ℕ) → (n < 2 ^ 32 → ⊥) → nat_lt n (2 ^ 32) ≡ false
not_small n h = same_bool (nat_lt n (2 ^ 32)) (λ e. h (ltb-true n (2 ^ 32) e))

-- a number's count, as it is cut to 32 bits
count_cut : {E : Type 0} (z : ℤ) (r : Result ℕ E) (o : Option ℕ) (given : Result ℕ ReadFault) → OkIff r (FitsUnsignedBits 32 z) (unsigned_abs z) → o ≡ result_ok r → given ≡ ok_or o faults.Limit
    → Gives (λ x. x) given (count_of z)
unfolding count_of
count_cut (pos n) (Ok x) o given h e g = rw (g, e, lt-ltb n (2 ^ 32) h.0) (ap (λ (y : ℕ). let made : Result ℕ ReadFault = Ok y in made) (sym h.1))
count_cut (pos n) (Err x) o given h e g = rw (g, e, not_small n h) refl
count_cut (negsuc n) (Ok x) o given h e g = absurd (h.0)
count_cut (negsuc n) (Err x) o given h e g = rw (g, e) refl

pub count_given : {E : Type 0} (z number : ℤ) (r : Result ℕ E) (o : Option ℕ) (given : Result ℕ ReadFault) → number_of z ≡ Ok number → OkIff r (FitsUnsignedBits 32 number) (unsigned_abs number) → o ≡ result_ok r → given ≡ ok_or o faults.Limit
    → Gives (λ x. x) given (count_of z)
count_given z number r o given is h e g = subst (λ (y : ℤ). Gives (λ x. x) given (count_of y)) (sym (number_is z number is).1) (count_cut number r o given h e g)

not_chosen : (b : Bool) (z : ℤ) (e : ReadFault) → (let r : Result ℤ ReadFault = cond b (Ok z) (Err faults.Limit) in r) ≡ Err e → (b ≡ false) × (faults.Limit ≡ e)
not_chosen true z e h = absurd cc
not_chosen false z e h = (refl, cc)

no_number : (z : ℤ) → fits z ≡ false → count_of z ≡ Err faults.Limit
unfolding count_of
no_number (pos n) h = rw (not_small n (λ lt. absurd (let e = lt-ltb n (2 ^ 63) (omega arith) in cc))) refl
no_number (negsuc n) h = refl

-- where there is no number there is no count
pub count_fails : (e : ReadFault) (z : ℤ) → Fails e (number_of z) → Fails e (count_of z)
unfolding number_of
count_fails faults.TooLong z h = absurd (let p = (not_chosen (fits z) z faults.TooLong h).1 in cc)
count_fails faults.BadByte z h = absurd (let p = (not_chosen (fits z) z faults.BadByte h).1 in cc)
count_fails faults.Shape z h = absurd (let p = (not_chosen (fits z) z faults.Shape h).1 in cc)
count_fails faults.Name z h = absurd (let p = (not_chosen (fits z) z faults.Name h).1 in cc)
count_fails faults.Limit z h = no_number z (not_chosen (fits z) z faults.Limit h).0
count_fails faults.Memory z h = tt
count_fails faults.Broken z h = absurd (let p = (not_chosen (fits z) z faults.Broken h).1 in cc)

-- a number that is given is the same in 64 signed bits
pub number_back : (z x : ℤ) → number_of z ≡ Ok x → to_z w64 (of_z w64 x) ≡ x
number_back z x e = let p = number_is z x e in to_z-of_z w64 x (subst (λ (y : ℤ). FitsSigned w64 y) p.1 (is_fits z p.0))

-- What names and integers are as texts, and the texts of numbers.
use Rattle.std.proofs.Common.{◌≡◌, ◌∙◌, ℕ, zero, suc, ◌<◌, ◌≤◌, ◌^◌, Bool, true, false, not, cond, eqb, leb, ◌&&◌, ◌||◌, List, [], ◌∷◌, length, get_or, Result, Ok, Err, ◌⊎◌, refl, sym, ap, subst, arith, lit<, inl, inr}
use Rattle.std.specs.Prelude.{ℤ, pos, negsuc, FitsSigned, nat_lt}
use lib.IntN.{neg_ℤ}
use Rattle.std.specs.Int.{w64}
use Rattle.std.specs.Char.{is_ascii_digit, is_ascii_alphabetic, digit_value}
use Rattle.std.specs.Fmt.{decimal, signed_decimal}
use Rattle.std.specs.List.{list_all}
use Rattle.std.specs.Str.{IsAscii}
use Rattle.std.specs.Str.Parse.{AllDigits, IsNumeral, digits_value, starts_with_minus, ParsesUnsigned, without_leading_plus}
use Rattle.std.proofs.lemmas.Bool.{and_parts, and_from, ne_eqb, eqb-true, leb-true, ltb-true, lt-ltb}
use Rattle.std.proofs.lemmas.Bool.Decides.{eqb_tells, nat_tests}
use Rattle.std.proofs.lemmas.Fmt.{decimal_is_IsNumeral, decimal_digit, first_decimal, decimal-digits_value}
use Rattle.std.proofs.lemmas.Str.Parse.{IsNumeralModel, digit_from_value}
use Rattle.txn_programs.specs.Arithmetic.{fits}
use Rattle.txn_programs.specs.Names.{is_name, is_name_byte}
use Rattle.text_words.specs.Bytes.{is_int, is_positive, int_value}
use Rattle.text_words.proofs.Ascii.{int_is_ascii}
use Rattle.text_words.proofs.Numerals.{positive}
use Rattle.text_words.specs.declared.fault.ReadFault.{ReadFault}
use Rattle.text_words.specs.declared.fault.ReadFault.TheVariants.{Limit}
use Rattle.text_line_reader.specs.Words.{is_number}
use Rattle.text_line_reader.specs.Counts.{below}
use Rattle.text_line_reader.proofs.Parting.{lacks}

pub number_is_int : (text : List ℕ) → is_number text ≡ true → is_int text ≡ true
number_is_int text h = (and_parts (not (starts_with_minus text)) (is_int text) h).1

pub number_is_ascii : (text : List ℕ) → is_number text ≡ true → IsAscii text
number_is_ascii text h = int_is_ascii text (number_is_int text h)

not_true : (b : Bool) → not b ≡ true → b ≡ false
not_true true h = absurd cc
not_true false h = refl

empty : (cs : List ℕ) → eqb (length cs) 0 ≡ true → cs ≡ []
empty [] h = refl
empty (c ∷ cs) h = absurd (omega (arith, eqb-true (suc (length cs)) 0 h))

-- ---- an integer is 0, or positive, or a minus and positive

number_cases : (text : List ℕ) → is_number text ≡ true → (text ≡ 48 ∷ []) ⊎ (is_positive text ≡ true)
unfolding is_int
number_cases [] h = absurd cc
number_cases (c ∷ cs) h =
    let p = and_parts (not (eqb c 45)) (is_int (c ∷ cs)) h in
    elim (eqb_tells c 48) [
      | inl e ↦
          let g : eqb (length cs) 0 ≡ true = rw e.0 at p.1 in
          inl (ap (λ (d : ℕ). d ∷ cs) e.1 ∙ ap (λ (ds : List ℕ). 48 ∷ ds) (empty cs g))
      | inr e ↦ inr (let n = not_true (eqb c 45) p.0 in rw (e.0, n) at p.1)
    ]

-- a minus and a positive number
record IsNegative (text : List ℕ) : Type 0 where
  digits : List ℕ
  whole : text ≡ 45 ∷ digits
  positive : is_positive digits ≡ true

int_cases : (text : List ℕ) → is_int text ≡ true → (is_number text ≡ true) ⊎ IsNegative text
unfolding is_int
int_cases [] h = absurd cc
int_cases (c ∷ cs) h =
    elim (eqb_tells c 45) [
      | inl e ↦
          let g : is_int (45 ∷ cs) ≡ true = subst (λ (d : ℕ). is_int (d ∷ cs) ≡ true) e.1 h in
          inr (record { digits = cs; whole = ap (λ (d : ℕ). d ∷ cs) e.1; positive = g })
      | inr e ↦ inl (and_from _ _ (ap not e.0) h)
    ]

-- ---- what is written is what its value is written as

own : IsNumeralModel (AllDigits 10) (digits_value 10)
own = record { to = λ ds h. h; from = λ ds h. h; same = λ ds h. refl }

positive_written : (cs : List ℕ) → is_positive cs ≡ true → digits_value 10 cs < 2 ^ 64 → decimal (digits_value 10 cs) ≡ cs
positive_written cs h lt =
    let p = positive cs h in
    decimal-digits_value own cs p.0.1 p.0.0 (λ e. absurd (let low = p.1 in omega arith)) lt

pub number_written : (text : List ℕ) → is_number text ≡ true → digits_value 10 text < 2 ^ 64 → decimal (digits_value 10 text) ≡ text
number_written text h lt =
    elim (number_cases text h) [
      | inl e ↦ subst (λ (ds : List ℕ). decimal (digits_value 10 ds) ≡ ds) (sym e) (decimal_digit 0 (lit< tt))
      | inr p ↦ positive_written text p lt
    ]

-- the first byte is a digit
number_first : (text : List ℕ) → is_number text ≡ true → (48 ≤ get_or text 0 0) × (get_or text 0 0 < 58)
number_first text h =
    elim (number_cases text h) [
      | inl e ↦ subst (λ (ds : List ℕ). (48 ≤ get_or ds 0 0) × (get_or ds 0 0 < 58)) (sym e) (omega arith, omega arith)
      | inr p ↦ let d = positive text p in let low = d.1 in (omega arith, d.2)
    ]

unsigned : (text : List ℕ) → is_number text ≡ true → without_leading_plus text ≡ text
unsigned text h =
    let low = (number_first text h).0 in
    let no_plus : eqb (get_or text 0 0) 43 ≡ false = ne_eqb (get_or text 0 0) 43 (λ e. absurd (omega arith)) in
    rw no_plus refl

pub number_value : (text : List ℕ) → is_number text ≡ true → int_value text ≡ pos (digits_value 10 text)
number_value text h =
    let low = (number_first text h).0 in
    let no_minus : eqb (get_or text 0 0) 45 ≡ false = ne_eqb (get_or text 0 0) 45 (λ e. absurd (omega arith)) in
    let no_plus : eqb (get_or text 0 0) 43 ≡ false = ne_eqb (get_or text 0 0) 43 (λ e. absurd (omega arith)) in
    rw (no_minus, no_plus) refl

minus_written : (n : ℕ) (cs : List ℕ) → decimal n ≡ cs → 48 < get_or cs 0 0 → signed_decimal (neg_ℤ (pos n)) ≡ 45 ∷ cs
minus_written zero cs e low = absurd (let first : get_or cs 0 0 ≡ 48 = ap (λ (ds : List ℕ). get_or ds 0 0) (sym e ∙ decimal_digit 0 (lit< tt)) in omega arith)
minus_written (suc n) cs e low = ap (λ (ds : List ℕ). 45 ∷ ds) e

minus_bound : (n : ℕ) → fits (neg_ℤ (pos n)) ≡ true → n < 2 ^ 64
minus_bound zero h = omega arith
minus_bound (suc n) h = let lt = ltb-true n (2 ^ 63) h in omega arith

pub int_written : (text : List ℕ) → is_int text ≡ true → fits (int_value text) ≡ true → signed_decimal (int_value text) ≡ text
int_written text h f =
    elim (int_cases text h) [
      | inl n ↦
          let v = number_value text n in
          let g : fits (pos (digits_value 10 text)) ≡ true = subst (λ (z : ℤ). fits z ≡ true) v f in
          let lt : digits_value 10 text < 2 ^ 63 = ltb-true _ _ g in
          ap signed_decimal v ∙ number_written text n (omega arith)
      | inr m ↦
          let w = m.whole in
          let g : fits (neg_ℤ (pos (digits_value 10 m.digits))) ≡ true = subst (λ (ds : List ℕ). fits (int_value ds) ≡ true) w f in
          let lt = minus_bound (digits_value 10 m.digits) g in
          subst (λ (ds : List ℕ). signed_decimal (int_value ds) ≡ ds) (sym w) (minus_written (digits_value 10 m.digits) m.digits (positive_written m.digits m.positive lt) (positive m.digits m.positive).1)
    ]

-- ---- what is printed is an integer of its value

ascii_digit : (c : ℕ) → digit_value c < 10 → is_ascii_digit c ≡ true
ascii_digit c h = let r = digit_from_value c h in let low = r.0 in let high = r.1 in grind (arith, nat_tests)

ascii_digits : (cs : List ℕ) → AllDigits 10 cs → list_all is_ascii_digit cs ≡ true
ascii_digits [] h = refl
ascii_digits (c ∷ cs) h = and_from _ _ (ascii_digit c h.0) (ascii_digits cs h.1)

positive_digits : (ds : List ℕ) → 0 < length ds → AllDigits 10 ds → 48 < get_or ds 0 0 → is_positive ds ≡ true
unfolding is_positive
positive_digits [] some h first = absurd (omega arith)
positive_digits (c ∷ cs) some h first =
    let high = (digit_from_value c h.0).1 in
    let begins : (leb 49 c && leb c 57) ≡ true = grind (arith, nat_tests) in
    and_from _ _ begins (ascii_digits cs h.1)

positive_number : (ds : List ℕ) → is_positive ds ≡ true → is_number ds ≡ true
unfolding is_int is_positive
positive_number [] h = absurd cc
positive_number (c ∷ cs) h =
    let p = and_parts (leb 49 c && leb c 57) (list_all is_ascii_digit cs) h in
    let low = leb-true 49 c (and_parts (leb 49 c) (leb c 57) p.0).0 in
    let no_zero : eqb c 48 ≡ false = ne_eqb c 48 (λ e. absurd (omega arith)) in
    let no_minus : eqb c 45 ≡ false = ne_eqb c 45 (λ e. absurd (omega arith)) in
    rw (no_zero, no_minus) h

zero_number : is_number (48 ∷ []) ≡ true
unfolding is_int
zero_number = refl

decimal_positive : (n : ℕ) → 0 < n → n < 2 ^ 64 → is_positive (decimal n) ≡ true
decimal_positive n some lt = let m = decimal_is_IsNumeral n lt in positive_digits (decimal n) m.0.0 m.0.1 (first_decimal n some lt)

pub decimal_number : (n : ℕ) → n < 2 ^ 64 → is_number (decimal n) ≡ true
decimal_number zero lt = subst (λ (ds : List ℕ). is_number ds ≡ true) (sym (decimal_digit 0 (lit< tt))) zero_number
decimal_number (suc n) lt = positive_number (decimal (suc n)) (decimal_positive (suc n) (omega arith) lt)

pub decimal_value : (n : ℕ) → n < 2 ^ 64 → digits_value 10 (decimal n) ≡ n
decimal_value n lt = (decimal_is_IsNumeral n lt).1

minus_int : (ds : List ℕ) → is_positive ds ≡ true → is_int (45 ∷ ds) ≡ true
unfolding is_int
minus_int ds h = h

pub int_printed : (z : ℤ) → FitsSigned w64 z → is_int (signed_decimal z) ≡ true
int_printed (pos n) h = number_is_int (decimal n) (decimal_number n (omega arith))
int_printed (negsuc n) h = minus_int (decimal (suc n)) (decimal_positive (suc n) (omega arith) (omega arith))

pub printed_value : (z : ℤ) → FitsSigned w64 z → int_value (signed_decimal z) ≡ z
printed_value (pos n) h = number_value (decimal n) (decimal_number n (omega arith)) ∙ ap pos (decimal_value n (omega arith))
printed_value (negsuc n) h = ap (λ (k : ℕ). neg_ℤ (pos k)) (decimal_value (suc n) (omega arith))

-- ---- no word has a space or a newline

-- no such byte
lacks_by : (p : ℕ → Bool) (sep : ℕ) → p sep ≡ false → (bs : List ℕ) → list_all p bs ≡ true → lacks sep bs ≡ true
lacks_by p sep none [] h = refl
lacks_by p sep none (b ∷ bs) h =
    let q = and_parts (p b) (list_all p bs) h in
    elim (eqb_tells b sep) [
      | inl e ↦ absurd (let yes : p sep ≡ true = subst (λ (c : ℕ). p c ≡ true) e.1 q.0 in cc)
      | inr e ↦ rw e.0 (lacks_by p sep none bs q.1)
    ]

pub name_bytes : (text : List ℕ) → is_name text ≡ true → list_all is_name_byte text ≡ true
unfolding is_name
name_bytes [] h = refl
name_bytes (b ∷ bs) h =
    let p = and_parts (is_ascii_alphabetic b) (list_all is_name_byte bs) h in
    and_from _ _ (ap (λ (t : Bool). t || (is_ascii_digit b || eqb b 95)) p.0) p.1

pub name_lacks : (sep : ℕ) → is_name_byte sep ≡ false → (text : List ℕ) → is_name text ≡ true → lacks sep text ≡ true
name_lacks sep none text h = lacks_by is_name_byte sep none text (name_bytes text h)

abbrev pub is_int_byte : ℕ → Bool
is_int_byte b = is_ascii_digit b || eqb b 45

digit_bytes : (bs : List ℕ) → list_all is_ascii_digit bs ≡ true → list_all is_int_byte bs ≡ true
digit_bytes [] h = refl
digit_bytes (b ∷ bs) h =
    let p = and_parts (is_ascii_digit b) (list_all is_ascii_digit bs) h in
    and_from _ _ (ap (λ (t : Bool). t || eqb b 45) p.0) (digit_bytes bs p.1)

pub int_bytes : (text : List ℕ) → is_int text ≡ true → list_all is_int_byte text ≡ true
int_bytes text h =
    elim (int_cases text h) [
      | inl n ↦ elim (number_cases text n) [
        | inl e ↦ subst (λ (ds : List ℕ). list_all is_int_byte ds ≡ true) (sym e) refl
        | inr p ↦ digit_bytes text (ascii_digits text (positive text p).0.1)
      ]
      | inr m ↦ subst (λ (ds : List ℕ). list_all is_int_byte ds ≡ true) (sym m.whole) (digit_bytes m.digits (ascii_digits m.digits (positive m.digits m.positive).0.1))
    ]

pub int_lacks : (sep : ℕ) → is_int_byte sep ≡ false → (text : List ℕ) → is_int text ≡ true → lacks sep text ≡ true
int_lacks sep none text h = lacks_by is_int_byte sep none text (int_bytes text h)

pub number_lacks : (sep : ℕ) → is_int_byte sep ≡ false → (text : List ℕ) → is_number text ≡ true → lacks sep text ≡ true
number_lacks sep none text h = int_lacks sep none text (number_is_int text h)

-- ---- a number below a bound, as it is parsed

not_below : (n bound : ℕ) → bound ≤ n → nat_lt n bound ≡ false
not_below n bound h = grind (arith, nat_tests)

pub below_is : (bound n : ℕ) → n < bound → below bound n ≡ Ok n
unfolding below
below_is bound n lt = rw (lt-ltb n bound lt) refl

pub below_not : (bound n : ℕ) → bound ≤ n → below bound n ≡ Err Limit
unfolding below
below_not bound n le = rw (not_below n bound le) refl

pub parsed : {E : Type 0} (text : List ℕ) (r : Result ℕ E) (n : ℕ) → is_number text ≡ true → ParsesUnsigned 64 10 text r → r ≡ Ok n → digits_value 10 text ≡ n
parsed text (Ok x) n h p e = let v : x ≡ digits_value 10 (without_leading_plus text) = p.1 in ap (digits_value 10) (sym (unsigned text h)) ∙ sym v ∙ cc
parsed text (Err x) n h p e = absurd cc

pub unparsed : {E : Type 0} (text : List ℕ) (r : Result ℕ E) (e : E) → is_number text ≡ true → ParsesUnsigned 64 10 text r → r ≡ Err e → 2 ^ 64 ≤ digits_value 10 text
unparsed text (Ok x) d h p e = absurd cc
unparsed text (Err x) d h p e =
    let same = unsigned text h in
    let bad : (IsNumeral 10 text × (digits_value 10 text < 2 ^ 64)) → ⊥ = subst (λ (ds : List ℕ). (IsNumeral 10 ds × (digits_value 10 ds < 2 ^ 64)) → ⊥) same p in
    large (digits_value 10 text) (2 ^ 64) (λ lt. bad (is_numeral text h, lt))
  where
    large : (n m : ℕ) → (n < m → ⊥) → m ≤ n
    large n m high = omega (arith, high)

    is_numeral : (ds : List ℕ) → is_number ds ≡ true → IsNumeral 10 ds
    is_numeral ds n = elim (number_cases ds n) [
      | inl e ↦ subst (λ (t : List ℕ). IsNumeral 10 t) (sym e) (lit< tt, (lit< tt, tt))
      | inr q ↦ (positive ds q).0
    ]

chosen_below : (b : Bool) (n m : ℕ) → (let r : Result ℕ ReadFault = cond b (Ok n) (Err Limit) in r) ≡ Ok m → (b ≡ true) × (n ≡ m)
chosen_below true n m e = (refl, cc)
chosen_below false n m e = absurd cc

-- a number that is given is the number, below the bound
pub below_gives : (bound n m : ℕ) → below bound n ≡ Ok m → (n ≡ m) × (m < bound)
unfolding below
below_gives bound n m e =
    let c = chosen_below (nat_lt n bound) n m e in
    let lt = ltb-true n bound c.0 in
    let same = c.1 in
    (same, omega arith)

-- Names and printed integers are atoms, each of its token.
use Rattle.std.proofs.Common.{◌≡◌, ◌∙◌, ℕ, zero, suc, ◌<◌, ◌^◌, Bool, true, false, not, eqb, leb, ◌&&◌, ◌||◌, List, [], ◌∷◌, length, get_or, refl, sym, ap, subst, arith, lit<, inl, inr}
use Rattle.std.specs.Prelude.{ℤ, pos, negsuc, FitsSigned}
use lib.IntN.{neg_ℤ}
use Rattle.std.specs.Int.{w64}
use Rattle.std.specs.Fmt.{decimal, signed_decimal}
use Rattle.std.specs.Str.Parse.{AllDigits, digits_value}
use Rattle.std.specs.Char.{is_ascii_digit, is_ascii_alphabetic, digit_value}
use Rattle.std.specs.List.{list_all}
use Rattle.std.proofs.lemmas.Bool.{and_parts, and_from, ne_eqb}
use Rattle.std.proofs.lemmas.Bool.Decides.{eqb_tells, nat_tests}
use Rattle.std.proofs.lemmas.Fmt.{decimal_is_IsNumeral, decimal_digit, first_decimal}
use Rattle.std.proofs.lemmas.Str.Parse.{digit_from_value}
use Rattle.txn_programs.specs.Names.{is_name_byte, is_name}
use Rattle.text_words.specs.Bytes.{is_allowed, is_atom_byte, is_positive, is_int, int_value}
use Rattle.text_words.specs.Tokens.{Lexeme, atom}
use Rattle.text_words.specs.Tokens as token
use Rattle.text_file_printer.proofs.Spelled.{IsWord}

-- ---- bytes

-- the test fails only where the next one passes
abbrev implies : Bool → Bool → Bool
implies a b = not a || b

follows : (a b : Bool) → implies a b ≡ true → a ≡ true → b ≡ true
follows true b h e = h
follows false b h e = absurd (cc)

-- a test of each number below a bound
abbrev below_all : (ℕ → Bool) → ℕ → Bool
below_all p zero = true
below_all p (suc n) = p n && below_all p n

below_one : (p : ℕ → Bool) (n b : ℕ) → below_all p n ≡ true → b < n → p b ≡ true
below_one p zero b h lt = absurd (omega arith)
below_one p (suc n) b h lt =
    let parts = and_parts (p n) (below_all p n) h in
    elim (eqb_tells b n) [
      | inl e ↦ subst (λ (k : ℕ). p k ≡ true) (sym e.1) parts.0
      | inr e ↦ let ne = e.1 in below_one p n b parts.1 (omega arith)
    ]

abbrev plain : ℕ → Bool
plain b = is_atom_byte b && is_allowed b

name_byte_small : (b : ℕ) → is_name_byte b ≡ true → b < 128
name_byte_small b h = grind (arith, nat_tests)

name_byte_plain : (b : ℕ) → is_name_byte b ≡ true → plain b ≡ true
name_byte_plain b h = follows (is_name_byte b) (plain b) (below_one (λ k. implies (is_name_byte k) (plain k)) 128 b refl (name_byte_small b h)) h

all_follow : (p q : ℕ → Bool) → ((b : ℕ) → p b ≡ true → q b ≡ true) → (bs : List ℕ) → list_all p bs ≡ true → list_all q bs ≡ true
all_follow p q one [] h = refl
all_follow p q one (b ∷ bs) h =
    let parts = and_parts (p b) (list_all p bs) h in
    and_from _ _ (one b parts.0) (all_follow p q one bs parts.1)

plain_atom : (b : ℕ) → plain b ≡ true → is_atom_byte b ≡ true
plain_atom b h = (and_parts (is_atom_byte b) (is_allowed b) h).0

plain_allowed : (b : ℕ) → plain b ≡ true → is_allowed b ≡ true
plain_allowed b h = (and_parts (is_atom_byte b) (is_allowed b) h).1

-- bytes that are all plain make a word of their token
plain_word : (text : List ℕ) (t : Lexeme) → 0 < length text → list_all plain text ≡ true → atom text ≡ t → IsWord text t
plain_word text t some h read =
    record {
      some = some;
      bytes = all_follow plain is_atom_byte plain_atom text h;
      allowed = all_follow plain is_allowed plain_allowed text h;
      read = read;
    }

-- ---- names

atom_name : (text : List ℕ) → is_name text ≡ true → atom text ≡ token.Name text
unfolding atom
atom_name text h = rw h refl

name_plain : (text : List ℕ) → is_name text ≡ true → (0 < length text) × (list_all plain text ≡ true)
unfolding is_name
name_plain [] h = absurd (cc)
name_plain (b ∷ bs) h =
    let parts = and_parts (is_ascii_alphabetic b) (list_all is_name_byte bs) h in
    let first : is_name_byte b ≡ true = ap (λ (t : Bool). t || (is_ascii_digit b || eqb b 95)) parts.0 in
    (omega arith, and_from _ _ (name_byte_plain b first) (all_follow is_name_byte plain name_byte_plain bs parts.1))

pub name_word : (text : List ℕ) → is_name text ≡ true → IsWord text (token.Name text)
name_word text h = let p = name_plain text h in plain_word text (token.Name text) p.0 p.1 (atom_name text h)

-- ---- integers

atom_int : (text : List ℕ) → is_name text ≡ false → is_int text ≡ true → atom text ≡ token.Int (int_value text)
unfolding atom
atom_int text h k = rw (h, k) refl

abbrev in_digits : ℕ → Bool
in_digits b = leb 48 b && leb b 57

abbrev is_figure : ℕ → Bool
is_figure b = is_ascii_digit b && (plain b && not (is_ascii_alphabetic b))

figure : (b : ℕ) → digit_value b < 10 → is_figure b ≡ true
figure b h =
    let r = digit_from_value b h in
    let low = r.0 in
    let high = r.1 in
    let inside : in_digits b ≡ true = grind (arith, nat_tests) in
    follows (in_digits b) (is_figure b) (below_one (λ k. implies (in_digits k) (is_figure k)) 128 b refl (omega arith)) inside

figure_digit : (b : ℕ) → is_figure b ≡ true → is_ascii_digit b ≡ true
figure_digit b h = (and_parts (is_ascii_digit b) (plain b && not (is_ascii_alphabetic b)) h).0

figure_plain : (b : ℕ) → is_figure b ≡ true → plain b ≡ true
figure_plain b h = (and_parts (plain b) (not (is_ascii_alphabetic b)) (and_parts (is_ascii_digit b) (plain b && not (is_ascii_alphabetic b)) h).1).0

not_true : (b : Bool) → not b ≡ true → b ≡ false
not_true true h = absurd (cc)
not_true false h = refl

figure_no_letter : (b : ℕ) → is_figure b ≡ true → is_ascii_alphabetic b ≡ false
figure_no_letter b h = not_true _ (and_parts (plain b) (not (is_ascii_alphabetic b)) (and_parts (is_ascii_digit b) (plain b && not (is_ascii_alphabetic b)) h).1).1

figures : (bs : List ℕ) → AllDigits 10 bs → list_all is_figure bs ≡ true
figures [] h = refl
figures (b ∷ bs) h = and_from _ _ (figure b h.0) (figures bs h.1)

-- digits that do not begin with a 0
pub record IsPlainNumber (ds : List ℕ) (n : ℕ) : Type 0 where
  pub some : 0 < length ds
  pub digits : AllDigits 10 ds
  pub first : 48 < get_or ds 0 0
  pub value : digits_value 10 ds ≡ n

plain_number : (n : ℕ) → 0 < n → n < 2 ^ 64 → IsPlainNumber (decimal n) n
plain_number n some lt =
    let m = decimal_is_IsNumeral n lt in
    record { some = m.0.0; digits = m.0.1; first = first_decimal n some lt; value = m.1 }

number_positive : (ds : List ℕ) (n : ℕ) → IsPlainNumber ds n → is_positive ds ≡ true
unfolding is_positive
number_positive [] n p = absurd (let h = p.some in omega arith)
number_positive (c ∷ cs) n p =
    let first = p.first in
    let high = (digit_from_value c p.digits.0).1 in
    let begins : (leb 49 c && leb c 57) ≡ true = grind (arith, nat_tests) in
    and_from _ _ begins (all_follow is_figure is_ascii_digit figure_digit cs (figures cs p.digits.1))

number_no_name : (ds : List ℕ) (n : ℕ) → IsPlainNumber ds n → is_name ds ≡ false
unfolding is_name
number_no_name [] n p = refl
number_no_name (c ∷ cs) n p = ap (λ (t : Bool). t && list_all is_name_byte cs) (figure_no_letter c (figure c p.digits.0))

number_int : (ds : List ℕ) (n : ℕ) → IsPlainNumber ds n → is_int ds ≡ true
unfolding is_int
number_int [] n p = absurd (let h = p.some in omega arith)
number_int (c ∷ cs) n p =
    let first = p.first in
    let no_zero : eqb c 48 ≡ false = ne_eqb c 48 (λ e. absurd (omega arith)) in
    let no_minus : eqb c 45 ≡ false = ne_eqb c 45 (λ e. absurd (omega arith)) in
    rw (no_zero, no_minus) (number_positive (c ∷ cs) n p)

number_value : (ds : List ℕ) (n : ℕ) → IsPlainNumber ds n → int_value ds ≡ pos n
number_value ds n p =
    let first = p.first in
    let no_minus : eqb (get_or ds 0 0) 45 ≡ false = ne_eqb (get_or ds 0 0) 45 (λ e. absurd (omega arith)) in
    let no_plus : eqb (get_or ds 0 0) 43 ≡ false = ne_eqb (get_or ds 0 0) 43 (λ e. absurd (omega arith)) in
    rw (no_minus, no_plus) (ap pos p.value)

number_word : (ds : List ℕ) (n : ℕ) → IsPlainNumber ds n → IsWord ds (token.Int (pos n))
number_word ds n p =
    plain_word ds (token.Int (pos n)) p.some (all_follow is_figure plain figure_plain ds (figures ds p.digits))
    (atom_int ds (number_no_name ds n p) (number_int ds n p) ∙ ap token.Int (number_value ds n p))

minus_no_name : (ds : List ℕ) → is_name (45 ∷ ds) ≡ false
unfolding is_name
minus_no_name ds = refl

minus_int : (ds : List ℕ) → is_positive ds ≡ true → is_int (45 ∷ ds) ≡ true
unfolding is_int
minus_int ds h = h

minus_word : (ds : List ℕ) (n : ℕ) → IsPlainNumber ds (suc n) → IsWord (45 ∷ ds) (token.Int (negsuc n))
minus_word ds n p =
    let value : int_value (45 ∷ ds) ≡ negsuc n = ap (λ (k : ℕ). neg_ℤ (pos k)) p.value in
    plain_word (45 ∷ ds) (token.Int (negsuc n)) (omega arith) (and_from _ _ refl (all_follow is_figure plain figure_plain ds (figures ds p.digits)))
    (atom_int (45 ∷ ds) (minus_no_name ds) (minus_int ds (number_positive ds (suc n) p)) ∙ ap token.Int value)

zero_no_name : is_name (48 ∷ []) ≡ false
unfolding is_name
zero_no_name = refl

zero_int : is_int (48 ∷ []) ≡ true
unfolding is_int
zero_int = refl

zero_word : IsWord (48 ∷ []) (token.Int (pos 0))
zero_word = plain_word (48 ∷ []) (token.Int (pos 0)) (omega arith) refl (atom_int (48 ∷ []) zero_no_name zero_int)

-- a printed integer is an atom of its value
pub int_word : (z : ℤ) → FitsSigned w64 z → IsWord (signed_decimal z) (token.Int z)
int_word (pos zero) h = subst (λ (ds : List ℕ). IsWord ds (token.Int (pos 0))) (sym (decimal_digit 0 (lit< tt))) zero_word
int_word (pos (suc n)) h = number_word (decimal (suc n)) (suc n) (plain_number (suc n) (omega arith) (omega arith))
int_word (negsuc n) h = minus_word (decimal (suc n)) n (plain_number (suc n) (omega arith) (omega arith))

-- Values and counts: what is told of a word is written as it, and what is written is told.
use Rattle.std.proofs.Common.{◌≡◌, ◌∙◌, ℕ, ◌+◌, ◌<◌, ◌≤◌, ◌^◌, true, List, Ok, refl, sym, ap, subst, arith}
use Rattle.std.specs.Prelude.{ℤ, pos, negsuc, FitsSigned}
use Rattle.std.specs.Int.{w64}
use Rattle.std.specs.Fmt.{decimal, signed_decimal}
use Rattle.std.specs.Str.Parse.{digits_value}
use Rattle.std.proofs.lemmas.Bool.{lt-ltb, ltb-true}
use Rattle.txn_programs.specs.Arithmetic.{fits}
use Rattle.txn_programs.specs.declared.limits.TheConstants.{MAX_TASKS}
use Rattle.text_words.specs.Bytes.{is_int, int_value}
use Rattle.text_words.specs.Numbers.{number_of}
use Rattle.text_words.proofs.Numerals.{number_is}
use Rattle.text_line_reader.specs.Words.{is_number}
use Rattle.text_line_reader.specs.Counts.{below}
use Rattle.text_line_reader.specs.ReportResolving.{count_in}
use Rattle.text_line_reader.proofs.Numbers.{number_written, int_written, below_gives, decimal_value, printed_value, below_is}

fits_signed : (z : ℤ) → fits z ≡ true → FitsSigned w64 z
fits_signed (pos n) h = record { sfits = ltb-true n (2 ^ 63) h }
fits_signed (negsuc n) h = record { sfits = ltb-true n (2 ^ 63) h }

-- a value, as it was written
pub record ValueBack (text : List ℕ) (z : ℤ) : Type 0 where
  pub written : signed_decimal z ≡ text
  pub fits : FitsSigned w64 z

pub value_back : (text : List ℕ) (z : ℤ) → is_int text ≡ true → number_of (int_value text) ≡ Ok z → ValueBack text z
value_back text z h e =
    let n = number_is (int_value text) z e in
    record { written = ap signed_decimal (sym n.1) ∙ int_written text h n.0; fits = fits_signed z (subst (λ (y : ℤ). fits y ≡ true) n.1 n.0) }

-- a number or a version, as it was written
pub record CountBack (text : List ℕ) (n : ℕ) : Type 0 where
  pub written : decimal n ≡ text
  pub most : n ≤ MAX_TASKS

pub count_back : (text : List ℕ) (n : ℕ) → is_number text ≡ true → count_in text ≡ Ok n → CountBack text n
count_back text n h e =
    let b = below_gives (MAX_TASKS + 1) (digits_value 10 text) n e in
    let same = b.0 in
    let lt = b.1 in
    let small : digits_value 10 text < 2 ^ 64 = omega arith in
    record { written = ap decimal (sym same) ∙ number_written text h small; most = omega arith }

-- ---- again

fits_is : (z : ℤ) → FitsSigned w64 z → fits z ≡ true
fits_is (pos n) h = lt-ltb n (2 ^ 63) h.sfits
fits_is (negsuc n) h = lt-ltb n (2 ^ 63) (let g = h.sfits in omega arith)

pub value_again : (z : ℤ) → FitsSigned w64 z → number_of (int_value (signed_decimal z)) ≡ Ok z
unfolding number_of
value_again z h = rw (printed_value z h, fits_is z h) refl

pub count_again : (n : ℕ) → n ≤ MAX_TASKS → count_in (decimal n) ≡ Ok n
count_again n h = ap (below (MAX_TASKS + 1)) (decimal_value n (omega arith)) ∙ below_is (MAX_TASKS + 1) n (omega arith)

-- What a catalogue keeps, and the tests that come first.
use Rattle.std.proofs.Common.{◌≡◌, ℕ, ◌≤◌, true, false, length, Result, Ok, Err, refl, ap, arith, ◌⊎◌, inl, inr}
use Rattle.std.specs.Prelude.{nat_lt}
use Rattle.std.proofs.lemmas.Bool.Decides.{nat_tests}
use Rattle.txn_programs.specs.Limits.{limits_hold}
use Rattle.txn_programs.specs.Listing.{Listing, values}
use Rattle.txn_programs.specs.Names.{names_hold}
use Rattle.text_words.specs.Answers.{◌>>=◌}
use Rattle.text_words.specs.declared.fault.ReadFault.{ReadFault}

-- what a catalogue keeps
pub record Rules (l : Listing) : Type 0 where
  pub valued : values l ≡ length l.initial
  pub names : names_hold l ≡ true
  pub limits : limits_hold l ≡ true

pub rules_of : (l : Listing) → values l ≡ length l.initial → names_hold l ≡ true → limits_hold l ≡ true → Rules l
rules_of l valued names limits = record { valued = valued; names = names; limits = limits }

pub at_most : (n m : ℕ) → nat_lt m n ≡ false → n ≤ m
at_most n m h = grind (arith, nat_tests)

pub not_over : (n m : ℕ) → n ≤ m → nat_lt m n ≡ false
not_over n m h = grind (arith, nat_tests)

-- a step that failed, or the first of two
pub failed_in : {A B : Type 0} (r : Result A ReadFault) (f : A → Result B ReadFault) (e : ReadFault) → (r >>= f) ≡ Err e → (r ≡ Err e) ⊎ ((x : A) × (r ≡ Ok x) × (f x ≡ Err e))
failed_in (Ok x) f e h = inr (x, refl, h)
failed_in (Err d) f e h = inl (let s : d ≡ e = cc in ap (λ (k : ReadFault). Err k) s)

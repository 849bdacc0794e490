-- The atom at the front of bytes, as a scan of an integer's bytes finds it.
use Rattle.std.proofs.Common.{◌≡◌, ℕ, suc, ◌+◌, Bool, true, false, eqb, leb, ◌&&◌, List, [], ◌∷◌, drop, take, refl, sym, ap, ◌∙◌, inl, inr, arith, one-add, Option, Some, None}
use Rattle.std.specs.Prelude.{IfNone, IfSome}
use Rattle.std.specs.List.{prefix_len, take_while}
use Rattle.std.specs.Char.{is_ascii_digit}
use Rattle.std.proofs.lemmas.List.Folds.{length-prefix_len}
use Rattle.std.proofs.lemmas.Bool.{eqb-true}
use Rattle.std.proofs.lemmas.Grind.{common_steps}
use Rattle.text_words.specs.Bytes.{is_atom_byte, is_int, is_positive}
use Rattle.text_words.specs.Tokens.{after}
use Rattle.text_words.specs.Fronts.{IsFront}
use Rattle.text_words.proofs.Fronts.{tells, reaches, same_len}

digit_in_atom : (b : ℕ) → is_ascii_digit b ≡ true → is_atom_byte b ≡ true
digit_in_atom b h = grind (arith, common_steps)

first_in_atom : (b : ℕ) → (leb 49 b && leb b 57) ≡ true → is_atom_byte b ≡ true
first_in_atom b h = grind (arith, common_steps)

-- a digit from 1 on, and the digits behind it
pub positive_front : (b : ℕ) (bytes : List ℕ) → (leb 49 b && leb b 57) ≡ true → IsFront is_positive (1 + prefix_len is_ascii_digit bytes) (b ∷ bytes)
unfolding is_positive
positive_front b bytes h =
    record {
      word = rw (first_in_atom b h, one-add (prefix_len is_atom_byte bytes), one-add (prefix_len is_ascii_digit bytes)) (rw h (sym (reaches is_ascii_digit is_atom_byte digit_in_atom bytes)));
      whole = λ stop. rw (first_in_atom b h) (ap (λ k. 1 + k) (same_len is_ascii_digit is_atom_byte digit_in_atom bytes (rw (one-add (prefix_len is_ascii_digit bytes)) at stop)));
    }

pub positive_scanned : (b n : ℕ) (bytes inner : List ℕ) → bytes ≡ b ∷ inner → (leb 49 b && leb b 57) ≡ true → n ≡ prefix_len is_ascii_digit inner → IsFront is_positive (1 + n) bytes
positive_scanned b n bytes inner is h len = rw (is, len) (positive_front b inner h)

pub no_positive : (b : ℕ) (bytes inner : List ℕ) → bytes ≡ b ∷ inner → (leb 49 b && leb b 57) ≡ false → is_positive (take_while is_atom_byte bytes) ≡ false
unfolding is_positive
no_positive b bytes inner is h =
    elim (tells (is_atom_byte b)) [
      | inl g ↦ rw (is, g, one-add) (rw h refl)
      | inr g ↦ rw (is, g) refl
    ]

pub nothing_positive : {A : Type 0} (found : Option A) (bytes : List ℕ) → bytes ≡ [] → IfNone found (is_positive (take_while is_atom_byte bytes) ≡ false)
unfolding is_positive
nothing_positive None bytes is = rw is refl
nothing_positive (Some x) bytes is = tt

-- a minus, and an integer from 1 on
pub minus_front : (n : ℕ) (bytes : List ℕ) → IsFront is_positive n bytes → IsFront is_int (1 + n) (45 ∷ bytes)
unfolding is_int
minus_front n bytes h =
    record {
      word = rw (one-add (prefix_len is_atom_byte bytes), one-add n) h.word;
      whole = λ stop. ap (λ k. 1 + k) (h.whole (rw (one-add n) at stop));
    }

pub no_minus : {A : Type 0} (found : Option A) (bytes inner : List ℕ) → bytes ≡ 45 ∷ inner → is_positive (take_while is_atom_byte inner) ≡ false → IfNone found (is_int (take_while is_atom_byte bytes) ≡ false)
unfolding is_int
no_minus None bytes inner is h = rw (is, one-add) h
no_minus (Some x) bytes inner is h = tt

pub nothing_int : {A : Type 0} (found : Option A) (bytes : List ℕ) → bytes ≡ [] → IfNone found (is_int (take_while is_atom_byte bytes) ≡ false)
unfolding is_int
nothing_int None bytes is = rw is refl
nothing_int (Some x) bytes is = tt

pub zero_front : (bytes : List ℕ) → IsFront is_int 1 (48 ∷ bytes)
unfolding is_int
zero_front bytes =
    record {
      word = rw one-add (ap (λ n. eqb n 0) (length-prefix_len is_atom_byte bytes));
      whole = λ stop. rw one-add (ap suc stop);
    }

-- an integer with neither of these in front is one from 1 on
pub as_positive : (b : ℕ) (bytes inner : List ℕ) → bytes ≡ b ∷ inner → eqb b 48 ≡ false → eqb b 45 ≡ false → is_int (take_while is_atom_byte bytes) ≡ is_positive (take_while is_atom_byte bytes)
unfolding is_int is_positive
as_positive b bytes inner is zero minus =
    elim (tells (is_atom_byte b)) [
      | inl g ↦ rw (is, g, one-add) (rw (zero, minus) refl)
      | inr g ↦ rw (is, g) refl
    ]

pub no_int : (found : Option ℕ) (bytes : List ℕ) → is_int (take_while is_atom_byte bytes) ≡ is_positive (take_while is_atom_byte bytes) → IfNone found (is_positive (take_while is_atom_byte bytes) ≡ false) → IfNone found (is_int (take_while is_atom_byte bytes) ≡ false)
no_int None bytes same h = same ∙ h
no_int (Some n) bytes same h = tt

pub int_front : (found : Option ℕ) (bytes : List ℕ) → is_int (take_while is_atom_byte bytes) ≡ is_positive (take_while is_atom_byte bytes) → IfSome found (λ n. IsFront is_positive n bytes) → IfSome found (λ n. IsFront is_int n bytes)
int_front None bytes same h = tt
int_front (Some n) bytes same h = record { word = same ∙ h.word; whole = h.whole }

-- the atom at the front, where no byte of it follows what was scanned
pub record Fronted (passes : List ℕ → Bool) (bytes text rest : List ℕ) : Type 0 where
  pub word : passes text ≡ true
  pub atom : text ≡ take_while is_atom_byte bytes
  pub behind : rest ≡ after is_atom_byte bytes

pub fronted : (passes : List ℕ → Bool) (n : ℕ) (bytes text rest : List ℕ) → IsFront passes n bytes → text ≡ take n bytes → rest ≡ drop n bytes → eqb (prefix_len is_atom_byte rest) 0 ≡ true → Fronted passes bytes text rest
fronted passes n bytes text rest h front back ends =
    let stop : prefix_len is_atom_byte (drop n bytes) ≡ 0 = eqb-true _ 0 (rw back at ends) in
    let as_many = h.whole stop in
    let here : text ≡ take_while is_atom_byte bytes = front ∙ ap (λ k. take k bytes) (sym as_many) in
    record {
      word = rw here (h.word ∙ rw stop refl);
      atom = here;
      behind = back ∙ ap (λ k. drop k bytes) (sym as_many);
    }

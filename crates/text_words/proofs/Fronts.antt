-- The atom at the front of bytes, as a scan of a name's bytes finds it, and the tokens that begin with it.
use Rattle.std.proofs.Common.{◌≡◌, ℕ, suc, ◌+◌, Bool, true, false, eqb, List, [], ◌∷◌, drop, take, refl, sym, ap, ◌∙◌, ◌⊎◌, inl, inr, arith, one-add, Option, Some, None}
use Rattle.std.specs.Prelude.{IfNone}
use Rattle.std.specs.List.{prefix_len, take_while, list_all}
use Rattle.std.specs.Char.{is_ascii_alphabetic}
use Rattle.std.proofs.lemmas.Bool.{ne_eqb, eqb-true}
use Rattle.std.proofs.lemmas.Grind.{common_steps}
use Rattle.txn_programs.specs.Names.{is_name, is_name_byte}
use Rattle.text_words.specs.Bytes.{is_atom_byte}
use Rattle.text_words.specs.Tokens.{after}

pub tells : (b : Bool) → (b ≡ true) ⊎ (b ≡ false)
tells true = inl refl
tells false = inr refl

-- where q passes whatever p passes, a scan by p stops where one by q does exactly where p passes all of it
pub reaches : (p q : ℕ → Bool) → ((b : ℕ) → p b ≡ true → q b ≡ true) → (bytes : List ℕ) → eqb (prefix_len q (drop (prefix_len p bytes) bytes)) 0 ≡ list_all p (take_while q bytes)
reaches p q within [] = refl
reaches p q within (b ∷ bytes) =
    elim (tells (p b)) [
      | inl h ↦ let g = within b h in rw (h, g, one-add (prefix_len p bytes), one-add (prefix_len q bytes)) (rw h (reaches p q within bytes))
      | inr h ↦ elim (tells (q b)) [
        | inl g ↦ rw (h, g, one-add) (rw h (ne_eqb (suc (prefix_len q bytes)) 0 (omega arith)))
        | inr g ↦ rw (h, g) refl
      ]
    ]

-- and then both have looked at as many
pub same_len : (p q : ℕ → Bool) → ((b : ℕ) → p b ≡ true → q b ≡ true) → (bytes : List ℕ) → prefix_len q (drop (prefix_len p bytes) bytes) ≡ 0 → prefix_len q bytes ≡ prefix_len p bytes
same_len p q within [] h = refl
same_len p q within (b ∷ bytes) stop =
    elim (tells (p b)) [
      | inl h ↦ let g = within b h in let rest : prefix_len q (drop (prefix_len p bytes) bytes) ≡ 0 = rw (h, one-add) at stop in rw (h, g) (ap (λ n. 1 + n) (same_len p q within bytes rest))
      | inr h ↦ rw h (let rest : prefix_len q (b ∷ bytes) ≡ 0 = rw h at stop in rest)
    ]

letter_in_atom : (b : ℕ) → is_ascii_alphabetic b ≡ true → is_atom_byte b ≡ true
letter_in_atom b h = grind (arith, common_steps)

name_in_atom : (b : ℕ) → is_name_byte b ≡ true → is_atom_byte b ≡ true
name_in_atom b h = grind (arith, common_steps)

is_front : (b : ℕ) (bytes : List ℕ) → is_ascii_alphabetic b ≡ true → is_name (take_while is_atom_byte (b ∷ bytes)) ≡ eqb (prefix_len is_atom_byte (drop (suc (prefix_len is_name_byte bytes)) (b ∷ bytes))) 0
unfolding is_name
is_front b bytes h = rw (letter_in_atom b h, one-add) (rw h (sym (reaches is_name_byte is_atom_byte name_in_atom bytes)))

front_len : (b : ℕ) (bytes : List ℕ) → is_ascii_alphabetic b ≡ true → prefix_len is_atom_byte (drop (suc (prefix_len is_name_byte bytes)) (b ∷ bytes)) ≡ 0 → prefix_len is_atom_byte (b ∷ bytes) ≡ suc (prefix_len is_name_byte bytes)
front_len b bytes h stop = rw (letter_in_atom b h, one-add) (ap suc (same_len is_name_byte is_atom_byte name_in_atom bytes stop))

-- the atom at the front, where it begins with a letter: it is a name exactly where no byte of an atom follows a name's
pub record Scanned (bytes text rest : List ℕ) : Type 0 where
  pub name : is_name text ≡ true
  pub atom : text ≡ take_while is_atom_byte bytes
  pub behind : rest ≡ after is_atom_byte bytes

pub scanned : (b n : ℕ) (bytes inner text rest : List ℕ) → bytes ≡ b ∷ inner → is_ascii_alphabetic b ≡ true → n ≡ prefix_len is_name_byte inner → text ≡ take (1 + n) bytes → rest ≡ drop (1 + n) bytes
    → eqb (prefix_len is_atom_byte rest) 0 ≡ true → Scanned bytes text rest
scanned b n bytes inner text rest is h len front back ends =
    let m = prefix_len is_name_byte inner in
    let whole : rest ≡ drop (suc m) (b ∷ inner) = back ∙ rw (len, is, one-add) refl in
    let stop : prefix_len is_atom_byte (drop (suc m) (b ∷ inner)) ≡ 0 = eqb-true _ 0 (rw whole at ends) in
    let as_many : prefix_len is_atom_byte bytes ≡ 1 + n = rw is (front_len b inner h stop ∙ sym (one-add m) ∙ ap (λ k. 1 + k) (sym len)) in
    let here : text ≡ take_while is_atom_byte bytes = front ∙ ap (λ k. take k bytes) (sym as_many) in
    record {
      name = rw here (rw is (is_front b inner h ∙ rw stop refl));
      atom = here;
      behind = back ∙ ap (λ k. drop k bytes) (sym as_many);
    }

pub not_scanned : (b n : ℕ) (bytes inner rest : List ℕ) → bytes ≡ b ∷ inner → is_ascii_alphabetic b ≡ true → n ≡ prefix_len is_name_byte inner → rest ≡ drop (1 + n) bytes
    → eqb (prefix_len is_atom_byte rest) 0 ≡ false → is_name (take_while is_atom_byte bytes) ≡ false
not_scanned b n bytes inner rest is h len back goes_on =
    let whole : rest ≡ drop (suc (prefix_len is_name_byte inner)) (b ∷ inner) = back ∙ rw (len, is, one-add) refl in
    rw is (is_front b inner h ∙ (rw whole at goes_on))

-- and no name, where it begins otherwise
pub no_letter : (b : ℕ) (bytes inner : List ℕ) → bytes ≡ b ∷ inner → is_ascii_alphabetic b ≡ false → is_name (take_while is_atom_byte bytes) ≡ false
unfolding is_name
no_letter b bytes inner is h =
    elim (tells (is_atom_byte b)) [
      | inl g ↦ rw (is, g, one-add) (rw h refl)
      | inr g ↦ rw (is, g) refl
    ]

pub no_byte : {A : Type 0} (found : Option A) (bytes : List ℕ) → bytes ≡ [] → IfNone found (is_name (take_while is_atom_byte bytes) ≡ false)
unfolding is_name
no_byte None bytes is = rw is refl
no_byte (Some x) bytes is = tt

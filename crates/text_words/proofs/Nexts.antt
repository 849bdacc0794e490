-- The next token, told from the bytes that begin with it.
use Rattle.std.proofs.Common.{◌≡◌, ℕ, ◌+◌, ◌<◌, Bool, true, false, eqb, ◌||◌, List, [], ◌∷◌, length, get_or, Option, Some, None, Ok, Err, refl, sym, ap, ◌∙◌, inl, inr, arith, one-add, length-drop}
use Rattle.std.specs.Prelude.{IfNone}
use Rattle.std.specs.List.{prefix_len, take_while}
use Rattle.std.specs.Char.{is_ascii_alphabetic}
use Rattle.std.proofs.lemmas.Bool.{ne_eqb}
use Rattle.std.proofs.lemmas.Bool.Decides.{eqb_tells}
use Rattle.std.proofs.lemmas.Grind.{common_steps}
use Rattle.txn_programs.specs.Names.{is_name}
use Rattle.text_words.specs.Bytes.{is_atom_byte, is_blank, is_int, is_positive, int_value}
use Rattle.text_words.specs.Tokens.{Lexeme, atom, after, tokens}
use Rattle.text_words.specs.TokenReading.{as_open, as_close, as_name, as_int, open_at, close_at, name_at, int_at}
use Rattle.text_words.specs.declared.fault.ReadFault.TheVariants.{Shape}
use Rattle.text_words.proofs.Lexing.{tokens-nil, tokens-open, tokens-close, tokens-atom}
use Rattle.text_words.proofs.Numerals as Numerals
use Rattle.text_words.proofs.Fronts.{tells}

-- neither a blank nor a comment stands first
abbrev pub IsStart : List ℕ → Type 0
IsStart bytes = prefix_len (λ b. is_blank b || eqb b 59) bytes ≡ 0

-- what is no parenthesis then begins an atom
begins_atom : (b : ℕ) (bytes : List ℕ) → IsStart (b ∷ bytes) → eqb b 40 ≡ false → eqb b 41 ≡ false → is_atom_byte b ≡ true
begins_atom b bytes start p q =
    elim (tells (is_blank b || eqb b 59)) [
      | inl h ↦ absurd (let e : 1 + prefix_len (λ b. is_blank b || eqb b 59) bytes ≡ 0 = rw h at start in omega arith)
      | inr h ↦ grind (arith, common_steps)
    ]

front_atom : (b : ℕ) (bytes : List ℕ) → is_atom_byte b ≡ true → tokens (b ∷ bytes) ≡ atom (take_while is_atom_byte (b ∷ bytes)) ∷ tokens (after is_atom_byte (b ∷ bytes))
front_atom b bytes h = tokens-atom b bytes h ∙ rw (h, one-add) refl

-- the atom at the front, where a test that takes no empty text takes it
pub record Stands (bytes text rest : List ℕ) : Type 0 where
  pub tokens : tokens bytes ≡ atom text ∷ tokens rest
  pub shorter : length rest < length bytes

stands : (p : List ℕ → Bool) (bytes text rest : List ℕ) → p [] ≡ false → p text ≡ true → text ≡ take_while is_atom_byte bytes → rest ≡ after is_atom_byte bytes → Stands bytes text rest
stands p [] text rest none h is behind = absurd (let e : p [] ≡ true = sym (ap p is) ∙ h in let f : false ≡ true = sym none ∙ e in cc)
stands p (b ∷ bytes) text rest none h is behind =
    elim (tells (is_atom_byte b)) [
      | inl g ↦
          let fewer : length (after is_atom_byte (b ∷ bytes)) < length (b ∷ bytes) = rw (g, one-add) (omega (arith, length-drop (prefix_len is_atom_byte bytes) bytes)) in
          record { tokens = rw (is, behind) (front_atom b bytes g); shorter = rw behind fewer }
      | inr g ↦ absurd (let e : text ≡ [] = is ∙ rw g refl in let f : p [] ≡ true = sym (ap p e) ∙ h in let k : false ≡ true = sym none ∙ f in cc)
    ]

pub name_stands : (bytes text rest : List ℕ) → is_name text ≡ true → text ≡ take_while is_atom_byte bytes → rest ≡ after is_atom_byte bytes → Stands bytes text rest
unfolding is_name
name_stands bytes text rest = stands is_name bytes text rest refl

pub int_stands : (bytes text rest : List ℕ) → is_int text ≡ true → text ≡ take_while is_atom_byte bytes → rest ≡ after is_atom_byte bytes → Stands bytes text rest
unfolding is_int
int_stands bytes text rest = stands is_int bytes text rest refl

-- ---- what an atom is

pub name_given : (text : List ℕ) (rest : List Lexeme) → is_name text ≡ true → name_at (atom text ∷ rest) ≡ Ok (text, rest)
unfolding name_at atom
name_given text rest h = rw h refl

-- no integer begins with a letter
int_no_name : (text : List ℕ) → is_int text ≡ true → is_name text ≡ false
unfolding is_name is_int is_positive
int_no_name [] h = refl
int_no_name (b ∷ text) h =
    elim (tells (is_ascii_alphabetic b)) [
      | inl g ↦
          let high : 64 < b = grind (arith, common_steps) in
          let positive : is_positive (b ∷ text) ≡ true = rw (ne_eqb b 48 (omega arith), ne_eqb b 45 (omega arith)) at h in
          absurd (let low = (Numerals.positive (b ∷ text) positive).2 in omega arith)
      | inr g ↦ rw g refl
    ]

pub int_given : (text : List ℕ) (rest : List Lexeme) → is_int text ≡ true → int_at (atom text ∷ rest) ≡ Ok (int_value text, rest)
unfolding int_at atom
int_given text rest h = rw (int_no_name text h, h) refl

-- ---- what an atom is not

not_open : (text : List ℕ) → as_open (atom text) ≡ Err Shape
unfolding atom
not_open text =
    elim (tells (is_name text)) [
      | inl h ↦ rw h refl
      | inr h ↦ elim (tells (is_int text)) [
        | inl g ↦ rw (h, g) refl
        | inr g ↦ rw (h, g) refl
      ]
    ]

not_close : (text : List ℕ) → as_close (atom text) ≡ Err Shape
unfolding atom
not_close text =
    elim (tells (is_name text)) [
      | inl h ↦ rw h refl
      | inr h ↦ elim (tells (is_int text)) [
        | inl g ↦ rw (h, g) refl
        | inr g ↦ rw (h, g) refl
      ]
    ]

not_name : (text : List ℕ) → is_name text ≡ false → as_name (atom text) ≡ Err Shape
unfolding atom
not_name text h =
    elim (tells (is_int text)) [
      | inl g ↦ rw (h, g) refl
      | inr g ↦ rw (h, g) refl
    ]

not_int : (text : List ℕ) → is_int text ≡ false → as_int (atom text) ≡ Err Shape
unfolding atom
not_int text h =
    elim (tells (is_name text)) [
      | inl g ↦ rw g refl
      | inr g ↦ rw (g, h) refl
    ]

-- ---- what is read of the bytes from the next token on

pub open_fails : (bytes : List ℕ) → IsStart bytes → eqb (get_or bytes 0 0) 40 ≡ false → open_at (tokens bytes) ≡ Err Shape
unfolding open_at
open_fails [] start h = rw tokens-nil refl
open_fails (b ∷ bytes) start h =
    elim (eqb_tells b 41) [
      | inl p ↦ rw (p.1, tokens-close bytes) refl
      | inr p ↦ rw (front_atom b bytes (begins_atom b bytes start h p.0), not_open (take_while is_atom_byte (b ∷ bytes))) refl
    ]

pub close_fails : (bytes : List ℕ) → IsStart bytes → eqb (get_or bytes 0 0) 41 ≡ false → close_at (tokens bytes) ≡ Err Shape
unfolding close_at
close_fails [] start h = rw tokens-nil refl
close_fails (b ∷ bytes) start h =
    elim (eqb_tells b 40) [
      | inl p ↦ rw (p.1, tokens-open bytes) refl
      | inr p ↦ rw (front_atom b bytes (begins_atom b bytes start p.0 h), not_close (take_while is_atom_byte (b ∷ bytes))) refl
    ]

pub name_fails : (bytes : List ℕ) → IsStart bytes → is_name (take_while is_atom_byte bytes) ≡ false → name_at (tokens bytes) ≡ Err Shape
unfolding name_at
name_fails [] start h = rw tokens-nil refl
name_fails (b ∷ bytes) start h =
    elim (eqb_tells b 40) [
      | inl p ↦ rw (p.1, tokens-open bytes) refl
      | inr p ↦ elim (eqb_tells b 41) [
        | inl q ↦ rw (q.1, tokens-close bytes) refl
        | inr q ↦ rw (front_atom b bytes (begins_atom b bytes start p.0 q.0), not_name (take_while is_atom_byte (b ∷ bytes)) h) refl
      ]
    ]

pub int_fails : (bytes : List ℕ) → IsStart bytes → is_int (take_while is_atom_byte bytes) ≡ false → int_at (tokens bytes) ≡ Err Shape
unfolding int_at
int_fails [] start h = rw tokens-nil refl
int_fails (b ∷ bytes) start h =
    elim (eqb_tells b 40) [
      | inl p ↦ rw (p.1, tokens-open bytes) refl
      | inr p ↦ elim (eqb_tells b 41) [
        | inl q ↦ rw (q.1, tokens-close bytes) refl
        | inr q ↦ rw (front_atom b bytes (begins_atom b bytes start p.0 q.0), not_int (take_while is_atom_byte (b ∷ bytes)) h) refl
      ]
    ]

pub no_token : {A : Type 0} (found : Option A) (bytes start : List ℕ) → tokens start ≡ tokens bytes → start ≡ [] → IfNone found (tokens bytes ≡ [])
no_token None bytes start same is = sym same ∙ ap tokens is ∙ tokens-nil
no_token (Some x) bytes start same is = tt

pub atom_next : (b : ℕ) (bytes inner : List ℕ) → bytes ≡ b ∷ inner → IsStart bytes → eqb b 40 ≡ false → eqb b 41 ≡ false → tokens bytes ≡ atom (take_while is_atom_byte bytes) ∷ tokens (after is_atom_byte bytes)
atom_next b bytes inner is start p q = rw is (front_atom b inner (begins_atom b inner (rw is at start) p q))

-- Reading tokens from left to right: single tokens, and items as long as a test passes.
use Rattle.std.specs.Prelude.{ℕ, zero, suc, ℤ, Bool, is_ok, Result, Ok, Err, List, [], ◌∷◌, length, if◌then◌else◌}
use Rattle.std.specs.Str.{bytes_eq}
use Rattle.text_words.specs.Answers.{◌>>=◌}
use Rattle.text_words.specs.Tokens.{Lexeme, Opens, Closes}
use Rattle.text_words.specs.Tokens as token
use Rattle.text_words.specs.declared.fault.ReadFault.{ReadFault}
use Rattle.text_words.specs.declared.fault.ReadFault.TheVariants.{Shape}

-- what is read, and the tokens left
abbrev pub Read : Type 0 → Type 0
Read A = Result (A × List Lexeme) ReadFault

-- ---- single tokens

abbrev pub next_at : List Lexeme → Read Lexeme
next_at [] = Err Shape
next_at (t ∷ ts) = Ok (t, ts)

abbrev pub as_open : Lexeme → Result Unit ReadFault
as_open Opens = Ok tt
as_open Closes = Err Shape
as_open (token.Name text) = Err Shape
as_open (token.Int value) = Err Shape
as_open token.Other = Err Shape

abbrev pub as_close : Lexeme → Result Unit ReadFault
as_close Opens = Err Shape
as_close Closes = Ok tt
as_close (token.Name text) = Err Shape
as_close (token.Int value) = Err Shape
as_close token.Other = Err Shape

abbrev pub as_name : Lexeme → Result (List ℕ) ReadFault
as_name Opens = Err Shape
as_name Closes = Err Shape
as_name (token.Name text) = Ok text
as_name (token.Int value) = Err Shape
as_name token.Other = Err Shape

abbrev pub as_int : Lexeme → Result ℤ ReadFault
as_int Opens = Err Shape
as_int Closes = Err Shape
as_int (token.Name text) = Err Shape
as_int (token.Int value) = Ok value
as_int token.Other = Err Shape

unfoldable pub open_at : List Lexeme → Result (List Lexeme) ReadFault
open_at ts = do
  t ← next_at ts
  opened ← as_open t.0
  Ok t.1

unfoldable pub close_at : List Lexeme → Result (List Lexeme) ReadFault
close_at ts = do
  t ← next_at ts
  closed ← as_close t.0
  Ok t.1

unfoldable pub name_at : List Lexeme → Read (List ℕ)
name_at ts = do
  t ← next_at ts
  name ← as_name t.0
  Ok (name, t.1)

unfoldable pub int_at : List Lexeme → Read ℤ
int_at ts = do
  t ← next_at ts
  value ← as_int t.0
  Ok (value, t.1)

unfoldable pub is_open : List Lexeme → Bool
is_open ts = is_ok (open_at ts)

unfoldable pub is_name : List Lexeme → Bool
is_name ts = is_ok (name_at ts)

unfoldable pub is_int : List Lexeme → Bool
is_int ts = is_ok (int_at ts)

-- a parenthesis and a word
unfoldable pub word_at : List Lexeme → Read (List ℕ)
word_at ts = do
  inside ← open_at ts
  name_at inside

-- a parenthesis and this word
unfoldable pub form_at : List ℕ → List Lexeme → Result (List Lexeme) ReadFault
form_at wanted ts = do
  word ← word_at ts
  if bytes_eq word.0 wanted then Ok word.1 else Err Shape

unfoldable pub begins : List ℕ → List Lexeme → Bool
begins wanted ts = is_ok (form_at wanted ts)

-- ---- items

-- x before the items that are read
abbrev pub with_first : {A : Type 0} → A → Read (List A) → Read (List A)
with_first x read = read >>= λ others. Ok (x ∷ others.0, others.1)

-- items as long as the tokens pass a test, in fewer turns than this
unfoldable pub many : {A : Type 0} → (List Lexeme → Bool) → (List Lexeme → Read A) → ℕ → List Lexeme → Read (List A)
many goes one zero ts = Err Shape
many goes one (suc n) ts = if goes ts then (one ts >>= λ first. with_first first.0 (many goes one n first.1)) else Ok ([], ts)

-- there are never more items than tokens
unfoldable pub all_of : {A : Type 0} → (List Lexeme → Bool) → (List Lexeme → Read A) → List Lexeme → Read (List A)
all_of goes one ts = many goes one (suc (length ts)) ts

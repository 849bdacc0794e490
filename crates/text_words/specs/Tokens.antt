-- The tokens of bytes.
use Rattle.std.specs.Prelude.{ℕ, zero, suc, ℤ, Bool, List, [], ◌∷◌, length, drop, ◌==◌, if◌then◌else◌}
use Rattle.std.specs.List.{prefix_len, take_while}
use Rattle.txn_programs.specs.Names.{is_name}
use Rattle.text_words.specs.Bytes.{is_atom_byte, is_in_line, is_int, int_value}

-- a parenthesis, a name, or an integer by its value, however large
pub data Lexeme : Type 0 where
  Opens : Lexeme
  Closes : Lexeme
  Name : (text : List ℕ) → Lexeme
  Int : (value : ℤ) → Lexeme
  -- an atom that is neither a name nor an integer
  Other : Lexeme

unfoldable pub atom : List ℕ → Lexeme
atom text = if is_name text then Name text else (if is_int text then Int (int_value text) else Other)

-- what follows the longest run of bytes that pass p
abbrev pub after : (ℕ → Bool) → List ℕ → List ℕ
after p bytes = drop (prefix_len p bytes) bytes

-- an atom is a longest run of its bytes, a comment lasts to the end of its line, blanks stand for nothing:
-- the tokens, where each step takes a byte or more and this many steps are enough
unfoldable pub tokens_within : ℕ → List ℕ → List Lexeme
tokens_within zero bytes = []
tokens_within (suc n) [] = []
tokens_within (suc n) (b ∷ bytes) =
    if is_atom_byte b then atom (b ∷ take_while is_atom_byte bytes) ∷ tokens_within n (after is_atom_byte bytes)
    else (if b == 40 then Opens ∷ tokens_within n bytes
    else (if b == 41 then Closes ∷ tokens_within n bytes
    else (if b == 59 then tokens_within n (after is_in_line bytes)
    else tokens_within n bytes)))

unfoldable pub tokens : List ℕ → List Lexeme
tokens bytes = tokens_within (length bytes) bytes

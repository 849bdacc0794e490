-- Single words of a line: what each is read as.
use Rattle.std.specs.Prelude.{ℕ, Bool, not, ◌&&◌, List, [], is_some, if◌then◌else◌, Option, Some, None, Result, Ok, Err}
use Rattle.std.specs.Str.Parse.{starts_with_minus}
use Rattle.txn_programs.specs.Names.{is_name}
use Rattle.text_words.specs.Bytes.{is_int}
use Rattle.text_words.specs.Answers.{◌>>=◌}
use Rattle.std.specs.Str.{bytes_eq}
use Rattle.text_words.specs.declared.fault.ReadFault.{ReadFault}
use Rattle.text_words.specs.declared.fault.ReadFault.TheVariants.{Shape}
use Rattle.text_line_reader.specs.Lines.{parted}

-- an integer without a sign, and so without a leading zero
abbrev pub is_number : List ℕ → Bool
is_number text = not (starts_with_minus text) && is_int text

-- what is there, or a fault of shape
abbrev pub given : {A : Type 0} → Option A → Result A ReadFault
given None = Err Shape
given (Some x) = Ok x

-- the first word of a line, and the words behind it
unfoldable pub first_word : List ℕ → Result (List ℕ × List ℕ) ReadFault
first_word text = given (parted 32 text)

unfoldable pub name_in : List ℕ → Result (List ℕ) ReadFault
name_in text = if is_name text then Ok text else Err Shape

unfoldable pub int_in : List ℕ → Result (List ℕ) ReadFault
int_in text = if is_int text then Ok text else Err Shape

unfoldable pub number_in : List ℕ → Result (List ℕ) ReadFault
number_in text = if is_number text then Ok text else Err Shape

-- it names a cell, and no variable
unfoldable pub is_bracketed : List ℕ → Bool
is_bracketed text = is_some (parted 91 text)

-- this word
unfoldable pub expect : List ℕ → List ℕ → Result Unit ReadFault
expect wanted text = if bytes_eq text wanted then Ok tt else Err Shape

-- the words behind it, where the first one is this
abbrev pub behind_word : List ℕ → Option (List ℕ × List ℕ) → Option (List ℕ)
behind_word wanted None = None
behind_word wanted (Some x) = if bytes_eq x.0 wanted then Some x.1 else None

unfoldable pub behind : List ℕ → List ℕ → Option (List ℕ)
behind wanted text = behind_word wanted (parted 32 text)

unfoldable pub after_word : List ℕ → List ℕ → Result (List ℕ) ReadFault
after_word wanted text = given (behind wanted text)

-- the line begins with this word
unfoldable pub begins : List ℕ → List ℕ → Bool
begins wanted text = is_some (behind wanted text)

-- NAME[INDEX], with nothing behind it
unfoldable pub cell_in : List ℕ → Result (List ℕ × List ℕ) ReadFault
cell_in text = do
  first ← given (parted 91 text)
  second ← given (parted 93 first.1)
  nothing ← expect [] second.1
  name ← name_in first.0
  index ← number_in second.0
  Ok (name, index)

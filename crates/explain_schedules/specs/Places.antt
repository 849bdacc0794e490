-- Where a schedule stops being one, and which word of it is meant. Where cells is true its lines may name cells.
use Rattle.std.specs.Prelude.{◌≡◌, ◌⊎◌, ℕ, ◌+◌, Bool, true, false, nat_lt, is_some, if◌then◌else◌, List, [], ◌∷◌, ◌++◌, length, codes}
use Rattle.std.specs.List.{list_all, AllByRecursion}
use Rattle.std.specs.Str.Parse.{digits_value}
use Rattle.txn_programs.specs.Listing.{Listing, tasks, table_named}
use Rattle.text_line_reader.specs.ScheduleRaw.{Raw, OfTask, OfVariable, OfCell, Word, raw_text, IsRaw}
use Rattle.text_line_reader.specs.Schedules.{IsWritten}
use Rattle.explain_schedules.specs.Words.{behind, behind_len, is_word_byte, EndsWord, ending, wanted_behind}
use Rattle.explain_schedules.specs.declared.explaining.Finding.{Finding}
use Rattle.explain_schedules.specs.declared.explaining.Finding.TheVariants.{NoVariable, NoTable, NoCell, NoTask}
use Rattle.explain_schedules.specs.declared.line.Wanted.{Wanted}
use Rattle.explain_schedules.specs.declared.line.Wanted.TheVariants as want

-- some schedule, however long it is and whatever it names, begins with the bytes
pub record Begins (cells : Bool) (bytes : List ℕ) : Type 0 where
  pub raws : List Raw
  pub words : AllByRecursion (IsRaw cells) raws
  pub rest : List ℕ
  pub text : raw_text raws ≡ bytes ++ rest

-- the word at the place is none of a schedule's there: some schedule begins with the bytes before it,
-- and none with these, the word, and the space or the newline that ends it; and this is wanted
pub record IsWrongWord (cells : Bool) (bytes : List ℕ) (place : ℕ) (wanted : Wanted) : Type 0 where
  -- the lines before it, the words before it in its line, the word, and what stands behind it
  pub lines : List Raw
  pub before : List (List ℕ)
  pub word : List ℕ
  pub rest : List ℕ
  pub text : bytes ≡ raw_text lines ++ behind before (word ++ rest)
  pub at : place ≡ length (raw_text lines) + behind_len before
  pub whole : list_all is_word_byte word ≡ true
  pub ends : EndsWord rest
  pub opens : Begins cells (raw_text lines ++ behind before [])
  pub closed : Begins cells (raw_text lines ++ behind before (word ++ ending rest)) → ⊥
  pub wanted_is : wanted ≡ wanted_behind before

-- nothing is missing but the newline behind the last line, which is wanted, and the place is the end
pub record IsUnended (cells : Bool) (bytes : List ℕ) (place : ℕ) (wanted : Wanted) : Type 0 where
  pub lines : List Raw
  pub words : AllByRecursion (IsRaw cells) lines
  pub text : raw_text lines ≡ bytes ++ codes "\n"
  pub at : place ≡ length bytes
  pub wanted_is : wanted ≡ want.Newline

-- where bytes that are written as no schedule stop being the beginning of one, and what is wanted there
abbrev pub IsStop : Bool → List ℕ → ℕ → Wanted → Type 0
IsStop cells bytes place wanted = IsWrongWord cells bytes place wanted ⊎ IsUnended cells bytes place wanted

-- the first line, of bytes that are written as a schedule of the listing, of which this is not so, the place of a word in it
-- and what is said of it
pub record IsFirstLine (l : Listing) (right : Raw → Bool) (word_place : Raw → ℕ) (said : Raw → Finding) (bytes : List ℕ) (place : ℕ) (finding : Finding) : Type 0 where
  pub lines : List Raw
  pub raw : Raw
  pub after : List Raw
  pub written : IsWritten l bytes (lines ++ raw ∷ after)
  pub so_before : list_all right lines ≡ true
  pub not_here : right raw ≡ false
  pub at : place ≡ length (raw_text lines) + word_place raw
  pub finding_is : finding ≡ said raw

-- what is said of a line whose variable or cell is not known
abbrev pub unknown_in : Listing → Raw → Finding
unknown_in l (OfTask verb task) = NoVariable
unknown_in l (OfVariable verb task name) = NoVariable
unknown_in l (OfCell verb task table index) = if is_some (table_named l table) then NoCell else NoTable
unknown_in l Word = NoVariable

-- the line names one of the catalogue's tasks, if it names any
abbrev pub names_a_task : Listing → Raw → Bool
names_a_task l (OfTask verb task) = nat_lt (digits_value 10 task) (length (tasks l))
names_a_task l (OfVariable verb task name) = nat_lt (digits_value 10 task) (length (tasks l))
names_a_task l (OfCell verb task table index) = nat_lt (digits_value 10 task) (length (tasks l))
names_a_task l Word = true

-- what is said of one that does not
abbrev pub no_task : Raw → Finding
no_task raw = NoTask

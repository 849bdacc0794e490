-- Which moves bytes are the text of, and which fault is the first where they are of none.
use Rattle.std.specs.Prelude.{◌≡◌, ◌<◌, ◌≤◌, ℕ, true, false, nat_lt, if◌then◌else◌, Result, Err, List, length, All}
use Rattle.std.specs.List.{list_all, AllByRecursion}
use Rattle.txn_programs.specs.declared.moves.Move.{Move}
use Rattle.txn_programs.specs.Listing.{Listing}
use Rattle.text_words.specs.Bytes.{is_allowed}
use Rattle.text_words.specs.Answers.{◌>>=◌}
use Rattle.text_words.specs.declared.fault.ReadFault.{ReadFault}
use Rattle.text_words.specs.declared.fault.ReadFault.TheVariants.{TooLong, BadByte, Shape, Name, Limit, Broken, Memory}
use Rattle.text_line_reader.specs.Lines.{lines}
use Rattle.text_line_reader.specs.Spelling.{schedule_text, MoveFits}
use Rattle.text_line_reader.specs.ScheduleRaw.{Raw, raw_text, IsRaw}
use Rattle.text_line_reader.specs.ScheduleReading.{raws_at}
use Rattle.text_line_reader.specs.ScheduleResolving.{names_known, resolved}
use Rattle.text_line_reader.specs.Reports.{knows_cells}

-- the longest schedule, in bytes
abbrev pub max_len : ℕ
max_len = 1048576

-- the bytes are the text of these moves, each with a task, and a variable or a cell, of the catalogue
pub record IsSchedule (l : Listing) (bytes : List ℕ) (moves : List Move) : Type 0 where
  pub short : length bytes ≤ max_len
  pub text : bytes ≡ schedule_text l moves
  pub fits : All (MoveFits l) moves

-- the bytes are written as a schedule, whatever its names and numbers
pub record IsWritten (l : Listing) (bytes : List ℕ) (raws : List Raw) : Type 0 where
  pub short : length bytes ≤ max_len
  pub text : bytes ≡ raw_text raws
  pub words : AllByRecursion (IsRaw (knows_cells l)) raws

-- the first kind of fault of the bytes, each judged over all of them before the next is
abbrev pub IsFirst : Listing → List ℕ → ReadFault → Type 0
IsFirst l bytes TooLong = max_len < length bytes
IsFirst l bytes BadByte = (length bytes ≤ max_len) × (list_all is_allowed bytes ≡ false)
-- they are not written as a schedule
IsFirst l bytes Shape = (length bytes ≤ max_len) × (list_all is_allowed bytes ≡ true) × ((raws : List Raw) → IsWritten l bytes raws → ⊥)
-- they are, and a variable or a cell is not known
IsFirst l bytes Name = (raws : List Raw) × (IsWritten l bytes raws × (names_known l raws ≡ false))
-- they are, all of these are known, and yet they are the text of no moves
IsFirst l bytes Limit = (raws : List Raw) × (IsWritten l bytes raws × (names_known l raws ≡ true) × ((moves : List Move) → IsSchedule l bytes moves → ⊥))
-- these are no faults of a schedule
IsFirst l bytes Broken = ⊥
IsFirst l bytes Memory = ⊥

-- the same, read in order
unfoldable pub schedule_at : Listing → List ℕ → Result (List Move) ReadFault
schedule_at l bytes =
    if nat_lt max_len (length bytes) then Err TooLong
    else (if list_all is_allowed bytes then (raws_at (knows_cells l) (lines bytes) >>= λ raws. resolved l raws) else Err BadByte)

-- What an explanation says of a schedule.
use Rattle.std.specs.Prelude.{◌≡◌, ◌<◌, ◌≤◌, ℕ, List, length}
use Rattle.txn_programs.specs.declared.moves.Move.{Move}
use Rattle.txn_programs.specs.Listing.{Listing}
use Rattle.text_words.specs.declared.fault.ReadFault.{ReadFault}
use Rattle.text_words.specs.declared.fault.ReadFault.TheVariants.{TooLong, BadByte, Shape, Name, Limit}
use Rattle.text_line_reader.specs.ScheduleResolving.{is_known}
use Rattle.text_line_reader.specs.Reports.{knows_cells}
use Rattle.text_line_reader.specs.Schedules.{IsSchedule, IsFirst, max_len}
use Rattle.explain_files.specs.Explaining.{IsBadByte}
use Rattle.explain_schedules.specs.Words.{name_place, task_place}
use Rattle.explain_schedules.specs.Places.{IsStop, IsFirstLine, unknown_in, names_a_task, no_task}
use Rattle.explain_schedules.specs.declared.explaining.Finding.{Finding}
use Rattle.explain_schedules.specs.declared.explaining.Finding.TheVariants as found
use Rattle.explain_schedules.specs.declared.explaining.Refusal.{Refusal}
use Rattle.explain_schedules.specs.declared.explaining.ScheduleExplanation.{ScheduleExplanation}
use Rattle.explain_schedules.specs.declared.explaining.ScheduleExplanation.TheVariants.{Good, Refused}

-- by the kind of fault and by what is found at the place: what is so there
abbrev pub IsPlaced : Listing → ReadFault → List ℕ → ℕ → Finding → Type 0
-- the first byte that no schedule has room for
IsPlaced l TooLong bytes place found.TooLong = (place ≡ max_len) × (place < length bytes)
-- the first byte that no schedule may have
IsPlaced l BadByte bytes place found.BadByte = IsBadByte bytes place
IsPlaced l Shape bytes place (found.Unwanted wanted) = IsStop (knows_cells l) bytes place wanted
-- the name in the first line whose variable or cell is not known
IsPlaced l Name bytes place finding = IsFirstLine l (is_known l) name_place (unknown_in l) bytes place finding
-- the number in the first line whose task there is not
IsPlaced l Limit bytes place finding = IsFirstLine l (names_a_task l) task_place no_task bytes place finding
-- nothing else is found
IsPlaced l kind bytes place finding = ⊥

-- why the bytes are refused: the first kind of fault, its place, and what is found there
pub record IsRefused (l : Listing) (bytes : List ℕ) (refusal : Refusal) : Type 0 where
  pub kind : IsFirst l bytes refusal.kind
  pub placed : IsPlaced l refusal.kind bytes refusal.place refusal.finding
  pub bound : refusal.place ≤ length bytes

-- these are the text of moves, or this is why they are of none
abbrev pub IsExplained : Listing → List ℕ → ScheduleExplanation → Type 0
IsExplained l bytes Good = (moves : List Move) × IsSchedule l bytes moves
IsExplained l bytes (Refused refusal) = IsRefused l bytes refusal

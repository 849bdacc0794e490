-- How far the lines of a schedule were walked. Where cells is true they may name cells.
use Rattle.std.specs.Prelude.{◌≡◌, ℕ, Bool, true, false, if◌then◌else◌, Option, Some, None, List, ◌++◌, Ok}
use Rattle.std.specs.List.{list_all, AllByRecursion}
use Rattle.txn_programs.specs.Listing.{Listing}
use Rattle.text_line_reader.specs.Lines.{lines}
use Rattle.text_line_reader.specs.ScheduleRaw.{Raw, raw_text, IsRaw}
use Rattle.text_line_reader.specs.ScheduleReading.{raws_at}
use Rattle.text_line_reader.specs.ScheduleResolving.{is_known}
use Rattle.text_line_reader.specs.Reports.{knows_cells}
use Rattle.text_line_reader.specs.Schedules.{IsWritten}
use Rattle.explain_schedules.specs.Words.{name_place, task_place}
use Rattle.explain_schedules.specs.Places.{names_a_task, no_task, unknown_in}
use Rattle.explain_schedules.specs.declared.explaining.Finding.{Finding}
use Rattle.explain_schedules.specs.declared.judging.Judged.{Judged}
use Rattle.explain_schedules.specs.declared.judging.Judged.TheVariants.{Names, Tasks}

-- lines of a schedule stand before the rest
pub record IsWalked (cells : Bool) (bytes rest : List ℕ) : Type 0 where
  pub before : List Raw
  pub words : AllByRecursion (IsRaw cells) before
  pub text : bytes ≡ raw_text before ++ rest

-- the bytes are written as a schedule of the listing, and this is so of all lines before the rest, and not of all behind it
pub record IsGoing (l : Listing) (right : Raw → Bool) (bytes rest : List ℕ) : Type 0 where
  pub before : List Raw
  pub later : List Raw
  pub written : IsWritten l bytes (before ++ later)
  pub text : bytes ≡ raw_text before ++ rest
  pub read : raws_at (knows_cells l) (lines rest) ≡ Ok later
  pub so_before : list_all right before ≡ true
  pub not_later : list_all right later ≡ false

-- the bytes are written as a schedule of the listing, and of one line this is not so
pub record IsUneven (l : Listing) (right : Raw → Bool) (bytes : List ℕ) : Type 0 where
  pub raws : List Raw
  pub written : IsWritten l bytes raws
  pub not_all : list_all right raws ≡ false

-- what is judged, where it stands in its line, and what is said where it is wrong
abbrev pub right_of : Listing → Judged → Raw → Bool
right_of l Names raw = is_known l raw
right_of l Tasks raw = names_a_task l raw

abbrev pub place_of : Judged → Raw → ℕ
place_of Names raw = name_place raw
place_of Tasks raw = task_place raw

abbrev pub said_of : Listing → Judged → Raw → Finding
said_of l Names raw = unknown_in l raw
said_of l Tasks raw = no_task raw

-- where a line is wrong, if it is, and what is said of it
abbrev pub wrong_at : Bool → ℕ → Finding → Option (ℕ × Finding)
wrong_at right place finding = if right then None else Some (place, finding)

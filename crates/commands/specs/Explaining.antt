-- What explaining a file leaves, or a report or a schedule of it.
use Rattle.std.specs.Prelude.{◌≡◌, ℕ, List, Option, None, Result, Ok, Err}
use Rattle.commands.specs.Files.{AfterReading, AfterReadingReport, AfterReadingChapter, AfterReadingSchedule, file_limit}
use Rattle.checker.specs.declared.verdict.Verdict.TheVariants.{Good, Bad}
use Rattle.checker.specs.declared.verdict.Part.{Part}
use Rattle.checker.specs.declared.chapter.ChapterVerdict.{ChapterVerdict}
use Rattle.checker.specs.declared.chapter.ChapterFault.TheVariants as fault
use Rattle.run_interface.specs.declared.fault.RunFault.{RunFault}
use Rattle.run_interface.specs.declared.fault.RunFault.TheVariants.{Input, Memory, Output, Schedule}
use Rattle.explain_files.specs.Telling.{Telling}
use Rattle.explain_files.specs.declared.bytes.Judgement.{Judgement}
use Rattle.explain_files.specs.declared.bytes.Judgement.TheVariants as file
use Rattle.explain_reports.specs.Writing.{Written}
use Rattle.explain_reports.specs.declared.chapters.ChapterUntold.TheVariants as untold_by
use Rattle.explain_reports.specs.Chapters.{ChapterWritten}
use Rattle.commands.specs.Checking.{chapter_answer}
use Rattle.explain_schedules.specs.Telling as schedules
use Rattle.command_line.specs.declared.explaining_words.Explained.{Explained}
use Rattle.command_line.specs.declared.explaining_words.Explained.TheVariants as what
use Rattle.command_line.specs.declared.answer.Answer.{Answer}
use Rattle.command_line.specs.declared.answer.Answer.TheVariants.{Done, Unlawful, Refused, Unreadable, Failed, Earlier}

-- the answers of explaining bytes
abbrev pub told : Judgement → Result Judgement RunFault
told what = Ok what

abbrev pub untold : RunFault → Result Judgement RunFault
untold fault = Err fault

-- by the answer: what explaining these bytes leaves that ends so
abbrev pub ExplainedBytes : List ℕ → Option (List ℕ) → Option (List ℕ) → Answer → Type 0
ExplainedBytes input old new Done = Telling input old new (told file.Good)
ExplainedBytes input old new Unlawful = ⊥
ExplainedBytes input old new Refused = ⊥
ExplainedBytes input old new (Unreadable source) = ⊥
-- where and why it is refused was written
ExplainedBytes input old new (Failed (Input kind)) = Telling input old new (told (file.Refused kind))
ExplainedBytes input old new (Failed Memory) = Telling input old new (untold Memory)
ExplainedBytes input old new (Failed Output) = Telling input old new (untold Output)
ExplainedBytes input old new (Failed (Schedule kind)) = ⊥
ExplainedBytes input old new (Earlier kind) = ⊥

-- the same of a report of these bytes
abbrev pub ExplainedOnBytes : List ℕ → List ℕ → Option (List ℕ) → Option (List ℕ) → Answer → Type 0
ExplainedOnBytes input report old new Done = Written input report old new (Ok Good)
ExplainedOnBytes input report old new Unlawful = (part : Part) × Written input report old new (Ok (Bad part))
ExplainedOnBytes input report old new Refused = ⊥
ExplainedOnBytes input report old new (Unreadable source) = ⊥
ExplainedOnBytes input report old new (Failed fault) = Written input report old new (Err fault)
ExplainedOnBytes input report old new (Earlier kind) = ⊥

-- the same of a chapter behind an earlier one
pub record ExplainedVerdict (file report earlier earlier_report : List ℕ) (old new : Option (List ℕ)) (a : Answer) : Type 0 where
  pub verdict : ChapterVerdict
  pub answer : chapter_answer verdict ≡ a
  pub written : ChapterWritten file report earlier earlier_report old new (Ok verdict)

abbrev pub ExplainedAfter : List ℕ → List ℕ → List ℕ → List ℕ → Option (List ℕ) → Option (List ℕ) → Answer → Type 0
ExplainedAfter file report earlier earlier_report old new Done = ExplainedVerdict file report earlier earlier_report old new Done
ExplainedAfter file report earlier earlier_report old new Unlawful = ExplainedVerdict file report earlier earlier_report old new Unlawful
ExplainedAfter file report earlier earlier_report old new Refused = ⊥
ExplainedAfter file report earlier earlier_report old new (Unreadable source) = ⊥
ExplainedAfter file report earlier earlier_report old new (Failed (Input kind)) = ChapterWritten file report earlier earlier_report old new (Err (untold_by.Unjudged (fault.File kind)))
ExplainedAfter file report earlier earlier_report old new (Failed Memory) = ChapterWritten file report earlier earlier_report old new (Err (untold_by.Unjudged fault.Memory))
ExplainedAfter file report earlier earlier_report old new (Failed Output) = ChapterWritten file report earlier earlier_report old new (Err untold_by.Output)
ExplainedAfter file report earlier earlier_report old new (Failed (Schedule kind)) = ⊥
ExplainedAfter file report earlier earlier_report old new (Earlier kind) = ChapterWritten file report earlier earlier_report old new (Err (untold_by.Unjudged (fault.Earlier kind)))

-- the same of a schedule of these bytes
abbrev pub ExplainedMoves : List ℕ → List ℕ → Option (List ℕ) → Option (List ℕ) → Answer → Type 0
ExplainedMoves input schedule old new Done = schedules.Telling input schedule old new (told file.Good)
ExplainedMoves input schedule old new Unlawful = ⊥
ExplainedMoves input schedule old new Refused = ⊥
ExplainedMoves input schedule old new (Unreadable source) = ⊥
-- the file is refused, and nothing was written
ExplainedMoves input schedule old new (Failed (Input kind)) = schedules.Telling input schedule old new (untold (Input kind))
ExplainedMoves input schedule old new (Failed Memory) = schedules.Telling input schedule old new (untold Memory)
ExplainedMoves input schedule old new (Failed Output) = schedules.Telling input schedule old new (untold Output)
-- where and why the schedule is refused was written
ExplainedMoves input schedule old new (Failed (Schedule kind)) = schedules.Telling input schedule old new (told (file.Refused kind))
ExplainedMoves input schedule old new (Earlier kind) = ⊥

-- of files of which it is known that they have these bytes, if anything is
abbrev pub ExplainedFile : Option (List ℕ) → Option (List ℕ) → Option (List ℕ) → Answer → Type 0
ExplainedFile known old new a = AfterReading file_limit known (λ input. ExplainedBytes input old new a) old new a

abbrev pub ExplainedOnFiles : Option (List ℕ) → Option (List ℕ) → Option (List ℕ) → Option (List ℕ) → Answer → Type 0
ExplainedOnFiles input report old new a = AfterReadingReport input report (λ f r. ExplainedOnBytes f r old new a) old new a

abbrev pub ExplainedChapter : Option (List ℕ) → Option (List ℕ) → Option (List ℕ) → Option (List ℕ) → Option (List ℕ) → Option (List ℕ) → Answer → Type 0
ExplainedChapter file report earlier earlier_report old new a =
    AfterReadingChapter file report earlier earlier_report (λ f r e s. ExplainedAfter f r e s old new a) old new a

abbrev pub ExplainedSchedule : Option (List ℕ) → Option (List ℕ) → Option (List ℕ) → Option (List ℕ) → Answer → Type 0
ExplainedSchedule input schedule old new a = AfterReadingSchedule input schedule (λ f s. ExplainedMoves f s old new a) old new a

-- by what is explained
abbrev pub ExplainedAs : Explained → Option (List ℕ) → Option (List ℕ) → Answer → Type 0
ExplainedAs what.File old new a = ExplainedFile None old new a
ExplainedAs (what.Report path) old new a = ExplainedOnFiles None None old new a
ExplainedAs (what.Chapter path pair) old new a = ExplainedChapter None None None None old new a
ExplainedAs (what.Schedule path) old new a = ExplainedSchedule None None old new a

-- What a check leaves.
use Rattle.std.specs.Prelude.{◌≡◌, ℕ, List, take, Option, None, Some}
use Rattle.std.specs.Io.KnownBytes.{Appends, Keeps}
use Rattle.txn_text.specs.Faults.{IsFirst}
use Rattle.commands.specs.Files.{AfterReadingReport, AfterReadingChapter}
use Rattle.run_interface.specs.declared.fault.RunFault.TheVariants.{Input, Memory, Output, Schedule}
use Rattle.checker.specs.declared.verdict.Verdict.{Verdict}
use Rattle.checker.specs.declared.verdict.Verdict.TheVariants.{Good, Bad}
use Rattle.checker.specs.declared.chapter.ChapterVerdict.{ChapterVerdict}
use Rattle.checker.specs.declared.chapter.ChapterVerdict.TheVariants as chapter
use Rattle.checker.specs.declared.chapter.ChapterFault.{ChapterFault}
use Rattle.checker.specs.declared.chapter.ChapterFault.TheVariants as fault
use Rattle.checker.specs.Lines.{line_of, chapter_line}
use Rattle.checker.specs.Chapters.{JudgesAfter}
use Rattle.command_line.specs.declared.checking_words.Earlier.{Earlier as Pair}
use Rattle.checker.specs.Verdicts.{Judges}
use Rattle.command_line.specs.declared.answer.Answer.{Answer}
use Rattle.command_line.specs.declared.answer.Answer.TheVariants.{Done, Unlawful, Refused, Unreadable, Failed, Earlier}

-- what comes of a verdict that was told
abbrev pub verdict_answer : Verdict → Answer
verdict_answer Good = Done
verdict_answer (Bad part) = Unlawful

abbrev pub chapter_answer : ChapterVerdict → Answer
chapter_answer chapter.Good = Done
chapter_answer (chapter.Bad part) = Unlawful
chapter_answer (chapter.Before part) = Unlawful
chapter_answer chapter.Elsewhere = Unlawful

-- what comes of a chapter on which there is none
abbrev pub fault_answer : ChapterFault → Answer
fault_answer (fault.File kind) = Failed (Input kind)
fault_answer (fault.Earlier kind) = Earlier kind
fault_answer fault.Memory = Failed Memory

-- of a verdict of which this comes: its line was written and nothing else, or a beginning of it where the output failed
abbrev pub Tells : Answer → List ℕ → Option (List ℕ) → Option (List ℕ) → Answer → Type 0
Tells of_it line old new Done = (of_it ≡ Done) × Appends old new line
Tells of_it line old new Unlawful = (of_it ≡ Unlawful) × Appends old new line
Tells of_it line old new Refused = ⊥
Tells of_it line old new (Unreadable source) = ⊥
Tells of_it line old new (Failed (Input kind)) = ⊥
Tells of_it line old new (Failed Memory) = ⊥
Tells of_it line old new (Failed Output) = (n : ℕ) × Appends old new (take n line)
-- a check has no schedule
Tells of_it line old new (Failed (Schedule kind)) = ⊥
Tells of_it line old new (Earlier kind) = ⊥

-- the verdict on the report, for the file, was told so
pub record ToldVerdict (file report : List ℕ) (old new : Option (List ℕ)) (a : Answer) : Type 0 where
  pub verdict : Verdict
  pub judged : Judges file report verdict
  pub told : Tells (verdict_answer verdict) (line_of verdict) old new a

-- by the answer: what a check of these bytes leaves
abbrev pub Checked : List ℕ → List ℕ → Option (List ℕ) → Option (List ℕ) → Answer → Type 0
Checked file report old new Done = ToldVerdict file report old new Done
Checked file report old new Unlawful = ToldVerdict file report old new Unlawful
Checked file report old new Refused = ⊥
Checked file report old new (Unreadable source) = ⊥
-- the file is refused, and nothing is written
Checked file report old new (Failed (Input kind)) = IsFirst file kind × Keeps old new
Checked file report old new (Failed Memory) = Keeps old new
Checked file report old new (Failed Output) = ToldVerdict file report old new (Failed Output)
Checked file report old new (Failed (Schedule kind)) = ⊥
Checked file report old new (Earlier kind) = ⊥

-- what a check of a report of a file leaves, of which it is known that they have these bytes, if anything is
abbrev pub CheckedFiles : Option (List ℕ) → Option (List ℕ) → Option (List ℕ) → Option (List ℕ) → Answer → Type 0
CheckedFiles file report old new a = AfterReadingReport file report (λ f r. Checked f r old new a) old new a

-- the verdict on a chapter, behind the one before it, was told so
pub record ToldChapter (file report earlier earlier_report : List ℕ) (old new : Option (List ℕ)) (a : Answer) : Type 0 where
  pub verdict : ChapterVerdict
  pub judged : JudgesAfter file report earlier earlier_report verdict
  pub told : Tells (chapter_answer verdict) (chapter_line verdict) old new a

-- by the answer: what a check of the bytes of a chapter leaves
abbrev pub CheckedAfter : List ℕ → List ℕ → List ℕ → List ℕ → Option (List ℕ) → Option (List ℕ) → Answer → Type 0
CheckedAfter file report earlier earlier_report old new Done = ToldChapter file report earlier earlier_report old new Done
CheckedAfter file report earlier earlier_report old new Unlawful = ToldChapter file report earlier earlier_report old new Unlawful
CheckedAfter file report earlier earlier_report old new Refused = ⊥
CheckedAfter file report earlier earlier_report old new (Unreadable source) = ⊥
-- one of the files is refused, and nothing is written
CheckedAfter file report earlier earlier_report old new (Failed (Input kind)) = IsFirst file kind × Keeps old new
CheckedAfter file report earlier earlier_report old new (Failed Memory) = Keeps old new
CheckedAfter file report earlier earlier_report old new (Failed Output) = ToldChapter file report earlier earlier_report old new (Failed Output)
CheckedAfter file report earlier earlier_report old new (Failed (Schedule kind)) = ⊥
CheckedAfter file report earlier earlier_report old new (Earlier kind) = (Judges file report Good × IsFirst earlier kind) × Keeps old new

-- of files of which it is known that they have these bytes, if anything is
abbrev pub CheckedChapter : Option (List ℕ) → Option (List ℕ) → Option (List ℕ) → Option (List ℕ) → Option (List ℕ) → Option (List ℕ) → Answer → Type 0
CheckedChapter file report earlier earlier_report old new a =
    AfterReadingChapter file report earlier earlier_report (λ f r e s. CheckedAfter f r e s old new a) old new a

-- alone, or behind an earlier pair
abbrev pub CheckedAs : Option Pair → Option (List ℕ) → Option (List ℕ) → Answer → Type 0
CheckedAs None old new a = CheckedFiles None None old new a
CheckedAs (Some pair) old new a = CheckedChapter None None None None old new a

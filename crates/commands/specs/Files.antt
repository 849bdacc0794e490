-- What of a file is read, and what a run of a file leaves.
use Rattle.std.specs.Prelude.{◌≡◌, ◌⊎◌, ℕ, ◌+◌, List, take, Option, Some, Result, Ok, Err, IfSome}
use Rattle.std.specs.Io.KnownBytes.{Keeps}
use Rattle.txn_programs.specs.Listing.{Listing}
use Rattle.txn_text.specs.Spelling.{Spells, first_fault}
use Rattle.text_words.specs.declared.fault.ReadFault.{ReadFault}
use Rattle.txn_text.specs.Tree.{longest}
use Rattle.text_line_reader.specs.Reports.{max_len}
use Rattle.run_interface.specs.Failures.{output_failures}
use Rattle.runner.specs.Running.{Ran}
use Rattle.run_interface.specs.declared.fault.RunFault.{RunFault}
use Rattle.run_interface.specs.declared.fault.RunFault.TheVariants.{Memory}
use Rattle.command_line.specs.declared.answer.Source.{Source}
use Rattle.command_line.specs.declared.answer.Source.TheVariants as source
use Rattle.command_line.specs.declared.answer.Answer.{Answer}
use Rattle.command_line.specs.declared.answer.Answer.TheVariants.{Done, Unlawful, Refused, Unreadable, Failed, Earlier}

-- how many bytes a file that begins so has at most, and a schedule
abbrev pub file_limit : List ℕ → ℕ
file_limit all = longest all

abbrev pub schedule_limit : List ℕ → ℕ
schedule_limit all = 1048576

-- how many bytes a report of this file has at most: as many as its catalogue gives, or where the file is refused as many
-- as one without cells does
abbrev pub IsReportLimit : List ℕ → ℕ → Type 0
IsReportLimit file limit =
    ((l : Listing) × Spells file l × (limit ≡ max_len l)) ⊎ ((kind : ReadFault) × (first_fault file ≡ Some kind) × (limit ≡ 8388608))

-- with one byte more than the limit it is known to be too long
abbrev pub read_of : ℕ → List ℕ → List ℕ
read_of limit all = take (limit + 1) all

-- the bytes are what is read of a reader, where it is known what it has
abbrev pub IsRead : (List ℕ → ℕ) → Option (List ℕ) → List ℕ → Type 0
IsRead limit known bytes = IfSome known (λ all. bytes ≡ read_of (limit all) all)

-- the bytes are what is read of a report of this file
abbrev pub IsReportOf : List ℕ → Option (List ℕ) → List ℕ → Type 0
IsReportOf file known bytes = (limit : ℕ) × IsReportLimit file limit × IsRead (λ all. limit) known bytes

-- such bytes were read, and this is so of them
abbrev pub OfRead : (List ℕ → ℕ) → Option (List ℕ) → (List ℕ → Type 0) → Type 0
OfRead limit known Left = (bytes : List ℕ) × IsRead limit known bytes × Left bytes

-- the same of a report of this file
abbrev pub OfReport : List ℕ → Option (List ℕ) → (List ℕ → Type 0) → Type 0
OfReport file known Left = (bytes : List ℕ) × IsReportOf file known bytes × Left bytes

-- what is answered where the reader of this file fails, or there is no memory for what it has
abbrev pub IsUnread : Source → Answer → Type 0
IsUnread s a = (a ≡ Unreadable s) ⊎ (a ≡ Failed Memory)

-- the same of the reader of one of two
abbrev pub IsOneUnread : Source → Source → Answer → Type 0
IsOneUnread s t a = IsUnread s a ⊎ IsUnread t a

-- the same of one of the four of a chapter
abbrev pub IsChapterUnread : Answer → Type 0
IsChapterUnread a = IsOneUnread source.File source.Report a ⊎ IsOneUnread source.EarlierFile source.EarlierReport a

-- it could not be read, and nothing was written; or it was, and this is so of what was read
abbrev pub AfterReading : (List ℕ → ℕ) → Option (List ℕ) → (List ℕ → Type 0) → Option (List ℕ) → Option (List ℕ) → Answer → Type 0
AfterReading limit known Left old new a = (IsUnread source.File a × Keeps old new) ⊎ OfRead limit known Left

-- the same of a file, and of a schedule of it
abbrev pub AfterReadingSchedule : Option (List ℕ) → Option (List ℕ) → (List ℕ → List ℕ → Type 0) → Option (List ℕ) → Option (List ℕ) → Answer → Type 0
AfterReadingSchedule file schedule Left old new a =
    (IsOneUnread source.File source.Schedule a × Keeps old new) ⊎ OfRead file_limit file (λ f. OfRead schedule_limit schedule (Left f))

-- the same of a file, and of a report of it
abbrev pub AfterReadingReport : Option (List ℕ) → Option (List ℕ) → (List ℕ → List ℕ → Type 0) → Option (List ℕ) → Option (List ℕ) → Answer → Type 0
AfterReadingReport file report Left old new a =
    (IsOneUnread source.File source.Report a × Keeps old new) ⊎ OfRead file_limit file (λ f. OfReport f report (Left f))

-- the same of a file and a report, and of an earlier file and a report of it
abbrev pub AfterReadingChapter : Option (List ℕ) → Option (List ℕ) → Option (List ℕ) → Option (List ℕ) → (List ℕ → List ℕ → List ℕ → List ℕ → Type 0) → Option (List ℕ) → Option (List ℕ) → Answer → Type 0
AfterReadingChapter file report earlier earlier_report Left old new a =
    (IsChapterUnread a × Keeps old new)
    ⊎ OfRead file_limit file (λ f. OfReport f report (λ r. OfRead file_limit earlier (λ e. OfReport e earlier_report (Left f r e))))

-- the answers of a run of bytes
abbrev pub done : Result (Unit {0}) RunFault
done = Ok tt

abbrev pub ended : RunFault → Result (Unit {0}) RunFault
ended fault = Err fault

-- by the answer: what a run of these bytes leaves that ends so
abbrev pub RanBytes : ℕ → Option ℕ → List ℕ → Option (List ℕ) → Option (List ℕ) → Answer → Type 0
RanBytes every seed input old new Done = Ran every seed input old new done
RanBytes every seed input old new Unlawful = ⊥
RanBytes every seed input old new Refused = ⊥
RanBytes every seed input old new (Unreadable source) = ⊥
RanBytes every seed input old new (Failed fault) = Ran every seed input old new (ended fault)
RanBytes every seed input old new (Earlier kind) = ⊥

-- what a run of a file leaves, of which it is known that it has these bytes, if anything is
abbrev pub RanFile : Option (List ℕ) → ℕ → Option ℕ → Option (List ℕ) → Option (List ℕ) → Answer → Type 0
RanFile known every seed old new a = AfterReading file_limit known (λ input. RanBytes every seed input old new a) old new a

-- how many calls of the sink failed
abbrev pub failed_calls : Answer → ℕ
failed_calls Done = 0
failed_calls Unlawful = 0
failed_calls Refused = 0
failed_calls (Unreadable source) = 0
failed_calls (Failed fault) = output_failures (ended fault)
failed_calls (Earlier kind) = 0

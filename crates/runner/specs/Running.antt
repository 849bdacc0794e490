-- What a run of a file leaves.
use Rattle.std.specs.Prelude.{◌≡◌, ℕ, List, [], take, Option, Some, Result, Ok, Err}
use Rattle.std.specs.Io.KnownBytes.{Appends, Keeps}
use Rattle.txn_programs.specs.Listing.{Listing}
use Rattle.txn_programs.specs.Told.{Told}
use Rattle.txn_programs.specs.LawfulReport.{LawfulReport, BaseReached}
use Rattle.txn_text.specs.Spelling.{Spells, first_fault}
use Rattle.txn_text.specs.ReportText.{report_text}
use Rattle.txn_text.specs.ReportFits.{ReportFits}
use Rattle.run_workers.specs.Drawing.{KeepsOrder}
use Rattle.run_workers.specs.GivingUp.{GaveUpForMemory, RunsInPlace}
use Rattle.run_workers.specs.Journals.{KeepsShort}
use Rattle.run_interface.specs.declared.fault.RunFault.{RunFault}
use Rattle.run_interface.specs.declared.fault.RunFault.TheVariants.{Input, Memory, Output, Schedule}

-- the text is that of one lawful report of exactly the file that the input spells, whose values are of 64 signed bits
pub record IsReportOf (input text : List ℕ) : Type 0 where
  pub file : Listing
  pub spelled : Spells input file
  pub report : Told
  pub lawful : LawfulReport file report
  pub reached : BaseReached file report
  pub values : ReportFits report
  pub printed : text ≡ report_text file report

-- And the journal of the report is as short as a run keeps it whose base moves after each `every` entries, 0 for never; and
-- each task that it tells as given up is of a transaction that takes memory, so there is none where none does.
pub record IsReportBy (every : ℕ) (input text : List ℕ) : Type 0 where
  pub of : IsReportOf input text
  pub short : KeepsShort every of.report
  pub memory : GaveUpForMemory of.file of.report
  pub kept : RunsInPlace of.file → of.report.memory ≡ []

-- And where the run has a seed, its order is the one that is drawn from there on.
pub record IsReportInOrder (every : ℕ) (seed : Option ℕ) (input text : List ℕ) : Type 0 where
  pub by : IsReportBy every input text
  pub order : KeepsOrder by.of.file every seed by.of.report

-- such a text was written
pub record WroteReport (every : ℕ) (seed : Option ℕ) (input : List ℕ) (old new : Option (List ℕ)) : Type 0 where
  pub text : List ℕ
  pub report : IsReportInOrder every seed input text
  pub written : Appends old new text

-- a beginning of such a text was written
pub record WroteBeginning (every : ℕ) (seed : Option ℕ) (input : List ℕ) (old new : Option (List ℕ)) : Type 0 where
  pub text : List ℕ
  pub report : IsReportInOrder every seed input text
  pub count : ℕ
  pub written : Appends old new (take count text)

-- by the answer: a whole report, or nothing and the first kind of fault, or nothing, or a beginning
abbrev pub Ran : {U : Type 0} → ℕ → Option ℕ → List ℕ → Option (List ℕ) → Option (List ℕ) → Result U RunFault → Type 0
Ran every seed input old new (Ok u) = WroteReport every seed input old new
Ran every seed input old new (Err (Input kind)) = (first_fault input ≡ Some kind) × Keeps old new
Ran every seed input old new (Err Memory) = Keeps old new
Ran every seed input old new (Err Output) = WroteBeginning every seed input old new
-- a run of all tasks has no schedule
Ran every seed input old new (Err (Schedule kind)) = ⊥

-- by the answer: this text was written, or nothing, or a beginning of it
abbrev pub Wrote : {U : Type 0} → List ℕ → Option (List ℕ) → Option (List ℕ) → Result U RunFault → Type 0
Wrote text old new (Ok u) = Appends old new text
Wrote text old new (Err (Input kind)) = ⊥
Wrote text old new (Err Memory) = Keeps old new
Wrote text old new (Err Output) = (n : ℕ) × Appends old new (take n text)
Wrote text old new (Err (Schedule kind)) = ⊥

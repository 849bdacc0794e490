-- What explaining a report of a file writes.
use Rattle.std.specs.Prelude.{◌≡◌, ℕ, List, take, Option, Some, Result, Ok, Err}
use Rattle.std.specs.Io.KnownBytes.{Appends, Keeps}
use Rattle.txn_programs.specs.Listing.{Listing}
use Rattle.txn_text.specs.Spelling.{Spells, first_fault}
use Rattle.run_interface.specs.declared.fault.RunFault.{RunFault}
use Rattle.run_interface.specs.declared.fault.RunFault.TheVariants.{Input, Memory, Output, Schedule}
use Rattle.checker.specs.declared.verdict.Verdict.{Verdict}
use Rattle.explain_reports.specs.declared.explaining.ReportExplanation.{ReportExplanation}
use Rattle.explain_reports.specs.Explaining.{IsExplained, verdict_of}
use Rattle.explain_reports.specs.Texts.{explanation_text}

-- the text says of the report what is so, for the file that the bytes spell, and this is its verdict
pub record IsAnswer (input report : List ℕ) (verdict : Verdict) (text : List ℕ) : Type 0 where
  pub file : Listing
  pub spelled : Spells input file
  pub said : ReportExplanation
  pub so : IsExplained file report said
  pub verdict_is : verdict ≡ verdict_of said
  pub text_is : text ≡ explanation_text file said

-- that text was written
pub record Wrote (input report : List ℕ) (verdict : Verdict) (old new : Option (List ℕ)) : Type 0 where
  pub text : List ℕ
  pub is : IsAnswer input report verdict text
  pub written : Appends old new text

-- a beginning of one was written
pub record WroteBeginning (input report : List ℕ) (old new : Option (List ℕ)) : Type 0 where
  pub verdict : Verdict
  pub text : List ℕ
  pub is : IsAnswer input report verdict text
  pub count : ℕ
  pub written : Appends old new (take count text)

-- by the answer: the whole text; or nothing and the first kind of fault of the file; or nothing; or a beginning
abbrev pub Written : List ℕ → List ℕ → Option (List ℕ) → Option (List ℕ) → Result Verdict RunFault → Type 0
Written input report old new (Ok verdict) = Wrote input report verdict old new
Written input report old new (Err (Input kind)) = (first_fault input ≡ Some kind) × Keeps old new
Written input report old new (Err Memory) = Keeps old new
Written input report old new (Err Output) = WroteBeginning input report old new
-- there is no schedule
Written input report old new (Err (Schedule kind)) = ⊥

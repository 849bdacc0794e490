-- What printing the bytes of a file leaves.
use Rattle.std.specs.Prelude.{◌≡◌, ◌≤◌, ℕ, List, length, take, Option, Some, Result, Ok, Err}
use Rattle.std.specs.Io.KnownBytes.{Appends, Keeps}
use Rattle.txn_programs.specs.Listing.{Listing}
use Rattle.txn_programs.specs.Told.{Told}
use Rattle.txn_programs.specs.LawfulReport.{LawfulReport}
use Rattle.txn_text.specs.Tree.{longest}
use Rattle.txn_text.specs.Spelling.{Spells, first_fault}
use Rattle.txn_text.specs.Canonical.{file_text}
use Rattle.text_line_reader.specs.Reports.{IsReport}
use Rattle.run_interface.specs.declared.fault.RunFault.{RunFault}
use Rattle.run_interface.specs.declared.fault.RunFault.TheVariants.{Input, Memory, Output, Schedule}
use Rattle.checker.specs.declared.verdict.Part.{Part}
use Rattle.checker.specs.declared.verdict.Verdict.{Verdict}
use Rattle.checker.specs.declared.verdict.Verdict.TheVariants.{Good, Bad}
use Rattle.checker.specs.Lines.{line_of}
use Rattle.checker.specs.Verdicts.{IsVerdictOn}
use Rattle.file_chains.specs.declared.next.Next.{Next}
use Rattle.file_chains.specs.GoingOn.{next_of}

-- the text is the canonical one of the listing, and is read as it, unless it is too long
pub record IsTextOf (l : Listing) (text : List ℕ) : Type 0 where
  pub canonical : text ≡ file_text l
  pub read : length text ≤ longest text → Spells text l

-- the text is the canonical one of the file that the bytes spell
pub record IsPrinted (input text : List ℕ) : Type 0 where
  pub file : Listing
  pub spelled : Spells input file
  pub printed : IsTextOf file text

-- the text is the canonical one of what goes on where the report ended, which is lawful for the file
pub record IsPrintedOn (next : Next) (input report text : List ℕ) : Type 0 where
  pub file : Listing
  pub spelled : Spells input file
  pub told : Told
  pub read : IsReport file report told
  pub lawful : LawfulReport file told
  pub printed : IsTextOf (next_of next file told) text

-- the report is not lawful for the file, and this part of it fails first
pub record IsUnlawful (input report : List ℕ) (part : Part) : Type 0 where
  pub file : Listing
  pub spelled : Spells input file
  pub verdict : IsVerdictOn file report (Bad part)

-- a text of this kind was written
pub record Wrote (IsText : List ℕ → Type 0) (old new : Option (List ℕ)) : Type 0 where
  pub text : List ℕ
  pub is : IsText text
  pub written : Appends old new text

-- a beginning of one was written
pub record WroteBeginning (IsText : List ℕ → Type 0) (old new : Option (List ℕ)) : Type 0 where
  pub text : List ℕ
  pub is : IsText text
  pub count : ℕ
  pub written : Appends old new (take count text)

-- by the answer: the whole text, or nothing and the first kind of fault, or nothing, or a beginning
abbrev pub Printed : {U : Type 0} → List ℕ → Option (List ℕ) → Option (List ℕ) → Result U RunFault → Type 0
Printed input old new (Ok u) = Wrote (IsPrinted input) old new
Printed input old new (Err (Input kind)) = (first_fault input ≡ Some kind) × Keeps old new
Printed input old new (Err Memory) = Keeps old new
Printed input old new (Err Output) = WroteBeginning (IsPrinted input) old new
-- there is no schedule
Printed input old new (Err (Schedule kind)) = ⊥

-- what is written of a file and a report: the text, or the line of the verdict
abbrev pub IsAnswer : Next → List ℕ → List ℕ → Verdict → List ℕ → Type 0
IsAnswer next input report Good text = IsPrintedOn next input report text
IsAnswer next input report (Bad part) text = IsUnlawful input report part × (text ≡ line_of (Bad part))

-- by the answer: the text of the file that goes on, or the verdict; or nothing; or a beginning
abbrev pub PrintedOn : Next → List ℕ → List ℕ → Option (List ℕ) → Option (List ℕ) → Result Verdict RunFault → Type 0
PrintedOn next input report old new (Ok verdict) = Wrote (IsAnswer next input report verdict) old new
PrintedOn next input report old new (Err (Input kind)) = (first_fault input ≡ Some kind) × Keeps old new
PrintedOn next input report old new (Err Memory) = Keeps old new
PrintedOn next input report old new (Err Output) = (verdict : Verdict)
    × WroteBeginning (IsAnswer next input report verdict) old new
PrintedOn next input report old new (Err (Schedule kind)) = ⊥

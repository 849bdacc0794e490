-- Which verdict is that on a report.
use Rattle.std.specs.Prelude.{ℕ, List}
use Rattle.txn_programs.specs.Listing.{Listing}
use Rattle.txn_programs.specs.Told.{Told}
use Rattle.txn_programs.specs.LawfulReport.{LawfulReport}
use Rattle.txn_text.specs.Spelling.{Spells}
use Rattle.text_line_reader.specs.Reports.{IsReport}
use Rattle.checker.specs.declared.verdict.Part.{Part}
use Rattle.checker.specs.declared.verdict.Part.TheVariants.{Text, Base, Entries, Present, Tasks, Parked}
use Rattle.checker.specs.declared.verdict.Verdict.{Verdict}
use Rattle.checker.specs.declared.verdict.Verdict.TheVariants.{Good, Bad}
use Rattle.checker.specs.Parts.{BaseHolds, EntriesHold, PresentHolds, TasksHold, ParkedHold}

-- all parts of a report hold that was read
pub record AllHold (l : Listing) (r : Told) : Type 0 where
  pub base : BaseHolds l r
  pub entries : EntriesHold l r
  pub present : PresentHolds l r
  pub tasks : TasksHold l r
  pub parked : ParkedHold l r

-- the part does not hold, and all before it do
abbrev pub FailsFirst : Listing → Told → Part → Type 0
FailsFirst l r Text = ⊥
FailsFirst l r Base = BaseHolds l r → ⊥
FailsFirst l r Entries = BaseHolds l r × (EntriesHold l r → ⊥)
FailsFirst l r Present = BaseHolds l r × EntriesHold l r × (PresentHolds l r → ⊥)
FailsFirst l r Tasks = BaseHolds l r × EntriesHold l r × PresentHolds l r × (TasksHold l r → ⊥)
FailsFirst l r Parked = BaseHolds l r × EntriesHold l r × PresentHolds l r × TasksHold l r × (ParkedHold l r → ⊥)

-- the verdict on a report that was read
abbrev pub IsVerdict : Listing → Told → Verdict → Type 0
IsVerdict l r Good = LawfulReport l r
IsVerdict l r (Bad part) = FailsFirst l r part

-- the bytes are the text of a report on which this is the verdict
pub record ReadAs (l : Listing) (bytes : List ℕ) (v : Verdict) : Type 0 where
  pub report : Told
  pub read : IsReport l bytes report
  pub verdict : IsVerdict l report v

-- the verdict on the bytes of a report
abbrev pub IsVerdictOn : Listing → List ℕ → Verdict → Type 0
IsVerdictOn l bytes Good = ReadAs l bytes Good
-- they are the text of no report
IsVerdictOn l bytes (Bad Text) = (r : Told) → IsReport l bytes r → ⊥
IsVerdictOn l bytes (Bad Base) = ReadAs l bytes (Bad Base)
IsVerdictOn l bytes (Bad Entries) = ReadAs l bytes (Bad Entries)
IsVerdictOn l bytes (Bad Present) = ReadAs l bytes (Bad Present)
IsVerdictOn l bytes (Bad Tasks) = ReadAs l bytes (Bad Tasks)
IsVerdictOn l bytes (Bad Parked) = ReadAs l bytes (Bad Parked)

-- the verdict on the bytes of a report, of the file that these bytes spell
pub record Judges (file report : List ℕ) (v : Verdict) : Type 0 where
  pub listing : Listing
  pub spelled : Spells file listing
  pub verdict : IsVerdictOn listing report v

-- What is said of a report.
use Rattle.std.specs.Prelude.{◌≡◌, ℕ, zero, suc, ◌+◌, Option, Some, None, List, [], ◌∷◌, ◌++◌, slice_get, codes}
use Rattle.txn_programs.specs.Listing.{Listing}
use Rattle.txn_programs.specs.Told.{Told}
use Rattle.text_line_reader.specs.Lines.{Line, Whole, Cut, lines}
use Rattle.text_line_reader.specs.Reports.{IsReport, IsFirst}
use Rattle.checker.specs.declared.verdict.Part.TheVariants.{Text}
use Rattle.checker.specs.declared.verdict.Verdict.{Verdict}
use Rattle.checker.specs.declared.verdict.Verdict.TheVariants as verdict
use Rattle.checker.specs.Verdicts.{ReadAs, FailsFirst}
use Rattle.explain_reports.specs.declared.flaw.Flaw.{Flaw}
use Rattle.explain_reports.specs.declared.explaining.ReportExplanation.{ReportExplanation}
use Rattle.explain_reports.specs.declared.explaining.ReportExplanation.TheVariants.{Good, Unread, Bad}
use Rattle.explain_reports.specs.Flaws.{part_of, IsFlaw}
use Rattle.explain_reports.specs.Rows.{place_of_flaw, IsRow}

-- the text of the line at a place counted from 0, if there is one that a newline ends
abbrev pub whole_at : ℕ → List Line → Option (List ℕ)
whole_at n [] = None
whole_at n (Cut text ∷ ls) = None
whole_at zero (Whole text ∷ ls) = Some text
whole_at (suc n) (Whole text ∷ ls) = whole_at n ls

-- the bytes are the text of a report, this is what first does not hold of it, and it shows on the line of this
-- number, counted from 1, which has this text
pub record IsBad (l : Listing) (bytes : List ℕ) (number : ℕ) (text : List ℕ) (flaw : Flaw) : Type 0 where
  pub report : Told
  pub read : IsReport l bytes report
  pub fails : FailsFirst l report (part_of flaw)
  pub flaw_is : IsFlaw l report flaw
  pub numbered : number ≡ place_of_flaw l report flaw + 1
  pub stands : slice_get (lines bytes) (place_of_flaw l report flaw) ≡ Some (Whole text)
  pub row : IsRow l report flaw (text ++ codes "\n")

-- what is said is so: it is the text of a lawful report; or of none, and this is the first kind of fault; or of one
-- of which this does not hold
abbrev pub IsExplained : Listing → List ℕ → ReportExplanation → Type 0
IsExplained l bytes Good = ReadAs l bytes verdict.Good
IsExplained l bytes (Unread kind) = IsFirst l bytes kind × ((r : Told) → IsReport l bytes r → ⊥)
IsExplained l bytes (Bad line flaw) = IsBad l bytes line.number line.text.now flaw

-- the checker's verdict
abbrev pub verdict_of : ReportExplanation → Verdict
verdict_of Good = verdict.Good
verdict_of (Unread kind) = verdict.Bad Text
verdict_of (Bad line flaw) = verdict.Bad (part_of flaw)

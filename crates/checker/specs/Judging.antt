-- What came of judging a report.
use Rattle.std.specs.Prelude.{◌≡◌, ℕ, List}
use Rattle.txn_programs.specs.Listing.{Listing}
use Rattle.txn_programs.specs.Told.{Told, told}
use Rattle.txn_programs.specs.LawfulReport.{LawfulReport}
use Rattle.text_line_reader.specs.Reports.{IsReport}
use Rattle.checker.specs.declared.verdict.Verdict.{Verdict}
use Rattle.checker.specs.declared.verdict.Verdict.TheVariants as verdict
use Rattle.checker.specs.declared.judging.Judgement.{Judgement}
use Rattle.checker.specs.declared.judging.Judgement.TheVariants.{Lawful, Bad}
use Rattle.checker.specs.Verdicts.{IsVerdictOn}

-- the verdict that it is
abbrev pub verdict_of : Judgement → Verdict
verdict_of (Lawful report) = verdict.Good
verdict_of (Bad part) = verdict.Bad part

-- they were read as a report that is lawful; or this is the part that fails first
abbrev pub IsJudged : Listing → List ℕ → Judgement → Type 0
IsJudged l bytes (Lawful report) = IsReport l bytes (told report) × LawfulReport l (told report)
IsJudged l bytes (Bad part) = IsVerdictOn l bytes (verdict.Bad part)

-- where there is a report it is this one
abbrev pub IsOf : Told → Judgement → Type 0
IsOf r (Lawful report) = told report ≡ r
IsOf r (Bad part) = Unit {0}

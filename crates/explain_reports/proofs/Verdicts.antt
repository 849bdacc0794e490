-- The verdict of what is said.
use Rattle.std.proofs.Common.{◌≡◌, ◌∙◌, ℕ, List, Result, Ok, refl, sym, subst, ◌⊎◌, inl, inr}
use Rattle.txn_programs.specs.Listing.{Listing}
use Rattle.txn_programs.specs.Told.{Told}
use Rattle.text_words.specs.declared.fault.ReadFault.{ReadFault}
use Rattle.text_line_reader.specs.Reports.{IsReport}
use Rattle.text_line_reader.proofs.ReportReading.{Rules, report_read}
use Rattle.checker.specs.declared.verdict.Part.{Part}
use Rattle.checker.specs.declared.verdict.Part.TheVariants.{Text, Base, Entries, Present, Tasks, Parked}
use Rattle.checker.specs.declared.verdict.Verdict.{Verdict}
use Rattle.checker.specs.declared.verdict.Verdict.TheVariants as verdict
use Rattle.checker.specs.Verdicts.{IsVerdict, ReadAs, FailsFirst, IsVerdictOn}
use Rattle.explain_reports.specs.declared.explaining.ReportExplanation.{ReportExplanation}
use Rattle.explain_reports.specs.declared.explaining.ReportExplanation.TheVariants.{Good, Unread, Bad}
use Rattle.explain_reports.specs.Flaws.{part_of}
use Rattle.explain_reports.specs.Explaining.{IsExplained, verdict_of}

bad_on : (l : Listing) (bytes : List ℕ) (r : Told) (p : Part) → IsReport l bytes r → FailsFirst l r p → IsVerdictOn l bytes (verdict.Bad p)
bad_on l bytes r Text is h = absurd h
bad_on l bytes r Base is h = record { report = r; read = is; verdict = h }
bad_on l bytes r Entries is h = record { report = r; read = is; verdict = h }
bad_on l bytes r Present is h = record { report = r; read = is; verdict = h }
bad_on l bytes r Tasks is h = record { report = r; read = is; verdict = h }
bad_on l bytes r Parked is h = record { report = r; read = is; verdict = h }

pub verdict_is : (l : Listing) (bytes : List ℕ) (x : ReportExplanation) → IsExplained l bytes x → IsVerdictOn l bytes (verdict_of x)
verdict_is l bytes Good h = h
verdict_is l bytes (Unread kind) h = h.1
verdict_is l bytes (Bad line flaw) h = bad_on l bytes h.report (part_of flaw) h.read h.fails

-- a verdict is that on the text of a report, or that there is none
record Nothing (l : Listing) (bytes : List ℕ) (v : Verdict) : Type 0 where
  is : v ≡ verdict.Bad Text
  none : (r : Told) → IsReport l bytes r → ⊥

read_or_not : (l : Listing) (bytes : List ℕ) (v : Verdict) → IsVerdictOn l bytes v → ReadAs l bytes v ⊎ Nothing l bytes v
read_or_not l bytes verdict.Good h = inl h
read_or_not l bytes (verdict.Bad Text) h = inr (record { is = refl; none = h })
read_or_not l bytes (verdict.Bad Base) h = inl h
read_or_not l bytes (verdict.Bad Entries) h = inl h
read_or_not l bytes (verdict.Bad Present) h = inl h
read_or_not l bytes (verdict.Bad Tasks) h = inl h
read_or_not l bytes (verdict.Bad Parked) h = inl h

abbrev read_as : Told → Result Told ReadFault
read_as r = Ok r

same_told : (r s : Told) → read_as r ≡ read_as s → r ≡ s
same_told r s e = cc

-- bytes are the text of one report
one_report : (l : Listing) (bytes : List ℕ) (r s : Told) → Rules l → IsReport l bytes r → IsReport l bytes s → r ≡ s
one_report l bytes r s rules a b = same_told r s (sym (report_read l bytes r rules a) ∙ report_read l bytes s rules b)

pub same_verdict : (l : Listing) (bytes : List ℕ) (v w : Verdict) → Rules l → ((r : Told) → IsVerdict l r v → IsVerdict l r w → v ≡ w) → IsVerdictOn l bytes v → IsVerdictOn l bytes w → v ≡ w
same_verdict l bytes v w rules law a b = elim (read_or_not l bytes v a) [
  | inl x ↦ elim (read_or_not l bytes w b) [
    | inl y ↦ law y.report (subst (λ (t : Told). IsVerdict l t v) (one_report l bytes x.report y.report rules x.read y.read) x.verdict) y.verdict
    | inr y ↦ absurd (y.none x.report x.read)
  ]
  | inr x ↦ elim (read_or_not l bytes w b) [
    | inl y ↦ absurd (x.none y.report y.read)
    | inr y ↦ x.is ∙ sym y.is
  ]
]

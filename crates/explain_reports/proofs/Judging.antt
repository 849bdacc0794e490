-- From what does not hold of a part to what does not hold of a report.
use Rattle.std.proofs.Common.{◌↔◌, ℕ, Option, Some, None, sym, subst}
use Rattle.txn_programs.specs.declared.report.Entry.{Entry}
use Rattle.txn_programs.specs.Listing.{Listing}
use Rattle.txn_programs.specs.Told.{Told, base_of}
use Rattle.txn_programs.specs.LawfulReport.{LawfulReport}
use Rattle.checker.specs.declared.verdict.Part.{Part}
use Rattle.checker.specs.declared.verdict.Part.TheVariants as part
use Rattle.checker.specs.Parts.{BaseHolds, EntriesHold, PresentHolds, TasksHold}
use Rattle.checker.specs.Verdicts.{AllHold, FailsFirst}
use Rattle.explain_reports.specs.declared.flaw.Flaw.{Flaw}
use Rattle.explain_reports.specs.declared.entries.Replayed.TheVariants.{Stopped}
use Rattle.explain_reports.specs.Parts.{GoesOnThere}
use Rattle.explain_reports.specs.Steps.{IsReplayed}
use Rattle.explain_reports.specs.Flaws.{part_of, IsFlaw, FailsBy, IsPartJudged, IsJudged}
use Rattle.explain_reports.proofs.First.{not_all}
use Rattle.explain_reports.proofs.Replaying.{each_goes_on}

by_part : (l : Listing) (r : Told) (p : Part) (flaw : Flaw) → FailsFirst l r p → FailsBy l r p flaw → FailsFirst l r (part_of flaw) × IsFlaw l r flaw
by_part l r p flaw first h = (subst (FailsFirst l r) (sym h.part) first, h.flaw_is)

pub by_entries : (l : Listing) (r : Told) (i : ℕ) (due : Entry) → BaseHolds l r → IsReplayed l (base_of r) r.entries (Stopped i due)
    → (BaseHolds l r × (EntriesHold l r → ⊥)) × IsReplayed l (base_of r) r.entries (Stopped i due)
by_entries l r i due base stopped =
    ((base, λ h. not_all (GoesOnThere l (base_of r) r.entries) r.entries i stopped.0 (each_goes_on l (base_of r) r.entries h)), stopped)

pub by_present : (l : Listing) (r : Told) (flaw : Flaw) → BaseHolds l r → EntriesHold l r → FailsBy l r part.Present flaw → FailsFirst l r (part_of flaw) × IsFlaw l r flaw
by_present l r flaw base entries h = by_part l r part.Present flaw (base, entries, h.fails) h

pub by_tasks : (l : Listing) (r : Told) (flaw : Flaw) → BaseHolds l r → EntriesHold l r → PresentHolds l r → FailsBy l r part.Tasks flaw → FailsFirst l r (part_of flaw) × IsFlaw l r flaw
by_tasks l r flaw base entries present h = by_part l r part.Tasks flaw (base, entries, present, h.fails) h

pub by_parked : (l : Listing) (r : Told) (o : Option Flaw) → (LawfulReport l r ↔ AllHold l r) → BaseHolds l r → EntriesHold l r → PresentHolds l r → TasksHold l r → IsPartJudged l r part.Parked o → IsJudged l r o
by_parked l r None law base entries present tasks h = law.1 (record { base = base; entries = entries; present = present; tasks = tasks; parked = h })
by_parked l r (Some flaw) law base entries present tasks h = by_part l r part.Parked flaw (base, entries, present, tasks, h.fails) h

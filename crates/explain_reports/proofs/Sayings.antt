-- What is said of a chapter, by what is said of its report and of the earlier one.
use Rattle.std.proofs.Common.{◌≡◌, ℕ, List, sym, subst}
use Rattle.txn_programs.specs.Listing.{Listing}
use Rattle.txn_text.specs.Spelling.{Spells}
use Rattle.text_line_reader.proofs.ReportReading.{Rules}
use Rattle.checker.specs.declared.verdict.Verdict.{Verdict}
use Rattle.checker.specs.declared.verdict.Verdict.TheVariants as verdict
use Rattle.checker.specs.declared.chapter.ChapterVerdict.{ChapterVerdict}
use Rattle.checker.specs.declared.chapter.ChapterVerdict.TheVariants.{Good, Bad, Before, Elsewhere}
use Rattle.txn_programs.specs.Told.{Told}
use Rattle.checker.specs.Verdicts.{IsVerdict, IsVerdictOn}
use Rattle.checker.specs.Chapters.{IsVerdictAfter, JudgesAfter}
use Rattle.explain_reports.specs.Writing.{IsAnswer}
use Rattle.explain_reports.specs.Explaining.{verdict_of}
use Rattle.explain_reports.specs.Chapters.{IsSaid, IsSaidAfter}
use Rattle.explain_reports.proofs.Verdicts.{verdict_is, same_verdict}

-- a file spells this listing alone
abbrev pub SpellsOnly : List ℕ → Listing → Type 0
SpellsOnly bytes l = (m : Listing) → Spells bytes m → m ≡ l

-- there is one verdict on a report
abbrev pub OneVerdict : Type 0
OneVerdict = (l : Listing) (r : Told) (v w : Verdict) → IsVerdict l r v → IsVerdict l r w → v ≡ w

-- the verdict that is said is that on the report
pub answer_on : (f r : List ℕ) (l : Listing) (v : Verdict) (text : List ℕ) → SpellsOnly f l → IsAnswer f r v text → IsVerdictOn l r v
answer_on f r l v text only a =
    subst (λ (w : Verdict). IsVerdictOn l r w) (sym a.verdict_is) (subst (λ (m : Listing). IsVerdictOn m r (verdict_of a.said)) (only a.file a.spelled) (verdict_is a.file r a.said a.so))

pub answer_alone : (f r : List ℕ) (l : Listing) (v w : Verdict) (text : List ℕ) → OneVerdict → Spells f l → SpellsOnly f l → IsAnswer f r v text → IsVerdictOn l r w → v ≡ w
answer_alone f r l v w text one spells only a b =
    let rules : Rules l = record { valued = sym spells.declared.valued; names = spells.declared.names; limits = spells.declared.limits } in
    same_verdict l r v w rules (λ t x y. one l t v w x y) (answer_on f r l v text only a) b

-- the verdict behind the earlier pair, with the report's own
with_good : (f r e s : List ℕ) (next : Listing) → Spells f next → IsVerdictOn next r verdict.Good → (v : ChapterVerdict) → IsVerdictAfter e s next v → JudgesAfter f r e s v
with_good f r e s next spells good Good h = record { listing = next; spelled = spells; good = record { listing = next; spelled = spells; verdict = good }; verdict = h }
with_good f r e s next spells good (Bad p) h = absurd h
with_good f r e s next spells good (Before p) h = record { listing = next; spelled = spells; good = record { listing = next; spelled = spells; verdict = good }; verdict = h }
with_good f r e s next spells good Elsewhere h = record { listing = next; spelled = spells; good = record { listing = next; spelled = spells; verdict = good }; verdict = h }

pub said_with_good : (f r e s : List ℕ) (next : Listing) → Spells f next → IsVerdictOn next r verdict.Good → (v : ChapterVerdict) (text : List ℕ) → IsSaidAfter e s next v text → IsSaid f r e s v text
said_with_good f r e s next spells good Good text h = record { verdict = with_good f r e s next spells good Good h.verdict; says = record { next = next; spelled = spells; says = h.says } }
said_with_good f r e s next spells good (Bad part) text h = absurd h.verdict
said_with_good f r e s next spells good (Before part) text h = record { verdict = with_good f r e s next spells good (Before part) h.verdict; says = record { next = next; spelled = spells; says = h.says } }
said_with_good f r e s next spells good Elsewhere text h = record { verdict = with_good f r e s next spells good Elsewhere h.verdict; says = record { next = next; spelled = spells; says = h.says } }

-- What is said of a chapter, and of the one before it.
use Rattle.std.specs.Prelude.{◌≡◌, ℕ, List, ◌++◌, take, Option, Result, Ok, Err, codes}
use Rattle.std.specs.Io.KnownBytes.{Appends, Keeps}
use Rattle.txn_programs.specs.Listing.{Listing}
use Rattle.txn_text.specs.Spelling.{Spells}
use Rattle.checker.specs.declared.verdict.Part.{Part}
use Rattle.checker.specs.declared.verdict.Verdict.TheVariants as verdict
use Rattle.checker.specs.declared.chapter.ChapterVerdict.{ChapterVerdict}
use Rattle.checker.specs.declared.chapter.ChapterVerdict.TheVariants.{Good, Bad, Before, Elsewhere}
use Rattle.checker.specs.Lines.{chapter_line}
use Rattle.checker.specs.Chapters.{Follows, IsVerdictAfter, JudgesAfter, IsUnjudged}
use Rattle.explain_reports.specs.declared.chapters.ChapterUntold.{ChapterUntold}
use Rattle.explain_reports.specs.declared.chapters.ChapterUntold.TheVariants.{Unjudged, Output}
use Rattle.explain_reports.specs.Writing.{IsAnswer}
use Rattle.explain_reports.specs.Gaps.{IsGap}

-- `before`, and what is said of the earlier report, in which this part fails first
abbrev pub IsSaidBefore : List ℕ → List ℕ → Part → List ℕ → Type 0
IsSaidBefore earlier report part text = (said : List ℕ) × IsAnswer earlier report (verdict.Bad part) said
    × (text ≡ codes "before " ++ said)

-- what is said of a chapter of this listing whose own report is lawful
abbrev pub SaysAfter : List ℕ → List ℕ → Listing → ChapterVerdict → List ℕ → Type 0
SaysAfter earlier report next Good text = text ≡ chapter_line Good
SaysAfter earlier report next (Bad part) text = ⊥
SaysAfter earlier report next (Before part) text = IsSaidBefore earlier report part text
SaysAfter earlier report next Elsewhere text = Follows (λ l r n. IsGap l r n text) earlier report next

-- with the verdict of the check
pub record IsSaidAfter (earlier report : List ℕ) (next : Listing) (v : ChapterVerdict) (text : List ℕ) : Type 0 where
  pub verdict : IsVerdictAfter earlier report next v
  pub says : SaysAfter earlier report next v text

-- what is said of a report that is lawful for a file, by what is said of the earlier pair
pub record SaysBehind (file earlier report : List ℕ) (v : ChapterVerdict) (text : List ℕ) : Type 0 where
  pub next : Listing
  pub spelled : Spells file next
  pub says : SaysAfter earlier report next v text

-- what is said of a chapter: of a report that is not lawful what is ever said of it
abbrev pub Says : List ℕ → List ℕ → List ℕ → List ℕ → ChapterVerdict → List ℕ → Type 0
Says file report earlier earlier_report Good text = SaysBehind file earlier earlier_report Good text
Says file report earlier earlier_report (Bad part) text = IsAnswer file report (verdict.Bad part) text
Says file report earlier earlier_report (Before part) text = SaysBehind file earlier earlier_report (Before part) text
Says file report earlier earlier_report Elsewhere text = SaysBehind file earlier earlier_report Elsewhere text

-- with the verdict of the check
pub record IsSaid (file report earlier earlier_report : List ℕ) (v : ChapterVerdict) (text : List ℕ) : Type 0 where
  pub verdict : JudgesAfter file report earlier earlier_report v
  pub says : Says file report earlier earlier_report v text

-- that text was written
pub record WroteChapter (file report earlier earlier_report : List ℕ) (v : ChapterVerdict) (old new : Option (List ℕ)) : Type 0 where
  pub text : List ℕ
  pub is : IsSaid file report earlier earlier_report v text
  pub written : Appends old new text

-- a beginning of one was written
pub record WroteChapterBeginning (file report earlier earlier_report : List ℕ) (old new : Option (List ℕ)) : Type 0 where
  pub verdict : ChapterVerdict
  pub text : List ℕ
  pub is : IsSaid file report earlier earlier_report verdict text
  pub count : ℕ
  pub written : Appends old new (take count text)

-- by the answer: the whole text; or nothing, and why there is no verdict; or a beginning
abbrev pub ChapterWritten : List ℕ → List ℕ → List ℕ → List ℕ → Option (List ℕ) → Option (List ℕ)
    → Result ChapterVerdict ChapterUntold → Type 0
ChapterWritten file report earlier earlier_report old new (Ok v) =
    WroteChapter file report earlier earlier_report v old new
ChapterWritten file report earlier earlier_report old new (Err (Unjudged fault)) = IsUnjudged file report earlier fault
    × Keeps old new
ChapterWritten file report earlier earlier_report old new (Err Output) =
    WroteChapterBeginning file report earlier earlier_report old new

-- how many calls of the sink failed
abbrev pub untold_failures : Result ChapterVerdict ChapterUntold → ℕ
untold_failures (Ok v) = 0
untold_failures (Err (Unjudged fault)) = 0
untold_failures (Err Output) = 1

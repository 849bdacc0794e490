-- A chapter that begins where the report before it ended.
use Rattle.std.specs.Prelude.{◌≡◌, ℕ, List, map, length, take}
use Rattle.txn_programs.specs.declared.arguments.Call.{Call}
use Rattle.txn_programs.specs.declared.ast.TaskId.{TaskId}
use Rattle.txn_programs.specs.declared.ast.TxId.{TxId}
use Rattle.txn_programs.specs.Listing.{Listing, calls, task_arguments}
use Rattle.txn_programs.specs.Told.{Told, now_of}
use Rattle.txn_programs.specs.LawfulReport.{LawfulReport}
use Rattle.txn.specs.Grown.{SameProgram}
use Rattle.txn.specs.Values.{begun}
use Rattle.txn_text.specs.Spelling.{Spells}
use Rattle.txn_text.specs.Faults.{IsFirst}
use Rattle.text_line_reader.specs.Reports.{IsReport}
use Rattle.checker.specs.declared.verdict.Verdict.TheVariants as verdict
use Rattle.checker.specs.declared.chapter.ChapterVerdict.{ChapterVerdict}
use Rattle.checker.specs.declared.chapter.ChapterVerdict.TheVariants.{Good, Bad, Before, Elsewhere}
use Rattle.checker.specs.declared.chapter.ChapterFault.{ChapterFault}
use Rattle.checker.specs.declared.chapter.ChapterFault.TheVariants as fault
use Rattle.checker.specs.Verdicts.{Judges}

-- what a line calls: the transaction that it names, with the arguments of its task
abbrev pub line_call : Listing → TaskId × TxId → Call
line_call l p = record { tx = p.1; arguments = task_arguments l p.0 }

-- the calls of the parked tasks, in their order
abbrev pub waiting : Listing → Told → List Call
waiting l r = map (line_call l) r.parked

-- the listing with which the next chapter begins: from the present values, with one task for each that is parked
abbrev pub next_chapter : Listing → Told → Listing
next_chapter l r = begun l (now_of r).state (waiting l r)

-- a listing as it is before tasks come behind its first n ones, which are run one by one
abbrev pub beginning : ℕ → Listing → Listing
beginning n l = begun l l.initial (take n (calls l))

-- a listing goes on where the report ended: it declares the same, begins at the present values, and its first tasks
-- make the calls of the parked ones
pub record GoesOnAfter (l : Listing) (r : Told) (next : Listing) : Type 0 where
  pub program : SameProgram l next
  pub begins : next.initial ≡ (now_of r).state
  pub first : take (length r.parked) (calls next) ≡ waiting l r

-- it does not
abbrev pub GoesElsewhere : Listing → Told → Listing → Type 0
GoesElsewhere l r next = GoesOnAfter l r next → ⊥

-- the earlier report is lawful for the earlier file, and this holds of the two and of the listing
pub record Follows (Holds : Listing → Told → Listing → Type 0) (earlier report : List ℕ) (next : Listing) : Type 0 where
  pub listing : Listing
  pub spelled : Spells earlier listing
  pub told : Told
  pub read : IsReport listing report told
  pub lawful : LawfulReport listing told
  pub holds : Holds listing told next

-- the verdict on a chapter of this listing whose own report is lawful
abbrev pub IsVerdictAfter : List ℕ → List ℕ → Listing → ChapterVerdict → Type 0
IsVerdictAfter earlier report next Good = Follows GoesOnAfter earlier report next
IsVerdictAfter earlier report next (Bad part) = ⊥
IsVerdictAfter earlier report next (Before part) = Judges earlier report (verdict.Bad part)
IsVerdictAfter earlier report next Elsewhere = Follows GoesElsewhere earlier report next

-- its own report is lawful, and this is the verdict
pub record IsGoodAnd (file report earlier earlier_report : List ℕ) (v : ChapterVerdict) : Type 0 where
  pub listing : Listing
  pub spelled : Spells file listing
  pub good : Judges file report verdict.Good
  pub verdict : IsVerdictAfter earlier earlier_report listing v

-- the verdict on a file and its report, which are to go on where an earlier file and its report ended: the report is
-- judged first
abbrev pub JudgesAfter : List ℕ → List ℕ → List ℕ → List ℕ → ChapterVerdict → Type 0
JudgesAfter file report earlier earlier_report Good = IsGoodAnd file report earlier earlier_report Good
JudgesAfter file report earlier earlier_report (Bad part) = Judges file report (verdict.Bad part)
JudgesAfter file report earlier earlier_report (Before part) =
    IsGoodAnd file report earlier earlier_report (Before part)
JudgesAfter file report earlier earlier_report Elsewhere = IsGoodAnd file report earlier earlier_report Elsewhere

-- why there is none: the earlier file is refused, or memory was
abbrev pub IsEarlierRefused : List ℕ → ChapterFault → Type 0
IsEarlierRefused earlier (fault.File kind) = ⊥
IsEarlierRefused earlier (fault.Earlier kind) = IsFirst earlier kind
IsEarlierRefused earlier fault.Memory = Unit {0}

-- why there is no verdict: the file is refused; or its report is lawful, and the earlier file is refused; or memory was
abbrev pub IsUnjudged : List ℕ → List ℕ → List ℕ → ChapterFault → Type 0
IsUnjudged file report earlier (fault.File kind) = IsFirst file kind
IsUnjudged file report earlier (fault.Earlier kind) = Judges file report verdict.Good × IsFirst earlier kind
IsUnjudged file report earlier fault.Memory = Unit {0}

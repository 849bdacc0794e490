-- What a chapter leaves on which there is no verdict.
use Rattle.std.proofs.Common.{ℕ, List, Option, Result, Err}
use Rattle.checker.specs.declared.chapter.ChapterVerdict.{ChapterVerdict}
use Rattle.checker.specs.declared.chapter.ChapterFault.{ChapterFault}
use Rattle.checker.specs.declared.chapter.ChapterFault.TheVariants.{File, Earlier, Memory}
use Rattle.checker.specs.Chapters.{IsUnjudged}
use Rattle.explain_reports.specs.declared.chapters.ChapterUntold.{ChapterUntold}
use Rattle.explain_reports.specs.declared.chapters.ChapterUntold.TheVariants.{Unjudged}
use Rattle.explain_reports.specs.Chapters.{ChapterWritten}
use Rattle.commands.specs.Checking.{CheckedAfter, fault_answer}
use Rattle.commands.specs.Explaining.{ExplainedAfter}
use Rattle.commands.proofs.BytesRead.{keeps_same}

pub unchecked : (file report earlier earlier_report : List ℕ) (bytes : Option (List ℕ)) (fault : ChapterFault)
    → IsUnjudged file report earlier fault → CheckedAfter file report earlier earlier_report bytes bytes (fault_answer fault)
unchecked file report earlier earlier_report bytes (File kind) h = (h, keeps_same bytes)
unchecked file report earlier earlier_report bytes (Earlier kind) h = (h, keeps_same bytes)
unchecked file report earlier earlier_report bytes Memory h = keeps_same bytes

abbrev pub untold : ChapterUntold → Result ChapterVerdict ChapterUntold
untold why = Err why

pub unexplained : (file report earlier earlier_report : List ℕ) (old new : Option (List ℕ)) (fault : ChapterFault)
    → ChapterWritten file report earlier earlier_report old new (untold (Unjudged fault)) → ExplainedAfter file report earlier earlier_report old new (fault_answer fault)
unexplained file report earlier earlier_report old new (File kind) h = h
unexplained file report earlier earlier_report old new (Earlier kind) h = h
unexplained file report earlier earlier_report old new Memory h = h

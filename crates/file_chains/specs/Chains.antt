-- The texts that a book tells, and when it is within the chapter behind another.
use Rattle.std.specs.Prelude.{◌≡◌, ℕ, List}
use Rattle.txn_programs.specs.declared.arguments.Call.{Call}
use Rattle.txn_programs.specs.Told.{Told}
use Rattle.txn_programs.specs.LawfulReport.{LawfulReport}
use Rattle.txn.specs.Grown.{grown}
use Rattle.txn_text.specs.Spelling.{Spells}
use Rattle.text_line_reader.specs.Reports.{IsReport}
use Rattle.book.specs.View.{BookView}
use Rattle.book.specs.Turns.{ReportIs}
use Rattle.book.specs.Chapters.{next_catalogue}

-- the bytes of a file and of a report tell of the book
pub record IsPair (b : BookView) (file report : List ℕ) : Type 0 where
  pub spelled : Spells file b.catalogue
  pub told : Told
  pub tells : ReportIs b told
  pub read : IsReport b.catalogue report told
  pub lawful : LawfulReport b.catalogue told

-- a book is within the chapter that begins behind another book, to which these calls were submitted since
abbrev pub IsWithin : BookView → BookView → List Call → Type 0
IsWithin c b more = c.catalogue ≡ grown (next_catalogue b) more

-- What is told of a chapter that ended.
use Rattle.std.specs.Prelude.{Result, Ok, Err, string_bytes}
use Rattle.std.specs.Global.{Global}
use Rattle.std.specs.declared.string.String.{String}
use Rattle.txn_text.specs.Canonical.{file_text}
use Rattle.book.specs.View.{BookView}
use Rattle.stm_store.specs.Telling.{IsFileOf, IsTextOf, IsTooLong}
use Rattle.stm_desk.specs.declared.ended.TooLong.{TooLong}

-- the text of the book's file, or that no reader would take it
abbrev pub IsFileTold : BookView → Result (String Global) TooLong → Type 0
IsFileTold b (Ok text) = IsFileOf b (string_bytes text)
IsFileTold b (Err why) = IsTooLong (file_text b.catalogue)

-- the file and the report of one book
pub record TellsOf (b : BookView) (file : Result (String Global) TooLong) (report : String Global) : Type 0 where
  pub file_is : IsFileTold b file
  pub report_is : IsTextOf b (string_bytes report)

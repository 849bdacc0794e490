-- The texts of a chapter that ended, as its host gets them.
use Rattle.std.specs.Prelude.{◌≡◌, ℕ, List, Ok, Err, string_bytes}
use Rattle.std.specs.Global.{Global}
use Rattle.std.specs.declared.string.String.{String}
use Rattle.stm_desk.specs.declared.ended.Ended.{Ended}
use Rattle.stm_desk.specs.declared.ended.TooLong.{TooLong}

-- the bytes of the chapter's file
pub record IsFileOfEnded (e : Ended) (text : List ℕ) : Type 0 where
  pub file : String Global
  pub of : e.file ≡ Ok file
  pub bytes : text ≡ string_bytes file

-- the chapter has no file, which would be longer than a file may be
pub record IsTooLongFor (e : Ended) : Type 0 where
  pub why : TooLong
  pub none : e.file ≡ Err why

-- the bytes of its report
abbrev pub IsReportOfEnded : Ended → List ℕ → Type 0
IsReportOfEnded e text = text ≡ string_bytes e.report

-- What a book is told as.
use Rattle.std.specs.Prelude.{◌≡◌, ◌<◌, ℕ, ℤ, List, ◌++◌, length, take, drop, min, Option, Some, None}
use Rattle.txn_programs.specs.declared.ast.VarId.{VarId}
use Rattle.txn_programs.specs.declared.ast.Span.{Span}
use Rattle.txn_programs.specs.Listing.{spans}
use Rattle.txn_programs.specs.Told.{Told}
use Rattle.txn_programs.specs.LawfulReport.{LawfulReport, BaseReached}
use Rattle.text_grammar.specs.Tree.{longest}
use Rattle.txn_text.specs.Spelling.{Spells}
use Rattle.txn_text.specs.Canonical.{file_text}
use Rattle.txn_text.specs.ReportText.{report_text}
use Rattle.txn_text.specs.ReportFits.{ReportFits}
use Rattle.book.specs.View.{BookView}
use Rattle.book.specs.Turns.{ReportIs}
use Rattle.book.specs.Counting.{IsPresent}
use Rattle.text_line_reader.specs.CellNames.{cell_at}
use Rattle.stm_store.specs.Naming.{span_at, value_named}

-- the text of a lawful report of the book's program, which tells exactly this book
pub record IsTextOf (b : BookView) (text : List ℕ) : Type 0 where
  pub report : Told
  pub tells : ReportIs b report
  pub lawful : LawfulReport b.catalogue report
  pub reached : BaseReached b.catalogue report
  pub values : ReportFits report
  pub printed : text ≡ report_text b.catalogue report

-- the one text of the program of the book's chapter, with a run of one task for each that was submitted or came over
pub record IsFileOf (b : BookView) (text : List ℕ) : Type 0 where
  pub printed : text ≡ file_text b.catalogue
  pub spelled : Spells text b.catalogue

-- no reader takes a file of this text
abbrev pub IsTooLong : List ℕ → Type 0
IsTooLong text = longest text < length text

-- the present value and version of this variable or cell, where there is one
abbrev pub IsToldOf : BookView → Option VarId → Option (ℤ × ℕ) → Type 0
IsToldOf b at None = at ≡ None
IsToldOf b at (Some p) = (x : VarId) × (at ≡ Some x) × IsPresent b x (Some p)

-- of the variable of this name, or of the cell that is written so
abbrev pub IsValueOf : BookView → List ℕ → Option (ℤ × ℕ) → Type 0
IsValueOf b name told = IsToldOf b (value_named b.catalogue name) told

-- of the cell of this number in the table at this place
abbrev pub IsCellOf : BookView → ℕ → ℕ → Option (ℤ × ℕ) → Type 0
IsCellOf b table index told = IsToldOf b (cell_at (spans b.catalogue) (Some table) index) told

-- as many of the values as there is room for were copied to its begin, and what is behind them stayed
pub record IsCopiedFrom (values old : List ℤ) (count : ℕ) (new : List ℤ) : Type 0 where
  pub most : count ≡ min (length values) (length old)
  pub room : new ≡ take count values ++ drop count old

-- the present values of the cells of a table, in their order
abbrev pub values_in : BookView → Span → List ℤ
values_in b span = take span.length (drop span.first b.present.state)

-- those of the table at this place from the cell of this number on were copied
abbrev pub CopiesCells : BookView → ℕ → ℕ → List ℤ → ℕ → List ℤ → Type 0
CopiesCells b table from old count new =
    IsCopiedFrom (drop from (values_in b (span_at b.catalogue table))) old count new

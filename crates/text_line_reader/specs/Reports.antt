-- Which report bytes are the text of, and which fault is the first where they are of none.
use Rattle.std.specs.Prelude.{◌≡◌, ◌<◌, ◌≤◌, ℕ, ◌+◌, ◌*◌, Bool, true, false, ◌||◌, nat_lt, if◌then◌else◌, Result, Err, List, All, length}
use Rattle.std.specs.List.{list_all}
use Rattle.txn_programs.specs.declared.ast.Fault.TheVariants.{Outside}
use Rattle.txn_programs.specs.declared.ast.Outcome.TheVariants.{Thrown}
use Rattle.txn_programs.specs.declared.report.Entry.{Entry}
use Rattle.txn_programs.specs.LawfulReport.{FitsCatalogue}
use Rattle.txn_programs.specs.Listing.{Listing, cells}
use Rattle.txn_programs.specs.Told.{Told}
use Rattle.txn.specs.Arities.{most_arity}
use Rattle.text_words.specs.Bytes.{is_allowed}
use Rattle.text_words.specs.Answers.{◌>>=◌}
use Rattle.text_report_printer.specs.ReportText.{report_text}
use Rattle.text_report_printer.specs.ReportFits.{ReportFits}
use Rattle.text_words.specs.declared.fault.ReadFault.{ReadFault}
use Rattle.text_words.specs.declared.fault.ReadFault.TheVariants.{TooLong, BadByte, Shape, Name, Limit, Broken, Memory}
use Rattle.text_line_reader.specs.Lines.{lines}
use Rattle.text_line_reader.specs.ReportRaw.{Raw, raw_text, IsRaw}
use Rattle.text_line_reader.specs.ReportReading.{raw_at}
use Rattle.text_line_reader.specs.ReportResolving.{names_known, resolved}

-- the longest report of a listing, in bytes
abbrev pub max_len : Listing → ℕ
max_len l = 8388608 + 160 * cells l

-- whether cells can be told, and an entry can end outside: there is a table, or a transaction has parameters, so that
-- form 3 of a file alone can say the listing
abbrev pub knows_cells : Listing → Bool
knows_cells l = nat_lt 0 (length l.tables) || nat_lt 0 (most_arity l.transactions)

-- the bytes are the text of the report, which fits the catalogue
pub record IsReport (l : Listing) (bytes : List ℕ) (r : Told) : Type 0 where
  pub short : length bytes ≤ max_len l
  pub text : bytes ≡ report_text l r
  pub fits : FitsCatalogue l r
  pub values : ReportFits r
  pub outside : All (λ (e : Entry). e.outcome ≡ Thrown Outside → knows_cells l ≡ true) r.entries

-- the bytes are written as a report of the listing, whatever its names and numbers
pub record IsWritten (l : Listing) (bytes : List ℕ) (r : Raw) : Type 0 where
  pub short : length bytes ≤ max_len l
  pub text : bytes ≡ raw_text r
  pub words : IsRaw (knows_cells l) (length l.names) r

-- the first kind of fault of the bytes, each judged over all of them before the next is
abbrev pub IsFirst : Listing → List ℕ → ReadFault → Type 0
IsFirst l bytes TooLong = max_len l < length bytes
IsFirst l bytes BadByte = (length bytes ≤ max_len l) × (list_all is_allowed bytes ≡ false)
-- they are not written as a report
IsFirst l bytes Shape = (length bytes ≤ max_len l) × (list_all is_allowed bytes ≡ true) × ((r : Raw) → IsWritten l bytes r → ⊥)
-- they are, and a name is not known
IsFirst l bytes Name = (r : Raw) × (IsWritten l bytes r × (names_known l r ≡ false))
-- they are, all names are known, and yet they are the text of no report
IsFirst l bytes Limit = (r : Raw) × (IsWritten l bytes r × (names_known l r ≡ true) × ((t : Told) → IsReport l bytes t → ⊥))
-- these are no faults of a report
IsFirst l bytes Broken = ⊥
IsFirst l bytes Memory = ⊥

-- the same, read in order
unfoldable pub report_at : Listing → List ℕ → Result Told ReadFault
report_at l bytes =
    if nat_lt (max_len l) (length bytes) then Err TooLong
    else (if list_all is_allowed bytes then (raw_at (knows_cells l) (length l.names) (lines bytes) >>= λ r. resolved l r) else Err BadByte)

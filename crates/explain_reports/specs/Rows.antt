-- The line on which a flaw shows.
use Rattle.std.specs.Prelude.{◌≡◌, ◌≢◌, ◌⊎◌, ◌<◌, ℕ, suc, ◌+◌, ◌-◌, ◌==◌, nat_lt, if◌then◌else◌, ℤ, List, [], ◌∷◌, Some, length, take, drop, slice_get, codes}
use Rattle.std.specs.Fmt.{decimal}
use Rattle.txn_programs.specs.declared.ast.TaskId.{TaskId}
use Rattle.txn_programs.specs.declared.ast.TxId.{TxId}
use Rattle.txn_programs.specs.declared.report.Entry as entry
use Rattle.txn_programs.specs.Listing.{Listing}
use Rattle.txn_programs.specs.Told.{Told}
use Rattle.text_words.specs.Words.{line as line_of}
use Rattle.text_report_printer.specs.Names.{value_name}
use Rattle.text_report_printer.specs.ReportText.{variable_line, entry_line, task_line}
use Rattle.explain_reports.specs.declared.flaw.TaskLine.{TaskLine}
use Rattle.explain_reports.specs.declared.flaw.TaskLine.TheVariants as line
use Rattle.explain_reports.specs.declared.flaw.Flaw.{Flaw}
use Rattle.explain_reports.specs.declared.flaw.Flaw.TheVariants.{Untrue, Opening, Late, Entry, Number, Present, NotOwn}
use Rattle.explain_reports.specs.declared.flaw.Flaw.TheVariants.{Again, Falls, Count, Ends}

-- ---- which line it is, counted from 0: `base`, its values, the entries, `now`, its values, parked tasks, tasks given
-- up, `end`

-- how many of these an entry wrote
abbrev pub written : List (ℤ × ℕ) → ℕ
written [] = 0
written (v ∷ vs) = if v.1 == 0 then written vs else suc (written vs)

-- how many lines stand before that of a value: each variable has one, and each cell that an entry wrote
abbrev pub lines_before : Listing → List (ℤ × ℕ) → ℕ → ℕ
lines_before l vars i =
    if nat_lt i (length l.names) then i
    else length l.names + written (take (i - length l.names) (drop (length l.names) vars))

abbrev pub lines_of : Listing → List (ℤ × ℕ) → ℕ
lines_of l vars = lines_before l vars (length vars)

abbrev pub place_of_base : Listing → Told → ℕ → ℕ
place_of_base l r i = 1 + lines_before l r.base_vars i

abbrev pub place_of_entry : Listing → Told → ℕ → ℕ
place_of_entry l r i = 1 + (lines_of l r.base_vars + i)

abbrev pub place_of_now : Listing → Told → ℕ
place_of_now l r = place_of_entry l r (length r.entries)

-- the line behind so many of those of the present values
abbrev pub place_behind_now : Listing → Told → ℕ → ℕ
place_behind_now l r n = 1 + (lines_of l r.base_vars + (length r.entries + (1 + n)))

abbrev pub place_of_present : Listing → Told → ℕ → ℕ
place_of_present l r i = place_behind_now l r (lines_before l r.current_vars i)

abbrev pub place_of_parked : Listing → Told → ℕ → ℕ
place_of_parked l r i = place_behind_now l r (lines_of l r.current_vars + i)

abbrev pub place_of_memory : Listing → Told → ℕ → ℕ
place_of_memory l r i = place_of_parked l r (length r.parked + i)

abbrev pub place_of_end : Listing → Told → ℕ
place_of_end l r = place_of_memory l r (length r.memory)

abbrev pub place_of_task : Listing → Told → TaskLine → ℕ
place_of_task l r (line.Entry i) = place_of_entry l r i
place_of_task l r (line.Parked i) = place_of_parked l r i
place_of_task l r (line.Memory i) = place_of_memory l r i

abbrev pub place_of_flaw : Listing → Told → Flaw → ℕ
place_of_flaw l r (Untrue id) = 0
place_of_flaw l r (Opening i value) = place_of_base l r i
place_of_flaw l r (Late i) = place_of_base l r i
place_of_flaw l r (Entry i due) = place_of_entry l r i
place_of_flaw l r (Number n) = place_of_now l r
place_of_flaw l r (Present i value version) = place_of_present l r i
place_of_flaw l r (NotOwn at tx) = place_of_task l r at
place_of_flaw l r (Again at) = place_of_task l r at
place_of_flaw l r (Falls at) = place_of_task l r at
place_of_flaw l r Count = place_of_end l r
place_of_flaw l r (Ends i ending) = place_of_parked l r i

-- ---- what it says, its newline with it

abbrev pub IsValueRow : Listing → List (ℤ × ℕ) → ℕ → List ℕ → Type 0
IsValueRow l vars i row = (v : ℤ × ℕ) × (slice_get vars i ≡ Some v) × (row ≡ variable_line (value_name l i) v)

-- a value has a line: it is that of a variable, or of a cell that an entry wrote
abbrev pub HasLine : Listing → ℕ → ℤ × ℕ → Type 0
HasLine l i v = (i < length l.names) ⊎ (v.1 ≢ 0)

-- the line of a value that has one; where it has none the line that stands behind it is told
abbrev pub IsPresentRow : Listing → List (ℤ × ℕ) → ℕ → List ℕ → Type 0
IsPresentRow l vars i row = (v : ℤ × ℕ) × (slice_get vars i ≡ Some v)
    × (HasLine l i v → row ≡ variable_line (value_name l i) v)

abbrev pub IsEntryRow : Listing → List entry.Entry → ℕ → List ℕ → Type 0
IsEntryRow l entries i row = (e : entry.Entry) × (slice_get entries i ≡ Some e) × (row ≡ entry_line l e)

abbrev pub IsTaskRow : Listing → List ℕ → List (TaskId × TxId) → ℕ → List ℕ → Type 0
IsTaskRow l word tasks i row = (p : TaskId × TxId) × (slice_get tasks i ≡ Some p) × (row ≡ task_line l word p)

abbrev pub IsRowOfTask : Listing → Told → TaskLine → List ℕ → Type 0
IsRowOfTask l r (line.Entry i) row = IsEntryRow l r.entries i row
IsRowOfTask l r (line.Parked i) row = IsTaskRow l (codes "parked") r.parked i row
IsRowOfTask l r (line.Memory i) row = IsTaskRow l (codes "memory") r.memory i row

abbrev pub IsRow : Listing → Told → Flaw → List ℕ → Type 0
IsRow l r (Untrue id) row = row ≡ line_of (codes "base" ∷ decimal r.base ∷ [])
IsRow l r (Opening i value) row = IsValueRow l r.base_vars i row
IsRow l r (Late i) row = IsValueRow l r.base_vars i row
IsRow l r (Entry i due) row = IsEntryRow l r.entries i row
IsRow l r (Number n) row = row ≡ line_of (codes "now" ∷ decimal r.current ∷ [])
IsRow l r (Present i value version) row = IsPresentRow l r.current_vars i row
IsRow l r (NotOwn at tx) row = IsRowOfTask l r at row
IsRow l r (Again at) row = IsRowOfTask l r at row
IsRow l r (Falls at) row = IsRowOfTask l r at row
IsRow l r Count row = row ≡ line_of (codes "end" ∷ [])
IsRow l r (Ends i ending) row = IsTaskRow l (codes "parked") r.parked i row

-- The text of a report, and its lines.
use Rattle.std.proofs.Common.{◌≡◌, ◌∙◌, ℕ, ◌≤◌, Bool, true, List, [], ◌∷◌, ◌++◌, length, Ok, refl, sym, ap}
use Rattle.std.specs.Prelude.{codes}
use Rattle.std.proofs.lemmas.Bool.{and_from}
use Rattle.std.proofs.lemmas.List.{append-nil}
use Rattle.text_words.specs.Words.{line}
use Rattle.text_line_reader.specs.Lines.{Line, lines}
use Rattle.text_line_reader.specs.ReportRaw.{Variable, Cell, Ending, Returned, Threw, Overflow, DivideByZero, Outside, Broke, Entry, Task, Raw, variable_words, cell_words, ending_words, entry_words, task_words, number_words, raw_text, IsVariable, IsCell, IsEnding, IsEntry, IsTask, IsRaw}
use Rattle.text_line_reader.specs.Words.{is_number}
use Rattle.text_line_reader.specs.ReportReading.{raw_at}
use Rattle.txn_programs.specs.Listing.{Listing}
use Rattle.text_line_reader.specs.Reports.{IsWritten, max_len, knows_cells}
use Rattle.text_line_reader.proofs.Parting.{lacks, bytes_of, bytes_lines, lines_nil}
use Rattle.text_line_reader.proofs.Numbers.{name_lacks, int_lacks, number_lacks}
use Rattle.text_report_printer.specs.ReportText.{cell_text}
use Rattle.text_line_reader.proofs.CellSteps.{cell_lacks, are_cells}
use Rattle.text_line_reader.proofs.Rows.{line_of}
use Rattle.text_line_reader.proofs.Shapes.{raw_lines, raw_takes, raw_again}
use Rattle.text_line_reader.proofs.Texts.{all_lack, each_line}
pub use Rattle.text_line_reader.proofs.Texts.{Makes, one_line, two_parts, no_lines, three}

-- ---- bytes and their lines

variable_line : (v : Variable) → IsVariable v → Makes (line (variable_words v)) (line_of variable_words v ∷ [])
variable_line v h = one_line v.name (v.value ∷ v.version ∷ []) (three v.name v.value v.version (name_lacks 10 refl v.name h.name) (int_lacks 10 refl v.value h.value) (number_lacks 10 refl v.version h.version))

cell_line : (c : Cell) → IsCell c → Makes (line (cell_words c)) (line_of cell_words c ∷ [])
cell_line c h =
    one_line (cell_text c.table c.index) (c.value ∷ c.version ∷ [])
    (three (cell_text c.table c.index) c.value c.version (cell_lacks 10 refl refl refl refl c.table c.index h.table h.index) (int_lacks 10 refl c.value h.value) (number_lacks 10 refl c.version h.version))

ending_lacks : (cells : Bool) (x : Ending) → IsEnding cells x → all_lack (ending_words x) ≡ true
ending_lacks cells (Returned value) h = and_from _ _ refl (and_from _ _ (int_lacks 10 refl value h) refl)
ending_lacks cells (Threw value) h = and_from _ _ refl (and_from _ _ (int_lacks 10 refl value h) refl)
ending_lacks cells Overflow h = refl
ending_lacks cells DivideByZero h = refl
ending_lacks cells Outside h = refl
ending_lacks cells (Broke name) h = and_from _ _ refl (and_from _ _ (name_lacks 10 refl name h) refl)

entry_line : (cells : Bool) (e : Entry) → IsEntry cells e → Makes (line (entry_words e)) (line_of entry_words e ∷ [])
entry_line cells e h =
    one_line (codes "entry") (e.number ∷ e.task ∷ e.name ∷ ending_words e.ending)
    (and_from _ _ refl (and_from _ _ (number_lacks 10 refl e.number h.number) (and_from _ _ (number_lacks 10 refl e.task h.task) (and_from _ _ (name_lacks 10 refl e.name h.name) (ending_lacks cells e.ending h.ending)))))

task_line : (word : List ℕ) → lacks 10 word ≡ true → (t : Task) → IsTask t → Makes (line (task_words word t)) (line_of (task_words word) t ∷ [])
task_line word w t h = one_line word (t.task ∷ t.name ∷ []) (three word t.task t.name w (number_lacks 10 refl t.task h.task) (name_lacks 10 refl t.name h.name))

number_line : (word number : List ℕ) → lacks 10 word ≡ true → is_number number ≡ true → Makes (line (number_words word number)) (line_of (number_words word) number ∷ [])
number_line word number w h = one_line word (number ∷ []) (and_from _ _ w (and_from _ _ (number_lacks 10 refl number h) refl))

raw_makes : (cells : Bool) (n : ℕ) (r : Raw) → IsRaw cells n r → Makes (raw_text r) (raw_lines r)
raw_makes cells n r is =
    two_parts _ _ _ _ (number_line (codes "base") r.base refl is.base)
    (two_parts _ _ _ _ (each_line variable_words IsVariable variable_line r.base_vars is.base_vars)
    (two_parts _ _ _ _ (each_line cell_words IsCell cell_line r.base_cells (are_cells cells r.base_cells is.base_cells))
    (two_parts _ _ _ _ (each_line entry_words (IsEntry cells) (entry_line cells) r.entries is.entries)
    (two_parts _ _ _ _ (number_line (codes "now") r.current refl is.current)
    (two_parts _ _ _ _ (each_line variable_words IsVariable variable_line r.current_vars is.current_vars)
    (two_parts _ _ _ _ (each_line cell_words IsCell cell_line r.current_cells (are_cells cells r.current_cells is.current_cells))
    (two_parts _ _ _ _ (each_line (task_words (codes "parked")) IsTask (task_line (codes "parked") refl) r.parked is.parked)
    (two_parts _ _ _ _ (each_line (task_words (codes "memory")) IsTask (task_line (codes "memory") refl) r.memory is.memory)
    (one_line (codes "end") [] refl)))))))))

raw_lined : (cells : Bool) (n : ℕ) (r : Raw) → IsRaw cells n r → lines (raw_text r) ≡ raw_lines r
raw_lined cells n r is = ap lines (sym (append-nil (raw_text r))) ∙ (raw_makes cells n r is).by [] ∙ ap (λ (z : List Line). raw_lines r ++ z) lines_nil ∙ append-nil (raw_lines r)

-- ---- what is read is written so, and what is written so is read

pub written_is_read : (l : Listing) (bytes : List ℕ) (r : Raw) → IsWritten l bytes r → raw_at (knows_cells l) (length l.names) (lines bytes) ≡ Ok r
written_is_read l bytes r w =
    ap (raw_at (knows_cells l) (length l.names)) (ap lines w.text ∙ raw_lined (knows_cells l) (length l.names) r w.words) ∙ raw_again (knows_cells l) (length l.names) r w.words

pub read_is_written : (l : Listing) (bytes : List ℕ) (r : Raw) → length bytes ≤ max_len l → raw_at (knows_cells l) (length l.names) (lines bytes) ≡ Ok r → IsWritten l bytes r
read_is_written l bytes r short e =
    let t = raw_takes (knows_cells l) (length l.names) (lines bytes) r e in
    record {
      short = short;
      text = sym (bytes_lines bytes) ∙ ap bytes_of (t.parts ∙ sym (raw_lined (knows_cells l) (length l.names) r t.is)) ∙ bytes_lines (raw_text r);
      words = t.is;
    }

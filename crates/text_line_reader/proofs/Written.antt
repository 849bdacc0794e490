-- The text of lines, and which bytes it has.
use Rattle.std.proofs.Common.{◌≡◌, ◌∙◌, ℕ, ◌≤◌, Bool, true, List, [], ◌∷◌, ◌++◌, length, map, Ok, refl, sym, ap, subst}
use Rattle.std.specs.Prelude.{codes}
use Rattle.std.specs.List.{list_all, AllByRecursion}
use Rattle.std.proofs.lemmas.Bool.{and_from}
use Rattle.std.proofs.lemmas.List.{append-nil}
use Rattle.text_words.specs.Bytes.{is_allowed}
use Rattle.txn_programs.specs.Listing.{Listing}
use Rattle.text_words.specs.Words.{line}
use Rattle.text_report_printer.specs.ReportText.{cell_text}
use Rattle.text_line_reader.specs.Lines.{Line, lines}
use Rattle.text_line_reader.proofs.Parting.{bytes_of, bytes_lines, lines_nil}
use Rattle.text_line_reader.proofs.Numbers.{name_lacks, number_lacks}
use Rattle.text_line_reader.proofs.Rows.{line_of}
use Rattle.text_line_reader.proofs.Texts.{Makes, one_line, each_line, three}
use Rattle.text_line_reader.proofs.CellSteps.{cell_lacks}
use Rattle.text_line_reader.proofs.Allowed.{words_allowed, allowed, two, lines_allowed, name_allowed, number_allowed}
use Rattle.text_line_reader.specs.declared.schedule.raw.TaskVerb.{TaskVerb}
use Rattle.text_line_reader.specs.declared.schedule.raw.TaskVerb.TheVariants as task
use Rattle.text_line_reader.specs.declared.schedule.raw.VariableVerb.{VariableVerb}
use Rattle.text_line_reader.specs.declared.schedule.raw.VariableVerb.TheVariants as variable
use Rattle.text_line_reader.specs.ScheduleRaw.{Raw, OfTask, OfVariable, OfCell, Word, task_word, variable_word, raw_words, raw_text, IsRaw}
use Rattle.text_line_reader.specs.ScheduleReading.{raws_at}
use Rattle.text_line_reader.specs.Reports.{knows_cells}
use Rattle.text_line_reader.specs.Schedules.{max_len, IsWritten}
use Rattle.text_line_reader.proofs.ScheduleSteps.{task_word_is, variable_word_is}
use Rattle.text_line_reader.proofs.ScheduleRows.{raws_take, raws_again}

-- ---- lines

raw_line : (cells : Bool) (r : Raw) → IsRaw cells r → Makes (line (raw_words r)) (line_of raw_words r ∷ [])
raw_line cells (OfTask v number) h = one_line (task_word v) (number ∷ []) (and_from _ _ (task_word_is v).in_line (and_from _ _ (number_lacks 10 refl number h) refl))
raw_line cells (OfVariable v number name) h = one_line (variable_word v) (number ∷ name ∷ []) (three (variable_word v) number name (variable_word_is v).in_line (number_lacks 10 refl number h.0) (name_lacks 10 refl name h.1))
raw_line cells (OfCell v number table index) h =
    one_line (variable_word v) (number ∷ cell_text table index ∷ [])
    (three (variable_word v) number (cell_text table index) (variable_word_is v).in_line (number_lacks 10 refl number h.1) (cell_lacks 10 refl refl refl refl table index h.2 h.3))
raw_line cells Word h = one_line (codes "word") [] refl

raws_lined : (cells : Bool) (raws : List Raw) → AllByRecursion (IsRaw cells) raws → lines (raw_text raws) ≡ map (line_of raw_words) raws
raws_lined cells raws is =
    ap lines (sym (append-nil (raw_text raws))) ∙ (each_line raw_words (IsRaw cells) (raw_line cells) raws is).by [] ∙ ap (λ (z : List Line). map (line_of raw_words) raws ++ z) lines_nil ∙ append-nil (map (line_of raw_words) raws)

pub written_is_read : (l : Listing) (bytes : List ℕ) (raws : List Raw) → IsWritten l bytes raws → raws_at (knows_cells l) (lines bytes) ≡ Ok raws
written_is_read l bytes raws w = ap (raws_at (knows_cells l)) (ap lines w.text ∙ raws_lined (knows_cells l) raws w.words) ∙ raws_again (knows_cells l) raws w.words

pub read_is_written : (l : Listing) (bytes : List ℕ) (raws : List Raw) → length bytes ≤ max_len → raws_at (knows_cells l) (lines bytes) ≡ Ok raws → IsWritten l bytes raws
read_is_written l bytes raws short e =
    let t = raws_take (knows_cells l) (lines bytes) raws e in
    record {
      short = short;
      text = sym (bytes_lines bytes) ∙ ap bytes_of (t.parts ∙ sym (raws_lined (knows_cells l) raws t.are)) ∙ bytes_lines (raw_text raws);
      words = t.are;
    }

-- ---- allowed bytes

task_word_allowed : (v : TaskVerb) → allowed (task_word v) ≡ true
task_word_allowed task.Begin = refl
task_word_allowed task.Commit = refl
task_word_allowed task.Drop = refl
task_word_allowed task.Value = refl
task_word_allowed task.Second = refl
task_word_allowed task.Ask = refl
task_word_allowed task.Again = refl
task_word_allowed task.Move = refl

variable_word_allowed : (v : VariableVerb) → allowed (variable_word v) ≡ true
variable_word_allowed variable.Read = refl
variable_word_allowed variable.First = refl

raw_allowed : (cells : Bool) (r : Raw) → IsRaw cells r → words_allowed (raw_words r) ≡ true
raw_allowed cells (OfTask v number) h = and_from _ _ (task_word_allowed v) (and_from _ _ (number_allowed number h) refl)
raw_allowed cells (OfVariable v number name) h = and_from _ _ (variable_word_allowed v) (and_from _ _ (number_allowed number h.0) (and_from _ _ (name_allowed name h.1) refl))
raw_allowed cells (OfCell v number table index) h =
    and_from _ _ (variable_word_allowed v) (and_from _ _ (number_allowed number h.1)
    (and_from _ _ (two table (91 ∷ (index ++ (93 ∷ []))) (name_allowed table h.2) (and_from _ _ refl (two index (93 ∷ []) (number_allowed index h.3) refl))) refl))
raw_allowed cells Word h = refl

pub written_allowed : (l : Listing) (bytes : List ℕ) (raws : List Raw) → IsWritten l bytes raws → list_all is_allowed bytes ≡ true
written_allowed l bytes raws w =
    subst (λ (bs : List ℕ). allowed bs ≡ true) (sym w.text) (lines_allowed raw_words (IsRaw (knows_cells l)) (raw_allowed (knows_cells l)) raws w.words)

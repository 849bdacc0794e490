-- A report that is read has a line for each variable.
use Rattle.std.proofs.Common.{◌≡◌, ◌∙◌, ℕ, Bool, List, length, Ok, sym}
use Rattle.std.proofs.lemmas.List.{length-map}
use Rattle.text_line_reader.specs.Lines.{Line}
use Rattle.text_line_reader.specs.ReportReading.{raw_at}
use Rattle.text_line_reader.specs.ReportView.{view_variable, view_raw}
use Rattle.text_line_reader.specs.declared.report.raw.RawReport.{RawReport}
use Rattle.text_line_reader.proofs.Shapes.{raw_takes}

pub counted : (cells : Bool) (n : ℕ) (ls : List Line) (r : RawReport) → raw_at cells n ls ≡ Ok (view_raw r) → (length r.base_vars.items ≡ n) × (length r.now_vars.items ≡ n)
counted cells n ls r e =
    let is = (raw_takes cells n ls (view_raw r) e).is in
    (sym (length-map r.base_vars.items view_variable) ∙ is.base_count, sym (length-map r.now_vars.items view_variable) ∙ is.current_count)

use Rattle.std.proofs.Common.{◌≡◌, ◌∙◌, ◌++◌, ◌∷◌, ℕ, List, [], Bor, Option, Some, Ok, ap}
use Rattle.std.proofs.lemmas.List.{map_push}
use Rattle.text_words.proofs.Steps.{done}
use Rattle.text_line_reader.specs.Lines.{lines}
use Rattle.text_line_reader.specs.Words.{is_bracketed}
use Rattle.text_line_reader.specs.Rows.{next_by}
use Rattle.text_line_reader.specs.ReportReading.{cell_line_in}
use Rattle.text_line_reader.specs.ReportView.{view_cell, view_cells}
use Rattle.text_line_reader.specs.View.{view_next}
use Rattle.text_line_reader.specs.declared.report.raw.RawCell.{RawCell}
use Rattle.text_line_reader.proofs.Rows.{all_more}
use Rattle.text_line_reader.proofs.report.cells.all_cells.Goals as goal

pub cells-preserved : goal.cells-preserved
cells-preserved c =
    let cell = c.in-Some.cell in
    let ls = lines c.cells.rest.now in
    let more = lines c.in-Some.after.now in
    let is : next_by is_bracketed cell_line_in ls ≡ Ok (Some (view_cell cell, more)) = c.in_ok-cell.ensures.value ∙ ap (λ (o : Option (RawCell × Bor (List ℕ))). done (view_next view_cell o)) c.in-Some.is in
    let e : view_cells c.push.new.self.items ≡ view_cells c.cells.cells.items ++ view_cell cell ∷ [] = rw c.in_ok-push.ensures.items (map_push view_cell c.cells.cells.items cell) in
    rw e (all_more is_bracketed cell_line_in (view_cells c.cells.cells.items) ls (view_cell cell, more) _ is c.cells.invariant)

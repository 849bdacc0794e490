use Rattle.std.proofs.Common.{◌≡◌, ◌∙◌, ◌++◌, ◌∷◌, ℕ, List, [], Bor, Option, Some, Ok, ap}
use Rattle.std.specs.Prelude.{codes}
use Rattle.std.proofs.lemmas.List.{map_push}
use Rattle.text_words.proofs.Steps.{done}
use Rattle.text_line_reader.specs.Lines.{lines}
use Rattle.text_line_reader.specs.Words.{begins}
use Rattle.text_line_reader.specs.Rows.{next_at}
use Rattle.text_line_reader.specs.ReportReading.{entry_in}
use Rattle.text_line_reader.specs.ReportView.{view_entry, view_entries}
use Rattle.text_line_reader.specs.View.{view_next}
use Rattle.text_line_reader.specs.declared.report.raw.RawEntry.{RawEntry}
use Rattle.text_line_reader.proofs.Rows.{all_more}
use Rattle.text_line_reader.proofs.report.shape.entries_at.Goals as goal

pub entries-preserved : goal.entries-preserved
entries-preserved c =
    let entry = c.in-Some.entry in
    let ls = lines c.entries.rest.now in
    let more = lines c.in-Some.after.now in
    let is : next_at (codes "entry") (entry_in c.args.cells) ls ≡ Ok (Some (view_entry entry, more)) = c.in_ok-entry.ensures.value ∙ ap (λ (o : Option (RawEntry × Bor (List ℕ))). done (view_next view_entry o)) c.in-Some.is in
    let e : view_entries c.push.new.self.items ≡ view_entries c.entries.entries.items ++ view_entry entry ∷ [] = rw c.in_ok-push.ensures.items (map_push view_entry c.entries.entries.items entry) in
    rw e (all_more (begins (codes "entry")) (entry_in c.args.cells) (view_entries c.entries.entries.items) ls (view_entry entry, more) _ is c.entries.invariant)

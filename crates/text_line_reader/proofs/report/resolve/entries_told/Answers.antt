use Rattle.std.proofs.Common.{◌≡◌, ◌++◌, ◌∷◌, []}
use Rattle.text_line_reader.specs.ReportResolving.{entry_told}
use Rattle.text_line_reader.specs.ReportView.{view_entry}
use Rattle.text_line_reader.proofs.Each.{loop_more}
use Rattle.text_line_reader.proofs.report.resolve.entries_told.Goals as goal

pub entries-preserved : goal.entries-preserved
entries-preserved c =
    let made = c.entries.made.items in
    let told = c.in_ok-entry_told.field-0 in
    let e : c.push.new.self.items ≡ made ++ told ∷ [] = c.in_ok-push.ensures.items in
    rw e (loop_more (entry_told c.args.catalogue.now) view_entry made c.args.entries.now c.entries.e-index c.e-item.result told _ c.entries-test.true c.e-item.is c.in_ok-entry_told.ensures.value c.entries.invariant)

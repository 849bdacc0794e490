use Rattle.std.proofs.Common.{◌<◌, ◌∙◌, arith, length}
use Rattle.std.proofs.lemmas.List.Elements.{All-drop, All-take}
use Rattle.txn_programs.specs.declared.report.Entry.{Entry}
use Rattle.text_report_printer.specs.ReportText.{entry_line}
use Rattle.runner.proofs.Gathering.{lines_break, lines_more, on_err}
use Rattle.runner.proofs.pieces.put_journal.Goals as goal

pub returns-in_err-make_room-clause-breaks : goal.returns-in_err-make_room-clause-breaks
returns-in_err-make_room-clause-breaks g c = on_err _ (lines_break (entry_line c.args.catalogue.now) _ _ _ _ _ _ _ c.loop-rest.invariant.lines c.in_err-make_room.ensures.breaks)

pub loop-rest-preserved : goal.loop-rest-preserved
loop-rest-preserved g c =
    let before = c.loop-rest.invariant in
    record {
      lines = lines_more (entry_line c.args.catalogue.now) _ _ _ _ _ _ _ _ _ _ before.lines c.in_ok-make_room.ensures.gathers c.in-Ok.ensures.text;
      none_failed = c.in_ok-make_room.ensures.none_failed ∙ before.none_failed;
      known = All-take (λ (e : Entry). e.tx.0 < length c.args.catalogue.now.transactions) _ _ (All-drop (λ (e : Entry). e.tx.0 < length c.args.catalogue.now.transactions) _ _ before.known);
      capacity = omega (arith, before.capacity, c.make_room.ensures.capacity, c.put_lines.ensures.capacity);
    }

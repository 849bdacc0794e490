use Rattle.std.proofs.Common.{get_or, pos, string_bytes, arith}
use Rattle.std.proofs.lemmas.List.Elements.{All-more}
use Rattle.std.proofs.lemmas.Option.{slice_get-get_or}
use Rattle.txn_programs.specs.declared.ast.Outcome.TheVariants.{Returned}
use Rattle.txn_programs.specs.declared.report.Entry.{Entry}
use Rattle.text_report_printer.specs.ReportFits.{OutcomeFits}
use Rattle.text_report_printer.specs.ReportText.{entry_line}
use Rattle.text_words.proofs.Pieces.{piece_more}
use Rattle.text_report_printer.proofs.report.put_entries.Goals as goal

abbrev none : Entry
none = record { number = 0; task = record { 0 = 0 }; tx = record { 0 = 0 }; outcome = Returned (pos 0) }

pub entries-preserved : goal.entries-preserved
entries-preserved c =
    let entries = c.args.entries.now in
    let i = c.entries.entry-index in
    let x = get_or entries i none in
    record {
      text = piece_more (entry_line c.args.catalogue.now) entries i x (string_bytes c.args.out.now) (string_bytes c.entries.out) (string_bytes c.put_entry.new.out) (slice_get-get_or entries i none c.entries-test.true) c.entries.invariant.text c.in_ok-put_entry.ensures.text;
      fits = All-more (λ (e : Entry). OutcomeFits e.outcome) entries i none c.entries-test.true c.entries.invariant.fits c.in_ok-put_entry.ensures.fits;
      len = omega (arith, c.entries.invariant.len, c.in_ok-put_entry.ensures.len);
      capacity = omega (arith, c.entries.invariant.capacity, c.put_entry.ensures.capacity);
    }

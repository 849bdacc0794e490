use Rattle.std.proofs.Common.{◌≡◌, ◌∙◌, ◌++◌, get_or, string_bytes, subst, arith}
use Rattle.std.proofs.lemmas.Option.{slice_get-get_or}
use Rattle.txn_programs.specs.declared.report.Entry.{Entry}
use Rattle.text_report_printer.specs.ReportText.{entry_line}
use Rattle.text_words.proofs.Pieces.{piece_more}
use Rattle.runner.proofs.pieces.put_lines.Goals as goal

pub lines-preserved : goal.lines-preserved
lines-preserved c =
    let lines = c.args.lines.now in
    let i = c.lines.line-index in
    let x = get_or lines i c.line-item.result in
    let Puts : Entry → Type 0 = λ e. string_bytes c.put_entry.new.out ≡ string_bytes c.lines.text ++ entry_line c.args.catalogue.now e in
    let put : Puts x = subst Puts (c.entry.ensures ∙ c.line-item.is) c.in_ok-put_entry.ensures.text in
    record {
      text = piece_more (entry_line c.args.catalogue.now) lines i x (string_bytes c.args.text.now) (string_bytes c.lines.text) (string_bytes c.put_entry.new.out) (slice_get-get_or lines i c.line-item.result c.lines-test.true) c.lines.invariant.text put;
      len = omega (arith, c.lines.invariant.len, c.in_ok-put_entry.ensures.len);
      capacity = omega (arith, c.lines.invariant.capacity, c.put_entry.ensures.capacity);
    }

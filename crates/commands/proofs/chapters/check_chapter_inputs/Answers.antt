use Rattle.std.proofs.Common.{inl, inr}
use Rattle.commands.proofs.BytesRead.{keeps_same}
use Rattle.commands.proofs.chapters.check_chapter_inputs.Goals as goal

pub returns-in-Ok-clause-checked : goal.returns-in-Ok-clause-checked
returns-in-Ok-clause-checked g c =
    let all = c.in-Ok.bytes in
    inr (
      all.file.items,
      c.in-Ok.ensures.file,
      (
        all.report.items,
        c.in-Ok.ensures.report,
        (all.earlier.items, c.in-Ok.ensures.earlier, (all.earlier_report.items, c.in-Ok.ensures.earlier_report, c.check_chapter_bytes.ensures.checked)),
      ),
    )

pub returns-in-Err-clause-checked : goal.returns-in-Err-clause-checked
returns-in-Err-clause-checked g c = inl (c.in-Err.ensures.unread, keeps_same (g.S.Sink.bytes c.args.sink.now))

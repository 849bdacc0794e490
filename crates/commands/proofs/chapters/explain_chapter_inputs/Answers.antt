use Rattle.std.proofs.Common.{inl, inr}
use Rattle.commands.proofs.BytesRead.{keeps_same}
use Rattle.commands.proofs.chapters.explain_chapter_inputs.Goals as goal

pub returns-in-Ok-clause-explained : goal.returns-in-Ok-clause-explained
returns-in-Ok-clause-explained g c =
    let all = c.in-Ok.bytes in
    inr (
      all.file.items,
      c.in-Ok.ensures.file,
      (
        all.report.items,
        c.in-Ok.ensures.report,
        (all.earlier.items, c.in-Ok.ensures.earlier, (all.earlier_report.items, c.in-Ok.ensures.earlier_report, c.explain_chapter.ensures.explained)),
      ),
    )

pub returns-in-Err-clause-explained : goal.returns-in-Err-clause-explained
returns-in-Err-clause-explained g c = inl (c.in-Err.ensures.unread, keeps_same (g.S.Sink.bytes c.args.sink.now))

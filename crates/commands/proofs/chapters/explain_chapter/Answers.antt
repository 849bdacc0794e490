use Rattle.std.proofs.Common.{ℕ, List, sym, subst}
use Rattle.command_line.specs.declared.answer.Answer.{Answer}
use Rattle.explain_reports.specs.declared.chapters.ChapterUntold.{ChapterUntold}
use Rattle.explain_reports.specs.declared.chapters.ChapterUntold.TheVariants.{Unjudged}
use Rattle.explain_reports.specs.Chapters.{ChapterWritten}
use Rattle.commands.specs.Explaining.{ExplainedAfter}
use Rattle.commands.proofs.Unjudged.{unexplained, untold}
use Rattle.commands.proofs.chapters.explain_chapter.Goals as goal

pub returns-in-Err-Unjudged-clause-explained : goal.returns-in-Err-Unjudged-clause-explained
returns-in-Err-Unjudged-clause-explained g c =
    let b = c.args.bytes.now in
    let old = g.S.Sink.bytes c.args.sink.now in
    let new = g.S.Sink.bytes c.explain_chapter_bytes.new.sink in
    let fault = c.in-Err-Unjudged.fault in
    let r = c.deref-2.result.now in
    let e = c.deref-3.result.now in
    let s = c.deref-4.result.now in
    let why = untold (Unjudged fault) in
    let here = subst (λ (u : ChapterUntold). ChapterWritten c.deref.result.now r e s old new (untold u)) c.in-Err-Unjudged.field-0-is c.in-Err-Unjudged.ensures.written in
    let of_file = subst (λ (x : List ℕ). ChapterWritten x r e s old new why) c.deref.ensures.value here in
    let of_report = subst (λ (x : List ℕ). ChapterWritten b.file.items x e s old new why) c.deref-2.ensures.value of_file in
    let of_earlier = subst (λ (x : List ℕ). ChapterWritten b.file.items b.report.items x s old new why) c.deref-3.ensures.value of_report in
    let written = subst (λ (x : List ℕ). ChapterWritten b.file.items b.report.items b.earlier.items x old new why) c.deref-4.ensures.value of_earlier in
    subst (λ (a : Answer). ExplainedAfter b.file.items b.report.items b.earlier.items b.earlier_report.items old new a) (sym c.answer_of_fault.ensures)
    (unexplained b.file.items b.report.items b.earlier.items b.earlier_report.items old new fault written)

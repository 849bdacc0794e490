use Rattle.std.proofs.Common.{ℕ, List, sym, subst}
use Rattle.command_line.specs.declared.answer.Answer.{Answer}
use Rattle.checker.specs.Chapters.{IsUnjudged}
use Rattle.commands.specs.Checking.{CheckedAfter}
use Rattle.commands.proofs.Unjudged.{unchecked}
use Rattle.commands.proofs.chapters.check_chapter_bytes.Goals as goal

pub returns-in-Err-clause-checked : goal.returns-in-Err-clause-checked
returns-in-Err-clause-checked g c =
    let b = c.args.bytes.now in
    let bytes = g.S.Sink.bytes c.args.sink.now in
    let fault = c.in-Err.fault in
    let of_file = subst (λ (f : List ℕ). IsUnjudged f c.deref-2.result.now c.deref-3.result.now fault) c.deref.ensures.value c.in-Err.ensures.unjudged in
    let of_report = subst (λ (r : List ℕ). IsUnjudged b.file.items r c.deref-3.result.now fault) c.deref-2.ensures.value of_file in
    let unjudged = subst (λ (e : List ℕ). IsUnjudged b.file.items b.report.items e fault) c.deref-3.ensures.value of_report in
    subst (λ (a : Answer). CheckedAfter b.file.items b.report.items b.earlier.items b.earlier_report.items bytes bytes a) (sym c.answer_of_fault.ensures)
    (unchecked b.file.items b.report.items b.earlier.items b.earlier_report.items bytes fault unjudged)

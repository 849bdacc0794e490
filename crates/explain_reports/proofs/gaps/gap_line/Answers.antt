use Rattle.std.proofs.Common.{◌≡◌}
use Rattle.std.proofs.lemmas.Result.{IfOk-weaker}
use Rattle.text_line_reader.specs.ReportView.{view_text}
use Rattle.explain_reports.specs.Gaps.{DifferAt, IsGapLine, Differ, gap_line}
use Rattle.explain_reports.proofs.gaps.gap_line.Goals as goal

pub returns-in-Lines : goal.returns-in-Lines
returns-in-Lines c =
    let due = view_text c.in-Lines.due in
    let here = view_text c.in-Lines.here in
    let apart : DifferAt c.args.wanted.now c.args.stands.now due here = c.in-Lines.ensures in
    IfOk-weaker c.wanted_line.result (λ line. line.items ≡ gap_line due here) (λ line. IsGapLine c.args.wanted.now c.args.stands.now line.items)
    (λ line is. Differ due here apart is) c.wanted_line.ensures

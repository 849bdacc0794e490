use Rattle.std.proofs.Common.{◌∙◌, ap, List, ℕ, ◌++◌}
use Rattle.std.specs.Prelude.{codes}
use Rattle.text_line_reader.specs.ReportView.{view_text}
use Rattle.explain_reports.specs.Gaps.{side_text}
use Rattle.explain_reports.proofs.Apart.{joined}
use Rattle.explain_reports.proofs.gaps.wanted_line.Goals as goal

pub returns : goal.returns
returns c =
    let due = side_text (view_text c.args.due) in
    joined due (codes " is wanted; here stands ") (side_text (view_text c.args.here)) (codes "\n") _ _ _ _
    (c.in_ok-put_side.ensures ∙ ap (λ (xs : List ℕ). xs ++ due) c.new-line.ensures.items)
    c.in_ok-extend_from_slice.ensures.items c.in_ok-put_side-2.ensures c.in_ok-extend_from_slice-2.ensures.items

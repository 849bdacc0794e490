use Rattle.std.proofs.Common.{◌≡◌}
use Rattle.text_line_reader.specs.Lines.{lines}
use Rattle.explain_reports.specs.Explaining.{whole_at}
use Rattle.explain_reports.proofs.lines.line_at.Given as goal

abbrev pub invariant-lines : goal.invariant-lines
invariant-lines l = whole_at l.left (lines l.rest) ≡ whole_at l.place (lines l.bytes)

abbrev pub decreases-lines : goal.decreases-lines
decreases-lines l = l.left

use Rattle.std.proofs.Common.{◌≡◌, length}
use Rattle.text_line_reader.specs.Lines.{lines}
use Rattle.text_line_reader.proofs.Each.{joined}
use Rattle.text_line_reader.specs.ScheduleReading.{raws_at}
use Rattle.text_line_reader.specs.ScheduleView.{view_moves}
use Rattle.text_line_reader.proofs.schedule.shape.raws_of.Given as goal

abbrev pub invariant-moves : goal.invariant-moves
invariant-moves l = joined (view_moves l.moves.items) (raws_at l.fn.cells (lines l.rest)) ≡ raws_at l.fn.cells (lines l.fn.bytes)

abbrev pub decreases-moves : goal.decreases-moves
decreases-moves l = length l.rest

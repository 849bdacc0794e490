use Rattle.std.proofs.Common.{◌≡◌, drop}
use Rattle.text_line_reader.proofs.Each.{joined}
use Rattle.text_line_reader.specs.ScheduleResolving.{moves_told}
use Rattle.text_line_reader.specs.ScheduleView.{view_moves}
use Rattle.text_line_reader.proofs.schedule.resolve.moves_told.Given as goal

abbrev pub invariant-lines : goal.invariant-lines
invariant-lines l = joined l.made.items (moves_told l.catalogue (view_moves (drop l.line-index l.lines))) ≡ moves_told l.catalogue (view_moves l.lines)

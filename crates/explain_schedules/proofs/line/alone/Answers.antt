use Rattle.std.proofs.Common.{sym, ◌∙◌}
use Rattle.text_line_reader.specs.ScheduleRaw.{Word}
use Rattle.explain_schedules.proofs.Lines.{alone_line, alone_stops}
use Rattle.explain_schedules.proofs.line.alone.Goals as goal

pub returns-then-is_word-clause-line : goal.returns-then-is_word-clause-line
returns-then-is_word-clause-line c cells = record { raw = Word; read = alone_line cells c.args.text.now c.requires (sym c.is_word.ensures ∙ c.if-is_word.true); says = tt }

pub returns-else-is_word-clause-stop : goal.returns-else-is_word-clause-stop
returns-else-is_word-clause-stop c cells = alone_stops cells c.args.text.now c.requires (sym c.is_word.ensures ∙ c.if-is_word.false)

-- What the code's lines say, and not where they lie in memory.
use Rattle.std.specs.Prelude.{List, map}
use Rattle.text_line_reader.specs.ScheduleRaw.{Raw}
use Rattle.text_line_reader.specs.ScheduleRaw as raw
use Rattle.text_line_reader.specs.declared.schedule.raw.RawMove.{RawMove}
use Rattle.text_line_reader.specs.declared.schedule.raw.RawMove.TheVariants as code

abbrev pub view_move : RawMove → Raw
view_move (code.OfTask verb number) = raw.OfTask verb number.text.now
view_move (code.OfVariable verb number name) = raw.OfVariable verb number.text.now name.now
view_move (code.OfCell verb number table index) = raw.OfCell verb number.text.now table.now index.text.now
view_move code.Word = raw.Word

abbrev pub view_moves : List RawMove → List Raw
view_moves raws = map view_move raws

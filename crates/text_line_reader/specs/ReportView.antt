-- What the code's parts of bytes and raw reports say, and not where they lie in memory.
use Rattle.std.specs.Prelude.{List, map}
use Rattle.text_line_reader.specs.ReportRaw.{Variable, Cell, Ending, Entry, Task, Raw}
use Rattle.text_line_reader.specs.ReportRaw as raw
use Rattle.text_line_reader.specs.declared.report.raw.RawVariable.{RawVariable}
use Rattle.text_line_reader.specs.declared.report.raw.RawCell.{RawCell}
use Rattle.text_line_reader.specs.declared.report.raw.RawEnding.{RawEnding}
use Rattle.text_line_reader.specs.declared.report.raw.RawEnding.TheVariants as code
use Rattle.text_line_reader.specs.declared.report.raw.RawEntry.{RawEntry}
use Rattle.text_line_reader.specs.declared.report.raw.RawTask.{RawTask}
use Rattle.text_line_reader.specs.declared.report.raw.RawReport.{RawReport}
pub use Rattle.text_line_reader.specs.View.{view_text}

abbrev pub view_variable : RawVariable → Variable
view_variable v = record { name = v.name.now; value = v.value.text.now; version = v.version.text.now }

abbrev pub view_cell : RawCell → Cell
view_cell c = record { table = c.table.now; index = c.index.text.now; value = c.value.text.now; version = c.version.text.now }

abbrev pub view_ending : RawEnding → Ending
view_ending (code.Returned value) = raw.Returned value.text.now
view_ending (code.Threw value) = raw.Threw value.text.now
view_ending code.Overflow = raw.Overflow
view_ending code.DivideByZero = raw.DivideByZero
view_ending code.Outside = raw.Outside
view_ending (code.Broke name) = raw.Broke name.now

abbrev pub view_entry : RawEntry → Entry
view_entry e = record { number = e.number.text.now; task = e.task.text.now; name = e.name.now; ending = view_ending e.ending }

abbrev pub view_task : RawTask → Task
view_task t = record { task = t.task.text.now; name = t.name.now }

abbrev pub view_variables : List RawVariable → List Variable
view_variables vs = map view_variable vs

abbrev pub view_cells : List RawCell → List Cell
view_cells cs = map view_cell cs

abbrev pub view_entries : List RawEntry → List Entry
view_entries es = map view_entry es

abbrev pub view_tasks : List RawTask → List Task
view_tasks ts = map view_task ts

abbrev pub view_raw : RawReport → Raw
view_raw r =
    record {
      base = r.base.text.now;
      base_vars = view_variables r.base_vars.items;
      base_cells = view_cells r.base_cells.items;
      entries = view_entries r.entries.items;
      current = r.now.text.now;
      current_vars = view_variables r.now_vars.items;
      current_cells = view_cells r.now_cells.items;
      parked = view_tasks r.parked.items;
      memory = view_tasks r.memory.items;
    }
